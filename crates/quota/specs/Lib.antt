pub mod Quotas
pub mod Shares
