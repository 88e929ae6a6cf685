pub mod Judgements
pub mod Phases
