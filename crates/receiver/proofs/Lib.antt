mod Settlement
mod Telling
mod Conversing
