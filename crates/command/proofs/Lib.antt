mod Counts
mod Judging
mod Readings
mod Spacing
