mod Gathering
mod Merging
pub mod Summaries
mod Fronts
