-- Does a theme occur at all?
pub mod Occurring
