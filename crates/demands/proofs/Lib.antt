-- That the demands hold: `Away` (what is turned away), `True` (what is listed and prepared is true), `Whole` (pages joined are
-- the whole list), `Alike` (quick pages are the plain ones), `Questions` (the question), `Updates` (the update),
-- `Explanations` (the explainer), `Routings` (the router). What it comes to: `Demands`.
mod Away
mod True
mod Whole
mod Alike
mod Questions
mod Updates
mod Explanations
mod Routings
pub mod Demands
