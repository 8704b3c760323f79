-- Lemmas and theorems on the definitions of specs/. Nothing here has to be believed.
pub mod Grouping
pub mod OneNumber
pub mod Growth
pub mod Held
pub mod InTurn
pub mod MergeLaws
