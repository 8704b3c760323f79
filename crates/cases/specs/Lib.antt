-- Proofs by cases. Nothing here has to be believed.
pub mod Numbers
pub mod Bools
