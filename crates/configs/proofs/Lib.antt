-- Lemmas and theorems on the definitions of specs/. Nothing here has to be believed.
pub mod Adds
pub mod Inserts
pub mod Joins
pub mod Sentences
