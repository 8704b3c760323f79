-- Lemmas and theorems on the definitions of specs/. Nothing here has to be believed.
pub mod Beginning
pub mod Sides
pub mod Turns
pub mod Walking
