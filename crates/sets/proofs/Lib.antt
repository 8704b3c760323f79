-- Lemmas and theorems on the definitions of specs/. Nothing here has to be believed.
pub mod Joined
pub mod Kept
pub mod Refusals
pub mod Sound
