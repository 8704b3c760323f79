-- Lemmas and theorems on the definitions of specs/. Nothing here has to be believed.
pub mod DecideLaws
pub mod CutPlaces
pub mod CutBack
