-- Lemmas and theorems on the definitions of specs/. Nothing here has to be believed.
pub mod Alike
pub mod Alone
pub mod Deciding
pub mod Examples
pub mod Kept
pub mod Programs
pub mod Pure
pub mod Turns
pub mod Twins
