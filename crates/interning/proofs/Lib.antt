-- Lemmas and theorems on the definitions of specs/. Nothing here has to be believed.
pub mod Outcomes
pub mod Promises
pub mod SingletonNested
