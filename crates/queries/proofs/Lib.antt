-- Lemmas and theorems on the definitions of specs/. Nothing here has to be believed.
pub mod Determined
pub mod EntryWords
pub mod Refused
pub mod Sentences
