-- Lemmas and theorems on the definitions of specs/. Nothing here has to be believed.
pub mod Conflicts
pub mod Counted
pub mod Decided
pub mod Equal
pub mod Firsts
pub mod Last
pub mod Parts
pub mod ReasonLaws
pub mod Renamed
pub mod Rising
pub mod Room
pub mod Rules
pub mod Single
