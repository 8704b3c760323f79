-- Lemmas and theorems on the definitions of specs/. Nothing here has to be believed.
pub mod After
pub mod CountedLaws
pub mod Depth
pub mod Equations
pub mod Examples
pub mod Exchange
pub mod Heads
pub mod Hits
pub mod Kept
pub mod KeptWords
pub mod Keys
pub mod Served
pub mod Theorems
pub mod Walked
