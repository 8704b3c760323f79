-- Lemmas and theorems on the definitions of specs/. Nothing here has to be believed.
pub mod Below
pub mod BelowLaws
pub mod Identity
pub mod KindsLaws
pub mod NumberingLaws
pub mod PlaceLaws
pub mod Placed
pub mod RoomLaws
pub mod Soundness
pub mod Steps
pub mod Trees
