-- Bytes compared. Nothing here has to be believed.
pub mod Agreeing
