pub mod Ends
pub mod Standing
