-- The words of the subsets and of the conflicting alternatives, written. To believe: Outputs.
pub mod Outputs
pub mod Insert
pub mod Rows
pub mod Alts
pub mod Members
pub mod Written
