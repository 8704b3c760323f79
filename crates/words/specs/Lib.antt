-- What the contracts of this crate cite, a subject a file; the laws of a subject stand below it.
pub mod Hash
pub mod Lent
pub mod Multiply
pub mod Names
pub mod Compact
pub mod Provenance
pub mod Refusals
pub use Rattle.cases.specs.Bools
pub use Rattle.cases.specs.Numbers
