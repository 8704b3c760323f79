-- The check of records. Nothing here has to be believed: Check says what it has found, Judge and Fresh why.
pub mod Check
pub mod Judge
pub mod Fresh
pub use Rattle.encoding.specs.Decoded
pub use Rattle.encoding.specs.Reads
