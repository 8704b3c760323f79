-- The check of a store. Nothing here has to be believed.
pub mod Judgements
pub use Rattle.index.specs.Grow
pub use Rattle.recordcheck.specs.Check
