-- The unique alternative over config records. To read beside document 01: Same.
pub mod Records
pub mod Same
pub use Rattle.deciding.specs.OneAlt
