-- What walks over a set's configs decide of its subsets. To believe: OneAlt.
pub mod OneAlt
pub mod Picked
pub mod Alone
pub mod Stops
pub use Rattle.groups.specs.Answers
pub use Rattle.groups.specs.Calls
pub use Rattle.groups.specs.Reason
