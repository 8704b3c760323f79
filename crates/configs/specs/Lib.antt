-- Calls on a set. To believe: Replies.
pub mod Replies
pub mod Writes
pub mod Adding
pub mod Settles
pub mod Determined
pub use Rattle.contexts.specs.MergeCall
pub use Rattle.contexts.specs.Promises
pub use Rattle.sets.specs.Calls
pub use Rattle.sets.specs.Config
pub use Rattle.sets.specs.Layout
