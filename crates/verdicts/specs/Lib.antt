-- The calls on a set's subsets. To believe: Calls, Replies. To read beside document 01: Sentences, Refused, Determined.
pub mod Calls
pub mod Replies
pub mod Refused
pub mod Opened
pub mod Sentences
pub use Rattle.groups.specs.Answers
pub use Rattle.outputs.specs.Outputs
