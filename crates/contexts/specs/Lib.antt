pub mod MergeCall
pub mod Replies
pub mod Promises
pub use Rattle.interning.specs.Live
