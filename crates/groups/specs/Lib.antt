-- The subsets of a set's configs, and the answers on them. To believe: Lists, Groups, Answers, Sentences, Reason.
-- To read beside document 01: Rules, Conflicts, Equal, Single, Decided. For code: Last, Parts, Counted, Room. For readers: Renamed.
pub mod Lists
pub mod Groups
pub mod Answers
pub mod Sentences
pub mod Reason
pub use Rattle.sets.specs.Asks
pub use Rattle.sets.specs.Calls
pub use Rattle.sets.specs.Chains
pub use Rattle.sets.specs.Check
pub use Rattle.sets.specs.Checks
pub use Rattle.sets.specs.Config
pub use Rattle.sets.specs.Layout
pub use Rattle.sets.specs.LayoutLayout
pub use Rattle.sets.specs.Listed
pub use Rattle.sets.specs.Lists as SetsLists
pub use Rattle.sets.specs.Reads
pub use Rattle.sets.specs.Words
