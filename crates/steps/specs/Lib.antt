-- Steps of a script. To believe: Steps; Answers, which says what the enum stands for; and ContextsMade. Proved beside them: `step_zero` of Steps.Laws,
-- that the scratch is 0 after every step; `sum_of_figures` of ContextsMadeLaws; `start_determined` and `step_determined` of Determined.
pub mod Steps
pub mod Answers
pub mod ContextsMade
pub mod Made
pub mod Lent
pub mod Determined
pub use Rattle.configs.specs.MergeCall
pub use Rattle.format.specs.Bytes
pub use Rattle.format.specs.Format
pub use Rattle.format.specs.Payloads
pub use Rattle.interning.specs.SingletonCall
pub use Rattle.layout.specs.Decode
pub use Rattle.layout.specs.Encode
pub use Rattle.layout.specs.Kinds
pub use Rattle.layout.specs.Layout
pub use Rattle.layout.specs.Listing
pub use Rattle.layout.specs.Merge
pub use Rattle.layout.specs.Place
pub use Rattle.layout.specs.Room
pub use Rattle.layout.specs.Store
pub use Rattle.lines.specs.Answers as GroupsAnswers
pub use Rattle.lines.specs.Decimal
pub use Rattle.lines.specs.Groups
pub use Rattle.lines.specs.Lines
pub use Rattle.lines.specs.Lists as GroupsLists
pub use Rattle.lines.specs.Reason
pub use Rattle.replies.specs.Calls as VerdictsCalls
pub use Rattle.replies.specs.FiguresCalls
pub use Rattle.replies.specs.Outputs
pub use Rattle.replies.specs.ReasonsCalls
pub use Rattle.replies.specs.Replies
pub use Rattle.replies.specs.Same
pub use Rattle.replies.specs.Zeros
pub use Rattle.sets.specs.Calls as SetsCalls
pub use Rattle.sets.specs.Config
pub use Rattle.sets.specs.Layout as SetsLayout
pub use Rattle.sets.specs.Lists
pub use Rattle.sets.specs.Sets
pub use Rattle.sets.specs.Words
pub use Rattle.store.specs.Calls
pub use Rattle.store.specs.Checks
pub use Rattle.store.specs.Counted
pub use Rattle.store.specs.Decide
pub use Rattle.words.specs.Provenance
