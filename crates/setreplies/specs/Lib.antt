-- A record's call that changes the set or the stop states, and its reply. Nothing here has to be believed: `call_of` of `replies` says what each prints and leaves.
pub mod Settled
pub mod Holds
pub use Rattle.lines.specs.Lines
pub use Rattle.replies.specs.FiguresCalls as Calls
pub use Rattle.replies.specs.Outputs
pub use Rattle.replies.specs.ReasonsCalls
pub use Rattle.replies.specs.Replies
