-- Why a verdict is what it is, as a call. To believe: Calls, Replies; the reason itself is groups: Reason.
pub mod Calls
pub mod Replies
pub mod First
pub mod Because
pub mod Clash
pub mod Told
pub mod Sentences
pub mod Determined
pub use Rattle.outputs.specs.Outputs
pub use Rattle.verdicts.specs.Calls as VerdictsCalls
pub use Rattle.verdicts.specs.Refused
pub use Rattle.verdicts.specs.Sentences as VerdictsSentences
