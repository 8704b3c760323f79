-- All figures of a set by one check. To believe: Calls, Replies. To read beside document 01: Same.
pub mod Calls
pub mod Replies
pub mod Told
pub mod Same
pub use Rattle.verdicts.specs.Calls as VerdictsCalls
pub use Rattle.verdicts.specs.Outputs
