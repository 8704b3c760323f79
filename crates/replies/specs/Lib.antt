-- A record's call and its reply. To believe: Replies. Proved beside it: `call_zero` of Zeros, that the scratch is 0 after every call; of Stops,
-- `stops_given`, `stops_refused` and `stops_kept`, which stop states a script has.
pub mod Replies
pub mod Zeros
pub mod Stops
pub use Rattle.contexts.specs.MergeCall
pub use Rattle.figures.specs.Calls as FiguresCalls
pub use Rattle.figures.specs.Outputs
pub use Rattle.figures.specs.Same
pub use Rattle.figures.specs.VerdictsCalls as Calls
pub use Rattle.interning.specs.SingletonCall
pub use Rattle.lines.specs.Laid
pub use Rattle.lines.specs.Lines
pub use Rattle.reasons.specs.Calls as ReasonsCalls
