-- Several readers of one store: demand 3's middle sentence. To believe: Calls, Runs. The theorem: `as_if_alone` of Alone.
-- Beside it `own_as_if_alone` of Alone (others may lack room) and `decided_as_if_alone` of Deciding (each call is chosen by what was seen).
-- Examples: two readers whose numbers differ, shared and alone, and who see the same.
pub mod Calls
pub mod Runs
pub use Rattle.reasons.specs.Calls as ReasonsCalls
pub use Rattle.reasons.specs.Outputs
pub use Rattle.reasons.specs.Refused
pub use Rattle.reasons.specs.Sentences
pub use Rattle.reasons.specs.VerdictsCalls
pub use Rattle.reasons.specs.VerdictsSentences
