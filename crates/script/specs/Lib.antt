-- Whole scripts. Proved here: `run_leads` and `leads_determined` of Leads, that a run has steps enough and leads to one end; and
-- `replays_determined` of Determined.
pub mod Leads
pub mod Replayed
pub mod Determined
pub use Rattle.agreeing.specs.Agreeing
pub use Rattle.steps.specs.Steps
