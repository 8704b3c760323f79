-- The first config of each kind, and the marks. Nothing here has to be believed.
pub mod Alike
pub mod Ways
pub mod Leads
pub mod Places
pub mod Led
pub mod Find
pub mod Step
pub mod Clash
pub mod Marks
pub mod FirstMarked
pub use Rattle.groups.specs.Answers
pub use Rattle.groups.specs.Groups
