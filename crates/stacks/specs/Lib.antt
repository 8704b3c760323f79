-- Finite sets of stacks of return states. To believe: Forest, Merge, Rules (document 01 sentence by sentence), Losses.
pub mod Forest
pub mod Canon
pub mod Beneath
pub mod Merge
pub mod Rules
pub mod Finite
pub mod Losses
pub use Rattle.cases.specs.Bools
pub use Rattle.cases.specs.Numbers
