-- Stores of contexts. To believe: Store, Stands, Place, Numbering, Kinds, Room. The rest are laws.
pub mod Store
pub mod Stands
pub mod Place
pub mod Kinds
pub mod Room
pub mod Numbering
pub use Rattle.stacks.specs.Bools
pub use Rattle.stacks.specs.Forest
pub use Rattle.stacks.specs.Merge
pub use Rattle.stacks.specs.Numbers
pub use Rattle.stacks.specs.Rules
