-- Merges counted. To believe: Counted. Theorems says what it is worth; Equations, Heads and KeptWords what code follows; the rest are laws.
pub mod Counted
pub use Rattle.arena.specs.Store
pub use Rattle.encoding.specs.Encoded
pub use Rattle.encoding.specs.Layout
pub use Rattle.encoding.specs.Reads
