-- The words of a store. To believe: Layout, Listing, Decode, Encode, Sound.
pub mod Layout
pub mod Scratch
pub mod Listing
pub mod Decode
pub mod Sound
pub mod Encode
pub mod Ceilings
pub mod Records
pub use Rattle.arena.specs.Kinds
pub use Rattle.arena.specs.Merge
pub use Rattle.arena.specs.Place
pub use Rattle.arena.specs.Room
pub use Rattle.arena.specs.Store
