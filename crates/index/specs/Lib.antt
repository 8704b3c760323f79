-- The index over a store: the hash of a context, the chains of contexts by bucket, and entries on the stack.
pub mod Hash
pub mod Older
pub mod Chain
pub mod Index
pub mod Records
pub mod Found
pub mod Writes
pub mod Walk
pub mod Same
pub mod Search
pub mod Grow
pub mod Load
pub use Rattle.layout.specs.Decode
pub use Rattle.layout.specs.Encode
pub use Rattle.layout.specs.Layout
