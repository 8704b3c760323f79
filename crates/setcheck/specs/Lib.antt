-- The check of a set. To believe: Configs.
pub mod Configs
pub mod Flags
pub mod Keys
pub mod Judged
pub mod Verdicts
pub mod Opened
pub use Rattle.layout.specs.Decode
pub use Rattle.layout.specs.Layout
pub use Rattle.layout.specs.Store
pub use Rattle.sets.specs.Calls
pub use Rattle.sets.specs.Config
pub use Rattle.sets.specs.Words
pub use Rattle.store.specs.Calls as StoreCalls
