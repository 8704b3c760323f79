-- Config sets. To believe: Config, Lists, Layout, Sets, Words, Calls.
pub mod Config
pub mod Lists
pub mod Layout
pub mod Sets
pub mod Words
pub mod Calls
pub mod Chains
pub mod Flags
pub mod Listed
pub mod Held
pub use Rattle.encoding.specs.Bools
pub use Rattle.encoding.specs.Layout as LayoutLayout
pub use Rattle.encoding.specs.Numbers
pub use Rattle.encoding.specs.Reads
pub use Rattle.store.specs.Asks
pub use Rattle.store.specs.Calls as StoreCalls
pub use Rattle.store.specs.Check
pub use Rattle.store.specs.Checks
