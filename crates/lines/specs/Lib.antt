-- Replies as bytes. To believe: Decimal, Lines, Laid.
-- Proved beside them: `decimal_value` and `decimal_first` of Decimal.Laws, that the digits are the number; `end_determined` of Determined.
pub mod Decimal
pub mod Lines
pub mod Laid
pub mod Entries
pub mod Spread
pub mod Determined
pub use Rattle.groups.specs.Answers
pub use Rattle.groups.specs.Calls
pub use Rattle.groups.specs.Check
pub use Rattle.groups.specs.Checks
pub use Rattle.groups.specs.Groups
pub use Rattle.groups.specs.Layout
pub use Rattle.groups.specs.Lists
pub use Rattle.groups.specs.Reason
pub use Rattle.layout.specs.Layout as LayoutLayout
