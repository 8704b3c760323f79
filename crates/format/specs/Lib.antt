-- The format of a script. To believe: Bytes, Payloads, Format, and Answers, which says what each enum stands for.
-- Proved beside them: `decode_determined` of Determined.
pub mod Bytes
pub mod Payloads
pub mod Table
pub mod Format
pub mod Answers
pub mod Whole
pub mod Determined
pub use Rattle.setcheck.specs.Decode
pub use Rattle.setcheck.specs.Store
pub use Rattle.setcheck.specs.StoreCalls as Calls
