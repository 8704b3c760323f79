-- The call for the reason, and its reply. Nothing here has to be believed: `call_of` of `replies` says what each prints and leaves.
pub mod Spread
pub mod Because
