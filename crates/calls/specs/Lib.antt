-- A record's call, run. Nothing here has to be believed: `call_of` of `replies` says what each prints and leaves.
pub mod Called
