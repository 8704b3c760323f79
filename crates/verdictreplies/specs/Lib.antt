-- The call for the verdict, and its reply. Nothing here has to be believed: `call_of` of `replies` says what each prints and leaves.
pub mod Figured
pub use Rattle.replies.specs.Replies
