-- To believe: the words that `trace` leaves.
pub mod Laws
use Rattle.std.specs.Prelude.{◌≡◌, Bool, true, false, List, ℕ}
use Rattle.steps.specs.Replies.{Lent}
use Rattle.steps.specs.Steps.{fresh, run_from, run_of}

-- those that the script leads to; or, where a write failed, those after some of its steps
abbrev pub Traced : List ℕ → Bool → Lent → Type 0
Traced s true l = l ≡ (run_of s).words
Traced s false l = (k : ℕ) × (l ≡ (run_from k s 0 fresh).words)
