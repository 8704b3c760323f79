-- To believe: what a script does, record by record, as functions of its bytes and of the lent words.
pub mod Laws
use Rattle.std.specs.Prelude.{true, false, List, [], ◌∷◌, ◌++◌, ℕ, zero, suc, ltb, length}
use Rattle.layout.specs.Store.{dollar}
use Rattle.layout.specs.Encode.{words_of}
use Rattle.store.specs.Calls.{zeros}
use Rattle.sets.specs.Sets.{empty_set}
use Rattle.sets.specs.Words.{set_words}
use Rattle.format.specs.Format.{Reading, found, ended, malformed, read_at}
use Rattle.lines.specs.Lines.{refusal_line, end_line}
use Rattle.replies.specs.Replies.{Lent, lent, Printed, wiped, stop_words, call_of}

-- bytes that a script may have
abbrev pub most_bytes : ℕ
most_bytes = 32768

-- the words that a script starts from: "over a fresh store, an empty full-context set and no stop states"
unfoldable pub fresh : Lent
fresh = lent (words_of (dollar ∷ [])) (set_words (empty_set true)) (stop_words []) zeros

-- ---- a step

-- where a script goes on: at a place, or nowhere, since it is over
pub data After : Type 0 where
  goes : ℕ → After
  over : After

pub record Stepped : Type 0 where
  pub after : After
  pub printed : Printed

-- the script is over: nothing is printed, or `R 9`
abbrev pub ends : List ℕ → Lent → Stepped
ends e l = record { after = over; printed = record { reply = e; words = lent l.store l.set l.stops (wiped l.scratch) } }

unfoldable pub reading_step : Lent → Reading → Stepped
reading_step l (found r j) = record { after = goes j; printed = call_of l r }
reading_step l ended = ends [] l
reading_step l malformed = ends (refusal_line 9) l

-- one step of the script s at the place i: "It prints `R 9`, then only the end line; an overlong input does so before any record"
unfoldable pub step_of : List ℕ → ℕ → Lent → Stepped
step_of s i l = elim (ltb most_bytes (length s)) [ true ↦ ends (refusal_line 9) l | false ↦ reading_step l (read_at s i) ]

-- ---- a whole script

-- bytes printed before
abbrev pub onto : List ℕ → Printed → Printed
onto xs p = record { reply = xs ++ p.reply; words = p.words }

-- the steps from place i on, k of them at most
unfoldable pub run_from : ℕ → List ℕ → ℕ → Lent → Printed
run_from zero s i l = record { reply = []; words = l }
run_from (suc k) s i l =
    let t = step_of s i l in
    elim t.after [ goes j ↦ onto t.printed.reply (run_from k s j t.printed.words) | over ↦ t.printed ]

-- "`trace` reads one script". A step takes a byte at least, so that there are enough of them
unfoldable pub run_of : List ℕ → Printed
run_of s = run_from (suc (length s)) s 0 fresh

-- all that it prints: its replies, and the end line
unfoldable pub script_replies : List ℕ → List ℕ
script_replies s = (run_of s).reply ++ end_line (run_of s).words.store
