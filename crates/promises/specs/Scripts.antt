-- Promised: scripts, and what holds of every call in them. s is a script's bytes, l the words lent to it: store, set, stop states and scratch.
-- Nothing here has to be believed but what the statements say.
use Rattle.std.specs.Prelude.{◌≡◌, List, [], ◌∷◌, ◌++◌, ℕ, length}
use Rattle.encoding.specs.Layout.{store_words, scratch_words}
use Rattle.store.specs.Calls.{zeros}
use Rattle.sets.specs.Layout.{set_words_length}
use Rattle.steps.specs.Format.{Record}
use Rattle.steps.specs.Lines.{end_line}
use Rattle.steps.specs.Replies.{Lent, call_of}
use Rattle.steps.specs.Zeros.{call_zero}
use Rattle.steps.specs.Steps.{step_of, run_of, script_replies}
use Rattle.steps.specs.Steps.Laws.{step_zero}
use Rattle.script.specs.Leads.{run_leads, end_line_lem}
use Rattle.examples.specs.Examples.{script, example}

-- "Scratch: 16,384 u32 words, any contents on entry, all 0 on return": of each record's call, refused or not, over slices of the right lengths, and of
-- each step of a script
module _ (l : Lent) (w : length l.store ≡ store_words) (v : length l.set ≡ set_words_length) (z : length l.scratch ≡ scratch_words) where
  pub scratch_0_after_a_call : (r : Record) → (call_of l r).words.scratch ≡ zeros
  scratch_0_after_a_call = call_zero l (record { store = w; set = v; scratch = z })

  pub scratch_0_after_a_step : (s : List ℕ) (i : ℕ) → (step_of s i l).printed.words.scratch ≡ zeros
  scratch_0_after_a_step s i = step_zero s i l (record { store = w; set = v; scratch = z })

-- "The end line is `T` contexts, pool entries": of the store that the script leads to
pub end : (s : List ℕ) → script_replies s ≡ (run_of s).reply ++ end_line (run_of s).words.store
end s = end_line_lem s (run_of s).words (run_leads s)

-- document 01's script, and all that it prints, none as `-` (request A2) and with the contexts that were made (request A3): `C 1 1`, `C 2 1`,
-- `E 2 42>0 $`, `N`, `A 1 0`, `A 1 0`, `V 1 - 1 1`, `T 3 2`
pub the_example : script_replies (
    12 ∷ 0 ∷ 1 ∷ 0 ∷ 0 ∷ 0 ∷ 0 ∷ 0 ∷ 42 ∷ 0 ∷ 0 ∷ 0 ∷ 0 ∷ 0 ∷ 0 ∷ 0
    ∷ 9 ∷ 0 ∷ 2 ∷ 0 ∷ 1 ∷ 0 ∷ 0 ∷ 0 ∷ 0 ∷ 0 ∷ 0 ∷ 0 ∷ 0
    ∷ 4 ∷ 0 ∷ 7 ∷ 0 ∷ 2 ∷ 0 ∷ 0 ∷ 0
    ∷ 1 ∷ 0 ∷ 3 ∷ 0 ∷ 0
    ∷ 24 ∷ 0 ∷ 4 ∷ 0 ∷ 7 ∷ 0 ∷ 0 ∷ 0 ∷ 1 ∷ 0 ∷ 0 ∷ 0 ∷ 1 ∷ 0 ∷ 0 ∷ 0 ∷ 0 ∷ 0 ∷ 0 ∷ 0 ∷ 0 ∷ 0 ∷ 0 ∷ 0 ∷ 0 ∷ 0 ∷ 0 ∷ 0
    ∷ 24 ∷ 0 ∷ 4 ∷ 0 ∷ 7 ∷ 0 ∷ 0 ∷ 0 ∷ 2 ∷ 0 ∷ 0 ∷ 0 ∷ 1 ∷ 0 ∷ 0 ∷ 0 ∷ 0 ∷ 0 ∷ 0 ∷ 0 ∷ 0 ∷ 0 ∷ 0 ∷ 0 ∷ 0 ∷ 0 ∷ 0 ∷ 0
    ∷ 0 ∷ 0 ∷ 6 ∷ 0 ∷ []) ≡
    67 ∷ 32 ∷ 49 ∷ 32 ∷ 49 ∷ 10
    ∷ 67 ∷ 32 ∷ 50 ∷ 32 ∷ 49 ∷ 10
    ∷ 69 ∷ 32 ∷ 50 ∷ 32 ∷ 52 ∷ 50 ∷ 62 ∷ 48 ∷ 32 ∷ 36 ∷ 10
    ∷ 78 ∷ 10
    ∷ 65 ∷ 32 ∷ 49 ∷ 32 ∷ 48 ∷ 10
    ∷ 65 ∷ 32 ∷ 49 ∷ 32 ∷ 48 ∷ 10
    ∷ 86 ∷ 32 ∷ 49 ∷ 32 ∷ 45 ∷ 32 ∷ 49 ∷ 32 ∷ 49 ∷ 10
    ∷ 84 ∷ 32 ∷ 51 ∷ 32 ∷ 50 ∷ 10 ∷ []
unfolding script
the_example = example

-- "Marked P: proved as one table over the definitions, by a single statement": examples: `P1-to-P12`, whose one home is there.
-- "`R 9`, then only the end line": the definition `step_of` says so of every place and every byte, and `run_step` is its equation; a script's own
-- `R 10` is `stops_call`. That any two outcomes of a call are equal is proved beside each call (`Determined`, in each crate).
