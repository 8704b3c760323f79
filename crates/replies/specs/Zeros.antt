-- "Scratch: .. all 0 on return": of every call over words of the right lengths. Nothing here has to be believed.
use Rattle.std.specs.Prelude.{◌≡◌, Bool, ◌&&◌, ℕ, length}
use Rattle.std.proofs.Math.Path.{refl, sym, ap}
use Rattle.std.proofs.Common.{◌∙◌}
use Rattle.std.proofs.Math.Bool.{true, false, not}
use mathlib.Core.List.{List, [], ◌∷◌}
use Rattle.std.proofs.Math.Dec.{eqb}
use borrow.Author.Tests.{eq-eqb}
use Rattle.words.specs.Bools.{bool?, and_left, and_right}
use Rattle.layout.specs.Layout.{store_words, scratch_words, blank}
use Rattle.store.specs.Checks.{Check, given, unless}
use Rattle.store.specs.Checks.Laws.{absent, unless_first, unless_next}
use Rattle.store.specs.Calls.{zeros, asked}
use Rattle.store.specs.Calls.Laws.{zero_after}
use Rattle.lines.specs.Layout.{set_words_length}
use Rattle.lines.specs.Calls.{SetLeft, refusal, lent_lengths, lent_checks, add_checks, fresh_set_call, add_call, close_call}
use Rattle.figures.specs.VerdictsCalls.{VerdictLeft, read_refusal, read_call}
use Rattle.figures.specs.Calls.{figures_call}
use Rattle.figures.specs.Outputs.{alts_length}
use Rattle.reasons.specs.Calls.{why_call}
use Rattle.interning.specs.SingletonCall.{singleton_checks, singleton_call}
use Rattle.contexts.specs.MergeCall.{merge_checks, merge_call}
use Rattle.format.specs.Format.{Record, singleton, merge, new_set, add, stops, verdict, show, close, why}
use Rattle.replies.specs.Replies.{Lent, wiped, new_set_call, call_of}

pub wiped_zero : (z : List ℕ) → length z ≡ scratch_words → wiped z ≡ zeros
unfolding wiped
wiped_zero z lz = rw (eq-eqb (length z) scratch_words lz, wiped)

-- ---- a call on a set: past check 2 every outcome leaves zeros

-- what is read off every outcome but a refusal 2
module _ {A : Type 0} (scratch : A → List ℕ) (refuse : ℕ → A) (refused : (n : ℕ) → eqb n 2 ≡ false → scratch (refuse n) ≡ zeros)
    (go : A) (goes : scratch go ≡ zeros) where
  past_two : (cs : List Check) → absent 2 cs ≡ true → scratch (unless cs refuse go) ≡ zeros
  unfolding unless absent
  past_two [] a = goes
  past_two (c ∷ cs) a =
      bool? c.holds
      (λ e. ap scratch (unless_first refuse go c cs e) ∙ refused c.number (not_two (eqb c.number 2) (and_left _ _ a)))
      (λ e. ap scratch (unless_next refuse go c cs e) ∙ past_two cs (and_right (not (eqb c.number 2)) _ a))
    where
      not_two : (b : Bool) → not b ≡ true → b ≡ false
      not_two true e = sym e
      not_two false e = refl

  passed_two : (b : Bool) → b ≡ true → (cs : List Check) → absent 2 cs ≡ true → scratch (unless (given 2 (not b) ∷ cs) refuse go) ≡ zeros
  passed_two b e cs a = ap scratch (unless_next refuse go (given 2 (not b)) cs (rw e)) ∙ past_two cs a

-- each lent slice has its length
pub record Sized (l : Lent) : Type 0 where
  pub store : length l.store ≡ store_words
  pub set : length l.set ≡ set_words_length
  pub scratch : length l.scratch ≡ scratch_words

module _ (l : Lent) (k : Sized l) where
  lengths : lent_lengths l.store l.set l.scratch ≡ true
  unfolding lent_lengths
  lengths = rw (eq-eqb (length l.store) store_words k.store, eq-eqb (length l.set) set_words_length k.set, eq-eqb (length l.scratch) scratch_words k.scratch)

  set_refused : (n : ℕ) → eqb n 2 ≡ false → (refusal l.store l.set l.scratch n).scratch ≡ zeros
  unfolding refusal
  set_refused n e = rw (e, refusal)

  read_refused : (o : List ℕ) (n : ℕ) → eqb n 2 ≡ false → (read_refusal l.scratch o n).scratch ≡ zeros
  unfolding read_refusal
  read_refused o n e = rw (e, read_refusal)

  new_zero : (full : Bool) → (new_set_call l.store l.set l.scratch full).scratch ≡ zeros
  unfolding new_set_call fresh_set_call unless
  new_zero full = rw (eq-eqb (length l.set) set_words_length k.set, unless) (wiped_zero l.scratch k.scratch)

  pub call_zero : (r : Record) → (call_of l r).words.scratch ≡ zeros
  unfolding call_of singleton_checks singleton_call merge_checks merge_call asked absent lent_checks add_checks add_call close_call figures_call why_call read_call blank
  call_zero (singleton p r) = zero_after l.store l.scratch _ _ k.store k.scratch refl refl
  call_zero (merge a b m) = zero_after l.store l.scratch _ _ k.store k.scratch refl refl
  call_zero (new_set m) = new_zero (not m)
  call_zero (add x) = passed_two (λ (y : SetLeft). y.scratch) (refusal l.store l.set l.scratch) set_refused _ refl _ lengths _ refl
  call_zero (stops xs) = wiped_zero l.scratch k.scratch
  call_zero verdict =
      passed_two (λ (y : VerdictLeft). y.scratch) (read_refusal l.scratch []) (read_refused []) _ refl
      (lent_lengths l.store l.set l.scratch && true) (rw lengths) _ refl
  call_zero why =
      passed_two (λ (y : VerdictLeft). y.scratch) (read_refusal l.scratch (blank alts_length)) (read_refused (blank alts_length)) _ refl
      (lent_lengths l.store l.set l.scratch && eqb (length (blank alts_length)) alts_length) (rw lengths) _ refl
  call_zero (show c) = zero_after l.store l.scratch _ _ k.store k.scratch refl refl
  call_zero close = passed_two (λ (y : SetLeft). y.scratch) (refusal l.store l.set l.scratch) set_refused _ refl _ lengths _ refl
