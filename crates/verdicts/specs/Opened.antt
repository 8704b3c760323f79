-- What a call leaves once `open_set` has answered. Nothing here has to be believed.
use Rattle.std.specs.Prelude.{◌≡◌, Bool, true, false, ◌&&◌, ℕ, eqb, length, replicate, Ok, Err}
use Rattle.std.proofs.Math.Path.{sym, ap}
use Rattle.std.proofs.Common.{◌∙◌, eq-eqb, ne_eqb}
use Rattle.std.proofs.Math.Bool.{and-true, and-false}
use mathlib.Core.List.{List, [], ◌∷◌}
use Rattle.words.specs.Numbers.{two}
use Rattle.words.specs.Refusals.{number}
use Rattle.words.specs.declared.refusals.Refusal.{Refusal}
use Rattle.store.specs.Layout.{scratch_words}
use Rattle.store.specs.Calls.{zeros}
use Rattle.store.specs.Admit.{cleared}
use Rattle.store.specs.Checks.{Check, given, unless}
use Rattle.store.specs.Checks.Laws.{clear_goes, due_given, unless_first, unless_next}
use Rattle.sets.specs.Calls.{SetLeft, set_left, lent_lengths, lent_checks, refused as setRefused, refusal as setRefusal}
use Rattle.setcheck.specs.Opened.{ReadySet, OpenedSet}
use Rattle.grouping.specs.Led.{Lent}
use Rattle.deciding.specs.Alone.{Counted}
use Rattle.verdicts.specs.Calls.{VerdictReply, refused, verdict_left, read_refusal, read_call}

-- the set's words, and the scratch
pub ready_lent : {w v u : List ℕ} → ReadySet w v u → Lent v u
ready_lent s = record { sized = s.sized; few = s.sound.counted; lent = s.store.index.sized }

pub ready_counted : {w v u : List ℕ} → ReadySet w v u → Counted v
ready_counted s = record { sized = s.sized; few = s.sound.counted }

-- the scratch that a refusal leaves is that of every call on a set
refusal_scratch : (w v z o : List ℕ) (k : ℕ) (u : List ℕ) → setRefusal w v z k ≡ set_left (setRefused k) w v u → read_refusal z o k ≡ verdict_left (refused k) u o
unfolding read_refusal setRefusal
refusal_scratch w v z o k u e =
    two k 2
    (λ q. rw (eq-eqb k 2 q, read_refusal) (ap (λ (x : List ℕ). verdict_left (refused k) x o) (ap (λ (l : SetLeft). l.scratch) (rw (eq-eqb k 2 q, setRefusal) at e))))
    (λ q. rw (ne_eqb k 2 q, read_refusal) (ap (λ (x : List ℕ). verdict_left (refused k) x o) (ap (λ (l : SetLeft). l.scratch) (rw (ne_eqb k 2 q, setRefusal) at e))))

module _ (w v z : List ℕ) (n : ℕ) (o : List ℕ) (r : VerdictReply) (p : List ℕ) where
  -- the output has a wrong length
  pub short_output : (more : List Check) → (length o ≡ n → ⊥) → verdict_left (refused 2) z o ≡ read_call n more w v z o r p
  unfolding read_call lent_checks unless read_refusal
  short_output more d = rw (ne_eqb (length o) n d, and-false (lent_lengths w v z))

  module _ (l : length o ≡ n) where
    plain : (lent_lengths w v z && eqb (length o) n) ≡ lent_lengths w v z
    plain = rw (eq-eqb (length o) n l) (and-true (lent_lengths w v z))

    -- refused 2, 1 or 3
    pub left_refused : (more : List Check) (f : Refusal) (u : List ℕ) → OpenedSet w v z (Err f) u → verdict_left (refused (number f)) u o ≡ read_call n more w v z o r p
    unfolding read_call lent_checks
    left_refused more f u s =
        rw plain (sym (refusal_scratch w v z o (number f) u s.1) ∙ sym (due_given (read_refusal z o) (verdict_left r zeros p) (number f) (lent_checks (lent_lengths w v z) w v []) more s.0))

    -- else the checks in `more` are next
    goes_on : (more : List Check) (u : List ℕ) → OpenedSet w v z (Ok tt) u → read_call n more w v z o r p ≡ unless more (read_refusal z o) (verdict_left r zeros p)
    unfolding read_call lent_checks
    goes_on more u s = rw plain (clear_goes (read_refusal z o) (verdict_left r zeros p) (lent_checks (lent_lengths w v z) w v []) more s.1)

    module _ (y x : List ℕ) (e : length y ≡ scratch_words) (c : x ≡ replicate (length y) 0) where
      -- where there are none, the answer; the scratch is cleared before
      pub left_answered : (u : List ℕ) → OpenedSet w v z (Ok tt) u → verdict_left r x p ≡ read_call n [] w v z o r p
      unfolding unless
      left_answered u s = ap (λ (t : List ℕ). verdict_left r t p) (c ∙ cleared y e) ∙ sym (goes_on [] u s)

      -- one more check, passed and not
      pub left_passed : (k : ℕ) (b : Bool) → b ≡ false → (u : List ℕ) → OpenedSet w v z (Ok tt) u → verdict_left r x p ≡ read_call n (given k b ∷ []) w v z o r p
      unfolding unless
      left_passed k b h u s =
          ap (λ (t : List ℕ). verdict_left r t p) (c ∙ cleared y e)
          ∙ sym (goes_on (given k b ∷ []) u s ∙ unless_next (read_refusal z o) (verdict_left r zeros p) (given k b) [] h)

      pub left_due : (k : ℕ) → (k ≡ 2 → ⊥) → (b : Bool) → b ≡ true → (u : List ℕ) → OpenedSet w v z (Ok tt) u
          → verdict_left (refused k) x o ≡ read_call n (given k b ∷ []) w v z o r p
      unfolding read_refusal
      left_due k d b h u s =
          ap (λ (t : List ℕ). verdict_left (refused k) t o) (c ∙ cleared y e)
          ∙ sym (goes_on (given k b ∷ []) u s ∙ unless_first (read_refusal z o) (verdict_left r zeros p) (given k b) [] h ∙ rw (ne_eqb k 2 d, read_refusal))
