-- Document 01's refusals of the calls on a set's subsets: each exactly when it is due, and what it leaves. Nothing here has to be believed.
use Rattle.std.specs.Prelude.{◌≡◌, refl, ◌↔◌, Bool, true, ℕ}
use Rattle.std.proofs.Common.{sym, ap, ◌∙◌, arith, eq-eqb, ne_eqb}
use mathlib.Core.List.{List, []}
use Rattle.words.specs.Numbers.{two}
use Rattle.store.specs.Store.{at}
use Rattle.store.specs.Calls.{zeros}
use Rattle.store.specs.Checks.{Check, order, due}
use Rattle.store.specs.Checks.Laws.{in_order, due_leaves, refused_due}
use Rattle.sets.specs.Calls.{lent_checks}
use Rattle.groups.specs.Answers.{Answer}
use Rattle.outputs.specs.Outputs.{subsets_length, alts_length}
use Rattle.verdicts.specs.Calls.{VerdictReply, refused, says, alternative, written, VerdictLeft, verdict_left, read_refusal, read_checks, read_call, too_many_stops}
use Rattle.verdicts.specs.Calls.{conflicting_alt_subsets_call, conflicting_alts_call, unique_alt_call, single_viable_alt_call, all_subsets_conflict_call, all_subsets_equal_call, verdict_call}

-- ---- what a refusal leaves

module _ (z o : List ℕ) where
  pub refusal_reply : (n : ℕ) → (read_refusal z o n).reply ≡ refused n
  unfolding read_refusal
  refusal_reply n = two n 2 (λ e. rw (eq-eqb n 2 e, read_refusal)) (λ d. rw (ne_eqb n 2 d, read_refusal))

  -- "Store, set and outputs stay as on entry"
  pub refusal_keeps : (n : ℕ) → (read_refusal z o n).output ≡ o
  unfolding read_refusal
  refusal_keeps n = two n 2 (λ e. rw (eq-eqb n 2 e, read_refusal)) (λ d. rw (ne_eqb n 2 d, read_refusal))

  -- "scratch is 0 (untouched on 2)"
  pub refusal_scratch : (n : ℕ) → (n ≡ 2 → (read_refusal z o n).scratch ≡ z) × ((n ≡ 2 → ⊥) → (read_refusal z o n).scratch ≡ zeros)
  unfolding read_refusal
  refusal_scratch n = (λ e. rw (eq-eqb n 2 e, read_refusal), λ d. rw (ne_eqb n 2 d, read_refusal))

-- ---- exactly when

-- refused k exactly when that is due: its reason holds and none earlier; and then all is as it was but the scratch
abbrev pub Refuses : VerdictLeft → List Check → List ℕ → List ℕ → Type 0
Refuses l cs z o = (k : ℕ) → ((l.reply ≡ refused k) ↔ (due cs ≡ at k)) × (l.reply ≡ refused k → l ≡ read_refusal z o k)

pub ask_refuses : (n : ℕ) (more : List Check) (w v z o : List ℕ) (r : VerdictReply) (p : List ℕ) → ((k : ℕ) → r ≡ refused k → ⊥)
    → Refuses (read_call n more w v z o r p) (read_checks n more w v z o) z o
unfolding read_call
ask_refuses n more w v z o r p answers k = ((exactly, λ d. ap (λ (l : VerdictLeft). l.reply) (leaves d) ∙ refusal_reply z o k), λ e. leaves (exactly e))
  where
    number : (a b : ℕ) → refused a ≡ refused b → a ≡ b
    number a b e = cc

    exactly : (read_call n more w v z o r p).reply ≡ refused k → due (read_checks n more w v z o) ≡ at k
    exactly =
        refused_due (read_refusal z o) (verdict_left r zeros p) (λ m l. l.reply ≡ refused m) (λ m l g. number l m (sym (refusal_reply z o l) ∙ g)) answers k
        (read_checks n more w v z o)

    leaves : due (read_checks n more w v z o) ≡ at k → read_call n more w v z o r p ≡ read_refusal z o k
    leaves d = due_leaves (read_refusal z o) (verdict_left r zeros p) k (read_checks n more w v z o) d

-- ---- the seven calls

says_no : (b : Bool) (k : ℕ) → says b ≡ refused k → ⊥
says_no b k e = let q : ◌≡◌ {A = ℕ} 0 1 = cc in omega arith

alternative_no : (a : Answer) (k : ℕ) → alternative a ≡ refused k → ⊥
alternative_no a k e = let q : ◌≡◌ {A = ℕ} 0 1 = cc in omega arith

written_no : (k : ℕ) → written ≡ refused k → ⊥
written_no k e = let q : ◌≡◌ {A = ℕ} 0 1 = cc in omega arith

module _ (w v z : List ℕ) where
  pub unique_refuses : Refuses (unique_alt_call w v z) (read_checks 0 [] w v z []) z []
  unfolding unique_alt_call
  unique_refuses = ask_refuses 0 [] w v z [] _ [] (alternative_no _)

  pub viable_refuses : Refuses (single_viable_alt_call w v z) (read_checks 0 [] w v z []) z []
  unfolding single_viable_alt_call
  viable_refuses = ask_refuses 0 [] w v z [] _ [] (alternative_no _)

  pub conflict_refuses : Refuses (all_subsets_conflict_call w v z) (read_checks 0 [] w v z []) z []
  unfolding all_subsets_conflict_call
  conflict_refuses = ask_refuses 0 [] w v z [] _ [] (says_no _)

  pub equal_refuses : Refuses (all_subsets_equal_call w v z) (read_checks 0 [] w v z []) z []
  unfolding all_subsets_equal_call
  equal_refuses = ask_refuses 0 [] w v z [] _ [] (says_no _)

  pub verdict_refuses : (stops : List ℕ) → Refuses (verdict_call w v z stops) (read_checks 0 (too_many_stops stops) w v z []) z []
  unfolding verdict_call
  verdict_refuses stops = ask_refuses 0 (too_many_stops stops) w v z [] _ [] (says_no _)

  module _ (o : List ℕ) where
    pub subsets_refuses : Refuses (conflicting_alt_subsets_call w v z o) (read_checks subsets_length [] w v z o) z o
    unfolding conflicting_alt_subsets_call
    subsets_refuses = ask_refuses subsets_length [] w v z o _ _ written_no

    pub alts_refuses : Refuses (conflicting_alts_call w v z o) (read_checks alts_length [] w v z o) z o
    unfolding conflicting_alts_call
    alts_refuses = ask_refuses alts_length [] w v z o _ _ written_no

    -- 2, 1, 3, 10
    pub read_in_order : (n : ℕ) (stops : List ℕ) → (in_order order (read_checks n [] w v z o) ≡ true) × (in_order order (read_checks n (too_many_stops stops) w v z o) ≡ true)
    unfolding lent_checks in_order
    read_in_order n stops = (refl, refl)
