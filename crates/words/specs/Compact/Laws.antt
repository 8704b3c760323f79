-- The three answers of `compacted` and the two of `expanded`, each from the range that gives it and back. Nothing here has to be believed.
use Rattle.std.specs.Prelude.{◌≡◌, ℕ, ◌<◌, ◌≤◌, ◌≢◌, Ok, Err}
use Rattle.std.proofs.Math.Decide.{dec_le, ℕ_discrete}
use Rattle.std.proofs.Common.{lt_of_not-le, arith, eq-eqb, ne_eqb, lt-ltb, le-ltb}
use Rattle.words.specs.declared.names.CompactState.{CompactState}
use Rattle.words.specs.declared.refusals.Refusal.{Refusal}
use Rattle.words.specs.declared.refusals.Refusal.TheVariants.{StateOutOfRange}
use Rattle.words.specs.Names.{empty_mark}
use Rattle.words.specs.Compact.{compacted, compact_mark, expanded}
use Rattle.cases.specs.Numbers.{never}

pub compacted_mark : (r : ℕ) → r ≡ empty_mark → compacted r ≡ Ok (record { 0 = compact_mark })
unfolding compacted
compacted_mark r e = rw (eq-eqb r empty_mark e, compacted)

pub compacted_state : (r : ℕ) → r < compact_mark → compacted r ≡ Ok (record { 0 = r })
unfolding compacted
compacted_state r h = rw (ne_eqb r empty_mark (λ e. omega arith), compacted) (rw (lt-ltb r compact_mark h))

pub compacted_out : (r : ℕ) → (r ≢ empty_mark) → compact_mark ≤ r → compacted r ≡ Err StateOutOfRange
unfolding compacted
compacted_out r n h = rw (ne_eqb r empty_mark n, compacted) (rw (le-ltb r compact_mark h))

-- a border state is one of the three, and the answer says which
pub compacted_cases {ℓ} : {X : Type ℓ} (r : ℕ)
    → (r ≡ empty_mark → compacted r ≡ Ok (record { 0 = compact_mark }) → X)
    → (r < compact_mark → compacted r ≡ Ok (record { 0 = r }) → X)
    → ((r ≢ empty_mark) → compact_mark ≤ r → compacted r ≡ Err StateOutOfRange → X)
    → X
compacted_cases r f g h =
    elim (ℕ_discrete r empty_mark) [
      | yes e ↦ f e (compacted_mark r e)
      | no n ↦ elim (dec_le compact_mark r) [
        | yes p ↦ h n p (compacted_out r n p)
        | no m ↦ g (lt_of_not-le m) (compacted_state r (lt_of_not-le m))
      ]
    ]

pub state_of_compacted : (r : ℕ) (s : CompactState) → compacted r ≡ Ok s → (s.0 ≢ compact_mark) → (s.0 ≡ r) × (r < compact_mark)
state_of_compacted r s q n =
    compacted_cases r
    (λ e p. absurd (n (cc)))
    (λ h p. (cc, h))
    (λ n h p. never (cc))

pub mark_of_compacted : (r : ℕ) (s : CompactState) → compacted r ≡ Ok s → s.0 ≡ compact_mark → r ≡ empty_mark
mark_of_compacted r s q m =
    compacted_cases r
    (λ e p. e)
    (λ h p. let e : s.0 ≡ r = cc in absurd (omega arith))
    (λ n h p. never (cc))

pub out_of_compacted : (r : ℕ) (f : Refusal) → compacted r ≡ Err f → (r ≢ empty_mark) × (compact_mark ≤ r)
out_of_compacted r f q =
    compacted_cases r
    (λ e p. never (cc))
    (λ h p. never (cc))
    (λ n h p. (n, h))

pub expanded_mark : (s : ℕ) → s ≡ compact_mark → expanded s ≡ empty_mark
unfolding expanded
expanded_mark s e = rw (eq-eqb s compact_mark e, expanded)

pub expanded_state : (s : ℕ) → (s ≢ compact_mark) → expanded s ≡ s
unfolding expanded
expanded_state s n = rw (ne_eqb s compact_mark n, expanded)
