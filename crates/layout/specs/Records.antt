-- A record read whole, by its kind, and back: what each case says of its words. Nothing here has to be believed.
use Rattle.std.specs.Prelude.{◌≡◌, ◌≢◌, List, ℕ, ◌==◌, true, false, refl}
use Rattle.std.proofs.Common.{ap, eq-eqb, ne_eqb, arith}
use Rattle.std.proofs.Math.Decide.{ℕ_discrete}
use Rattle.words.specs.Numbers.{never}
use Rattle.layout.specs.Layout.{kind, first, second}
use Rattle.layout.specs.declared.entry.Entry.{Entry}
use Rattle.layout.specs.declared.records.Record.{Record}
use Rattle.layout.specs.declared.records.Record.TheVariants.{Root, Single, Array, NoKind}

abbrev pub entry_of : ℕ → ℕ → Entry
entry_of parent state = record { parent = record { 0 = parent }; state = record { 0 = state } }

unfoldable pub record_by : ℕ → ℕ → ℕ → Record
record_by k a b =
    elim (k == 0) [
      | true ↦ Root
      | false ↦ elim (k == 1) [
        | true ↦ Single (entry_of a b)
        | false ↦ elim (k == 2) [ true ↦ Array a b | false ↦ NoKind ]
      ]
    ]

abbrev pub record_in : List ℕ → ℕ → Record
record_in w c = record_by (kind w c) (first w c) (second w c)

-- ---- from the kind

pub record_root : (k a b : ℕ) → k ≡ 0 → record_by k a b ≡ Root
unfolding record_by
record_root k a b e = rw (eq-eqb k 0 e, record_by) refl

pub record_single : (k a b : ℕ) → k ≡ 1 → record_by k a b ≡ Single (entry_of a b)
unfolding record_by
record_single k a b e = rw (ne_eqb k 0 (λ q. omega arith), record_by) (rw (eq-eqb k 1 e) refl)

pub record_array : (k a b : ℕ) → k ≡ 2 → record_by k a b ≡ Array a b
unfolding record_by
record_array k a b e = rw (ne_eqb k 0 (λ q. omega arith), record_by) (rw (ne_eqb k 1 (λ q. omega arith)) (rw (eq-eqb k 2 e) refl))

pub record_none : (k a b : ℕ) → (k ≢ 0) → (k ≢ 1) → (k ≢ 2) → record_by k a b ≡ NoKind
unfolding record_by
record_none k a b x y z = rw (ne_eqb k 0 x, record_by) (rw (ne_eqb k 1 y) (rw (ne_eqb k 2 z) refl))

record_cases {ℓ} : {X : Type ℓ} (k a b : ℕ)
    → (k ≡ 0 → record_by k a b ≡ Root → X)
    → (k ≡ 1 → record_by k a b ≡ Single (entry_of a b) → X)
    → (k ≡ 2 → record_by k a b ≡ Array a b → X)
    → ((k ≢ 0) → (k ≢ 1) → (k ≢ 2) → record_by k a b ≡ NoKind → X)
    → X
record_cases k a b f g h n =
    elim (ℕ_discrete k 0) [
      | yes e ↦ f e (record_root k a b e)
      | no x ↦ elim (ℕ_discrete k 1) [
        | yes e ↦ g e (record_single k a b e)
        | no y ↦ elim (ℕ_discrete k 2) [
          | yes e ↦ h e (record_array k a b e)
          | no z ↦ n x y z (record_none k a b x y z)
        ]
      ]
    ]

-- ---- from the record

module _ (w : List ℕ) (c : ℕ) where
  pub of_root : record_in w c ≡ Root → kind w c ≡ 0
  of_root q = record_cases (kind w c) (first w c) (second w c) (λ e p. e) (λ e p. never (cc)) (λ e p. never (cc)) (λ x y z p. never (cc))

  pub of_single : (e : Entry) → record_in w c ≡ Single e → (kind w c ≡ 1) × (e.parent.0 ≡ first w c) × (e.state.0 ≡ second w c)
  of_single s q =
      record_cases (kind w c) (first w c) (second w c) (λ e p. never (cc))
      (λ e p. let k : s ≡ entry_of (first w c) (second w c) = cc in (e, ap (λ (x : Entry). x.parent.0) k, ap (λ (x : Entry). x.state.0) k))
      (λ e p. never (cc)) (λ x y z p. never (cc))

  pub of_array : (from n : ℕ) → record_in w c ≡ Array from n → (kind w c ≡ 2) × (from ≡ first w c) × (n ≡ second w c)
  of_array from n q =
      record_cases (kind w c) (first w c) (second w c) (λ e p. never (cc)) (λ e p. never (cc)) (λ e p. (e, cc, cc)) (λ x y z p. never (cc))

  pub of_none : record_in w c ≡ NoKind → (kind w c ≢ 0) × (kind w c ≢ 1) × (kind w c ≢ 2)
  of_none q = record_cases (kind w c) (first w c) (second w c) (λ e p. never (cc)) (λ e p. never (cc)) (λ e p. never (cc)) (λ x y z p. (x, y, z))
