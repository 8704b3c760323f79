-- Results kept as words from a place on, one for each, in the order in which they were completed. Nothing here has to be believed.
use Rattle.std.specs.Prelude.{◌≡◌, Bool, true, false, List, [], ◌∷◌, eqb, length, set}
use Rattle.std.proofs.Math.Path.{refl, ap}
use Rattle.std.proofs.Common.{sym, get_or-set_other}
use Rattle.std.proofs.Math.Logic.{inl, inr}
use Prim.Native.Nat.{ℕ, zero, suc, ◌<◌, ◌+◌, ◌*◌, ◌/◌, ◌%◌}
use native.Mathlib.Omega.{arith}
use Rattle.std.proofs.Math.ListN.{get_or}
use Rattle.std.proofs.Math.Seq.{get_or-set_same}
use Rattle.stacks.specs.Numbers.{two}
use Rattle.arena.specs.Store.{at, nowhere}
use Rattle.work.specs.Counted.{Result, recall}
use Rattle.work.proofs.CountedLaws.{result}
use Rattle.work.proofs.Keys.{Distinct}
use Rattle.work.proofs.Hits.{In, hit_exactly, recall_from, found?}

-- ---- a result as one word: the kind, the sides and the context, in 1, 9, 9 and 9 bits

unfoldable pub bit : Bool → ℕ
bit true = 1
bit false = 0

abbrev pub packed : Bool → ℕ → ℕ → ℕ → ℕ
packed m a b c = ((bit m * 512 + a) * 512 + b) * 512 + c

unfoldable pub result_in : ℕ → Result
result_in x = result (eqb (x / 134217728) 1) (x / 262144 % 512) (x / 512 % 512) (x % 512)

pub read_back : (m : Bool) (a b c : ℕ) → a < 512 → b < 512 → c < 512 → result_in (packed m a b c) ≡ result m a b c
unfolding result_in bit
read_back true a b c h i j =
    let k : packed true a b c / 134217728 ≡ 1 = omega arith in
    let x : packed true a b c / 262144 % 512 ≡ a = omega arith in
    let y : packed true a b c / 512 % 512 ≡ b = omega arith in
    let z : packed true a b c % 512 ≡ c = omega arith in
    rw (k, x, y, z)
read_back false a b c h i j =
    let k : packed false a b c / 134217728 ≡ 0 = omega arith in
    let x : packed false a b c / 262144 % 512 ≡ a = omega arith in
    let y : packed false a b c / 512 % 512 ≡ b = omega arith in
    let z : packed false a b c % 512 ≡ c = omega arith in
    rw (k, x, y, z)

pub packed_small : (m : Bool) (a b c : ℕ) → a < 512 → b < 512 → c < 512 → packed m a b c < 268435456
unfolding bit
packed_small true a b c h i j = omega arith
packed_small false a b c h i j = omega arith

-- ---- the words of z from the place `base` on

module _ (base : ℕ) where
  -- the first n results, the newest first
  unfoldable pub kept_in : List ℕ → ℕ → List Result
  kept_in z zero = []
  kept_in z (suc n) = result_in (get_or z (base + n) 0) ∷ kept_in z n

  pub kept_length : (z : List ℕ) (n : ℕ) → length (kept_in z n) ≡ n
  unfolding kept_in
  kept_length z zero = refl
  kept_length z (suc n) = ap suc (kept_length z n)

  -- words beside them do not matter
  pub kept_frame : (z u : List ℕ) (n : ℕ) → ((i : ℕ) → i < n → get_or u (base + i) 0 ≡ get_or z (base + i) 0) → kept_in u n ≡ kept_in z n
  unfolding kept_in
  kept_frame z u zero same = refl
  kept_frame z u (suc n) same = rw (same n (omega arith), kept_frame z u n (λ i h. same i (omega arith)))

  -- one result more is one word more
  pub kept_more : (z : List ℕ) (n x : ℕ) → base + n < length z → kept_in (set z (base + n) x) (suc n) ≡ result_in x ∷ kept_in z n
  unfolding kept_in
  kept_more z n x h =
      let here : get_or (set z (base + n) x) (base + n) 0 ≡ x = rw get_or-set_same in
      let others : kept_in (set z (base + n) x) n ≡ kept_in z n =
      kept_frame z (set z (base + n) x) n (λ i k. let o : base + i ≡ base + n → ⊥ = omega arith in rw get_or-set_other) in
      rw (here, others)

  -- ---- looked for by place, in any order

  kept_at : (z : List ℕ) (n i : ℕ) → i < n → In (result_in (get_or z (base + i) 0)) (kept_in z n)
  unfolding kept_in
  kept_at z zero i h = absurd (omega arith)
  kept_at z (suc n) i h = two i n (λ e. inl (rw e)) (λ o. inr (kept_at z n i (omega arith)))

  kept_place : (z : List ℕ) (n : ℕ) (r : Result) → In r (kept_in z n) → (i : ℕ) × (i < n) × (r ≡ result_in (get_or z (base + i) 0))
  unfolding kept_in
  kept_place z zero r v = absurd v
  kept_place z (suc n) r (inl e) = (n, omega arith, e)
  kept_place z (suc n) r (inr v) = let p = kept_place z n r v in (p.0, omega (arith, p.1), p.2)

  module _ (z : List ℕ) (n : ℕ) (m : Bool) (a b : ℕ) where
    -- a place whose word has the key answers
    pub place_hit : Distinct (kept_in z n) → (i : ℕ) → i < n → (c : ℕ) → result_in (get_or z (base + i) 0) ≡ result m a b c
        → recall m a b (kept_in z n) ≡ at c
    place_hit d i h c e = (hit_exactly m a b c (kept_in z n) d).1 (rw e at (kept_at z n i h))

    -- and where no place has it, none was kept
    pub place_miss : ((i : ℕ) → i < n → (c : ℕ) → result_in (get_or z (base + i) 0) ≡ result m a b c → ⊥) → recall m a b (kept_in z n) ≡ nowhere
    place_miss none =
        found? m a b (kept_in z n)
        (λ c e. let p = kept_place z n (result m a b c) (recall_from m a b c (kept_in z n) e) in absurd (none p.0 p.1 c (sym p.2)))
        (λ e. e)
