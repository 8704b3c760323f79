-- Entries laid out place by place, and that this is the same as being listed from there. Nothing here has to be believed.
use Rattle.std.specs.Prelude.{◌≡◌}
use Rattle.std.proofs.Math.Path.{refl}
use Rattle.std.proofs.Common.{sym, ◌∙◌}
use Prim.Native.Nat.{ℕ, zero, suc, ◌<◌, ◌≤◌, ◌+◌}
use native.Mathlib.Omega.{arith}
use Rattle.words.specs.Numbers.{two}
use Rattle.arena.specs.Store.{Node, end, dollar, push}
use Rattle.arena.proofs.Soundness.{Rise}
use Rattle.arena.specs.Kinds.{size}
use Rattle.arena.proofs.Below.{NodeBelow}
use Rattle.layout.specs.Layout.{stop}
use Rattle.layout.specs.Listing.{listing}
use Rattle.layout.specs.Listing.Laws.{listing_stop, listing_more, Entries, entries_rest}

-- from place i on stand the states and the parents of n
abbrev pub Filled : (ℕ → ℕ) → (ℕ → ℕ) → ℕ → Node → Type 0
Filled st pa i end = Unit {0}
Filled st pa i dollar = (st i ≡ stop) × (pa i ≡ 0)
Filled st pa i (push r p n) = (st i ≡ r) × (pa i ≡ p) × Filled st pa (suc i) n

-- ---- only the places of the entries count

pub filled_agree : (st pa st' pa' : ℕ → ℕ) (i : ℕ) (n : Node)
    → ((j : ℕ) → i ≤ j → j < i + size n → (st' j ≡ st j) × (pa' j ≡ pa j))
    → Filled st pa i n → Filled st' pa' i n
unfolding size
filled_agree st pa st' pa' i end h f = tt
filled_agree st pa st' pa' i dollar h f =
    let e = h i (omega arith) (omega arith) in
    (e.0 ∙ f.0, e.1 ∙ f.1)
filled_agree st pa st' pa' i (push r p n) h f =
    let e = h i (omega arith) (omega arith) in
    (e.0 ∙ f.0, e.1 ∙ f.1, filled_agree st pa st' pa' (suc i) n (λ j a b. h j (omega arith) (omega arith)) f.2)

pub filled_same : (st pa st' pa' : ℕ → ℕ) (i : ℕ) (n : Node) → Filled st pa i n → Filled st' pa' i n
    → (j : ℕ) → i ≤ j → j < i + size n → (st j ≡ st' j) × (pa j ≡ pa' j)
unfolding size
filled_same st pa st' pa' i end f g j a b = absurd (omega arith)
filled_same st pa st' pa' i dollar f g j a b =
    let e : j ≡ i = omega arith in
    rw e (f.0 ∙ sym g.0, f.1 ∙ sym g.1)
filled_same st pa st' pa' i (push r p n) f g j a b =
    two j i
    (λ e. rw e (f.0 ∙ sym g.0, f.1 ∙ sym g.1))
    (λ k. filled_same st pa st' pa' (suc i) n f.2 g.2 j (omega arith) (omega arith))

-- ---- laid out and listed

module _ (st pa : ℕ → ℕ) where
  pub filled_listing : (i : ℕ) (n : Node) → Filled st pa i n → NodeBelow stop n → listing st pa i (size n) ≡ n
  unfolding size listing
  filled_listing i end f b = refl
  filled_listing i dollar f b = listing_stop st pa i 0 f.0
  filled_listing i (push r p n) f b =
      listing_more st pa i (size n) (omega arith) ∙ (rw (f.0, f.1, filled_listing (suc i) n f.2 b.1))

  pub listing_filled : (i k c : ℕ) → Entries st pa i k c → Filled st pa i (listing st pa i k)
  unfolding listing
  listing_filled i zero c v = tt
  listing_filled i (suc k) c v =
      two (st i) stop
      (λ e. rw (listing_stop st pa i k e) (e, v.dollar i (omega arith) (omega arith) e))
      (λ n. rw (listing_more st pa i k n) (refl, refl, listing_filled (suc i) k c (entries_rest st pa i k c v)))

  -- ---- rising entries below `stop` are sound where they are laid out

  one_more : (i k c : ℕ) → Entries st pa (suc i) k c → st i ≤ stop → pa i < c → (0 < k → st i < st (suc i)) → (st i ≡ stop → pa i ≡ 0)
      → Entries st pa i (suc k) c
  one_more i k c v fits old up root = record {
    fit = λ j a b. two j i (λ e. rw e fits) (λ n. v.fit j (omega arith) (omega arith));
    older = λ j a b. two j i (λ e. rw e old) (λ n. v.older j (omega arith) (omega arith));
    rise = λ j a b. two j i (λ e. rw e (up (omega arith))) (λ n. v.rise j (omega arith) (omega arith));
    dollar = λ j a b. two j i (λ e. rw e root) (λ n. v.dollar j (omega arith) (omega arith));
  }

  no_more : (i c : ℕ) → Entries st pa i 0 c
  no_more i c = record {
    fit = λ j a b. absurd (omega arith);
    older = λ j a b. absurd (omega arith);
    rise = λ j a b. absurd (omega arith);
    dollar = λ j a b. absurd (omega arith);
  }

  -- the first state is not below where the states begin
  first_state : (lo c i : ℕ) (n : Node) → Filled st pa i n → Rise lo c n → lo ≤ stop → 0 < size n → lo ≤ st i
  unfolding size
  first_state lo c i end f v h l = absurd (omega arith)
  first_state lo c i dollar f v h l = omega arith
  first_state lo c i (push r p n) f v h l = omega arith

  pub filled_entries : (lo c i : ℕ) (n : Node) → Filled st pa i n → Rise lo c n → NodeBelow stop n → 0 < c → Entries st pa i (size n) c
  unfolding size
  filled_entries lo c i end f v b h = no_more i c
  filled_entries lo c i dollar f v b h =
      one_more i 0 c (no_more (suc i) c) (omega arith) (omega arith) (λ l. absurd (omega arith)) (λ e. f.1)
  filled_entries lo c i (push r p n) f v b h =
      one_more i (size n) c (filled_entries (suc r) c (suc i) n f.2 v.2 b.1 h) (omega arith) (omega arith)
      (λ l. omega (arith, first_state (suc r) c (suc i) n f.2 v.2 (omega arith) l))
      (λ e. absurd (omega arith))
