-- A record's entries from one on, and what is known of their head. Nothing here has to be believed.
use Rattle.std.specs.Prelude.{◌≡◌, refl}
use Rattle.std.proofs.Common.{sym, ◌∙◌}
use Prim.Native.Nat.{ℕ, zero, suc, ◌<◌, ◌≤◌, ◌+◌, ◌-◌}
use native.Mathlib.Omega.{arith}
use Rattle.words.specs.Numbers.{two}
use Rattle.arena.specs.Store.{Node, end, dollar, push}
use Rattle.arena.proofs.Soundness.{Rise, Full}
use Rattle.arena.specs.Kinds.{size}
use Rattle.arena.proofs.Below.{NodeBelow}
use Rattle.layout.specs.Layout.{stop}
use Rattle.work.proofs.Heads.{head_state, head_parent, tail, cons, cons_stop, cons_push}
use Rattle.layout.specs.Listing.{listing}
use Rattle.layout.specs.Listing.Laws.{Entries, entries_rest, listing_stop, listing_more, stop_last}

-- the entries from place i on
unfoldable pub rest : Node → ℕ → Node
rest n zero = n
rest end (suc i) = end
rest dollar (suc i) = end
rest (push r p n) (suc i) = rest n i

-- ---- rests

pub rest_next : (n : Node) (i : ℕ) → tail (rest n i) ≡ rest n (suc i)
unfolding rest tail
rest_next end zero = refl
rest_next end (suc i) = refl
rest_next dollar zero = refl
rest_next dollar (suc i) = refl
rest_next (push r p n) zero = refl
rest_next (push r p n) (suc i) = rest_next n i

pub rest_size : (n : Node) (i : ℕ) → size (rest n i) ≡ size n - i
unfolding rest size
rest_size n zero = omega arith
rest_size end (suc i) = omega arith
rest_size dollar (suc i) = omega arith
rest_size (push r p n) (suc i) = rest_size n i ∙ omega arith

pub size_full : (n : Node) → 0 < size n → Full n
unfolding size
size_full end h = absurd (omega arith)
size_full dollar h = tt
size_full (push r p n) h = tt

pub size_none : (n : Node) → size n ≡ 0 → n ≡ end
unfolding size
size_none end h = refl
size_none dollar h = absurd (omega arith)
size_none (push r p n) h = absurd (omega arith)

pub rest_rise : (n : Node) (i lo c : ℕ) → Rise lo c n → Rise lo c (rest n i)
unfolding rest
rest_rise n zero lo c v = v
rest_rise end (suc i) lo c v = tt
rest_rise dollar (suc i) lo c v = tt
rest_rise (push r p n) (suc i) lo c v = lower (rest n i) (rest_rise n i (suc r) c v.2)
  where
    lower : (k : Node) → Rise (suc r) c k → Rise lo c k
    lower end w = tt
    lower dollar w = tt
    lower (push q o k) w = (omega (arith, v.0), w.1, w.2)

pub rest_below : (n : Node) (i k : ℕ) → NodeBelow k n → NodeBelow k (rest n i)
unfolding rest
rest_below n zero k v = v
rest_below end (suc i) k v = tt
rest_below dollar (suc i) k v = tt
rest_below (push r p n) (suc i) k v = rest_below n i k v.1

-- a head is below the next one
pub head_rises : (n : Node) (lo c : ℕ) → Rise lo c n → NodeBelow stop n → Full (tail n) → head_state n < head_state (tail n)
unfolding tail head_state
head_rises end lo c v b h = absurd h
head_rises dollar lo c v b h = absurd h
head_rises (push r p end) lo c v b h = absurd h
head_rises (push r p dollar) lo c v b h = b.0
head_rises (push r p (push q o n)) lo c v b h = v.2.0

pub head_most : (n : Node) → NodeBelow stop n → head_state n ≤ stop
unfolding head_state
head_most end b = omega arith
head_most dollar b = omega arith
head_most (push r p n) b = omega (arith, b.0)

pub head_older : (n : Node) (lo c : ℕ) → 0 < c → Rise lo c n → head_parent n < c
unfolding head_parent
head_older end lo c h v = h
head_older dollar lo c h v = h
head_older (push r p n) lo c h v = v.1

pub head_dollar : (n : Node) → NodeBelow stop n → head_state n ≡ stop → head_parent n ≡ 0
unfolding head_state head_parent
head_dollar end b e = refl
head_dollar dollar b e = refl
head_dollar (push r p n) b e = absurd (omega (arith, b.0))

-- ---- a list of words by its heads

module _ (st pa : ℕ → ℕ) (c : ℕ) where
  pub rest_listing : (i k j : ℕ) → Entries st pa i k c → j ≤ k → rest (listing st pa i k) j ≡ listing st pa (i + j) (k - j)
  unfolding rest listing
  rest_listing i k zero v h = let a : i + 0 ≡ i = omega arith in let b : k - 0 ≡ k = omega arith in rw (a, b)
  rest_listing i zero (suc j) v h = absurd (omega arith)
  rest_listing i (suc k) (suc j) v h =
      let a : i + suc j ≡ suc i + j = omega arith in
      let b : suc k - suc j ≡ k - j = omega arith in
      two (st i) stop
      (λ e.
      let z : k ≡ 0 = stop_last st pa i k c v e in
      let d : k - j ≡ 0 = omega arith in
      rw (listing_stop st pa i k e, b, d))
      (λ n. rw (listing_more st pa i k n, a, b) (rest_listing (suc i) k j (entries_rest st pa i k c v) (omega arith)))

  head_listing : (i k : ℕ) → Entries st pa i (suc k) c → (head_state (listing st pa i (suc k)) ≡ st i) × (head_parent (listing st pa i (suc k)) ≡ pa i)
  unfolding head_state head_parent
  head_listing i k v =
      two (st i) stop
      (λ e. (rw (listing_stop st pa i k e) (sym e), rw (listing_stop st pa i k e) (sym (v.dollar i (omega arith) (omega arith) e))))
      (λ n. (rw (listing_more st pa i k n), rw (listing_more st pa i k n)))

  -- entry j of the list
  pub entry_listing : (i k j : ℕ) → Entries st pa i k c → j < k
      → (head_state (rest (listing st pa i k) j) ≡ st (i + j)) × (head_parent (rest (listing st pa i k) j) ≡ pa (i + j))
  entry_listing i k j v h =
      let e : k - j ≡ suc (k - suc j) = omega arith in
      let w : Entries st pa (i + j) (suc (k - suc j)) c = rw e at (Rattle.index.specs.Walk.entries_from st pa i k c j v (omega arith)) in
      rw (rest_listing i k j v (omega arith), e) (head_listing (i + j) (k - suc j) w)

-- ---- a list of entries by its head

pub head_cons : (n : Node) → Full n → NodeBelow stop n → n ≡ cons (head_state n) (head_parent n) (tail n)
unfolding head_state head_parent tail
head_cons end f b = absurd f
head_cons dollar f b = sym (cons_stop stop 0 end refl)
head_cons (push r p n) f b = sym (cons_push r p n (λ q. omega (arith, b.0)))

pub rest_none : (n : Node) (i : ℕ) → size n ≤ i → rest n i ≡ end
rest_none n i h = size_none (rest n i) (rest_size n i ∙ omega arith)
