-- Chains by bucket in the scratch, newest first: what a link skips is in another bucket. Nothing here has to be believed.
use Rattle.std.proofs.Math.Path.{◌≡◌, refl, ap}
use Rattle.std.proofs.Common.{sym, ◌∙◌, add-one, eq-eqb, ne_eqb}
use Rattle.std.specs.Prelude.{◌≢◌, Bool, true, false, List, eqb, length, get_or, set}
use Prim.Native.Nat.{ℕ, zero, suc, ◌<◌, ◌≤◌, ◌+◌, ◌-◌}
use native.Mathlib.Omega.{arith}
use Rattle.std.proofs.Math.ListN.{length-set}
use Rattle.std.proofs.Math.Seq.{get_or-set_same, get_or-set_other}
use Rattle.encoding.specs.Numbers.{two}
use Rattle.encoding.specs.Store.{Found, at, nowhere}
use Rattle.encoding.specs.Bools.{bool?}

-- the last of the first n that passes the test
unfoldable pub last : (ℕ → Bool) → ℕ → Found
last t zero = nowhere
last t (suc n) = elim (t n) [ true ↦ at n | false ↦ last t n ]

-- number + 1 of the last of the first n that is in bucket b, 0 for none
unfoldable pub newest : (ℕ → ℕ) → ℕ → ℕ → ℕ
newest bucket zero b = 0
newest bucket (suc n) b = elim (eqb (bucket n) b) [ true ↦ suc n | false ↦ newest bucket n b ]

-- the chains of the first n: heads from place h on, links from place l on
pub record Chained (bucket : ℕ → ℕ) (h l n : ℕ) (z : List ℕ) : Type 0 where
  pub heads : (b : ℕ) → b < 256 → get_or z (h + b) 0 ≡ newest bucket n b
  pub links : (i : ℕ) → i < n → get_or z (l + i) 0 ≡ newest bucket i (bucket i)

-- ---- the last that passes

module _ (t : ℕ → Bool) where
  pub last_here : (n : ℕ) → t n ≡ true → last t (suc n) ≡ at n
  unfolding last
  last_here n e = rw (e, last)

  pub last_before : (n : ℕ) → t n ≡ false → last t (suc n) ≡ last t n
  unfolding last
  last_before n e = rw (e, last)

  pub last_found : (n i : ℕ) → last t n ≡ at i → (i < n) × (t i ≡ true)
  unfolding last
  last_found zero i e = let q : ◌≡◌ {A = ℕ} 0 1 = cc in absurd (omega arith)
  last_found (suc n) i e =
      bool? (t n)
      (λ h. let q : n ≡ i = found n i (sym (last_here n h) ∙ e) in (omega arith, rw q at h))
      (λ h. let r = last_found n i (sym (last_before n h) ∙ e) in (omega (arith, r.0), r.1))
    where
      found : (a b : ℕ) → at a ≡ at b → a ≡ b
      found a b e = cc

  pub last_none : (n : ℕ) → last t n ≡ nowhere → (i : ℕ) → i < n → t i ≡ false
  last_none zero e i l = absurd (omega arith)
  last_none (suc n) e i l =
      bool? (t n)
      (λ h. let q : at n ≡ nowhere = sym (last_here n h) ∙ e in let z : ◌≡◌ {A = ℕ} 0 1 = cc in absurd (omega arith))
      (λ h. two i n (λ q. rw q h) (λ d. last_none n (sym (last_before n h) ∙ e) i (omega arith)))

  pub none_last : (n : ℕ) → ((i : ℕ) → i < n → t i ≡ false) → last t n ≡ nowhere
  unfolding last
  none_last zero f = refl
  none_last (suc n) f = last_before n (f n (omega arith)) ∙ none_last n (λ i l. f i (omega arith))

-- ---- the newest of a bucket

module _ (bucket : ℕ → ℕ) where
  module _ (n b : ℕ) where
    pub newest_here : bucket n ≡ b → newest bucket (suc n) b ≡ suc n
    unfolding newest
    newest_here e = rw (eq-eqb (bucket n) b e, newest)

    pub newest_before : (bucket n ≡ b → ⊥) → newest bucket (suc n) b ≡ newest bucket n b
    unfolding newest
    newest_before e = rw (ne_eqb (bucket n) b e, newest)

  newest_le : (n b : ℕ) → newest bucket n b ≤ n
  unfolding newest
  newest_le zero b = omega arith
  newest_le (suc n) b =
      two (bucket n) b (λ e. rw (newest_here n b e) (omega arith)) (λ d. rw (newest_before n b d) (omega (arith, newest_le n b)))

  newest_in : (n b k : ℕ) → newest bucket n b ≡ suc k → bucket k ≡ b
  unfolding newest
  newest_in zero b k e = absurd (omega arith)
  newest_in (suc n) b k e =
      two (bucket n) b
      (λ h. let q : n ≡ k = omega (arith, newest_here n b h) in rw q at h)
      (λ d. newest_in n b k (sym (newest_before n b d) ∙ e))

  -- only what is in the bucket can pass: so none that is skipped does
  newest_last : (t : ℕ → Bool) (b : ℕ) → ((i : ℕ) → t i ≡ true → bucket i ≡ b) → (n : ℕ) → last t n ≡ last t (newest bucket n b)
  unfolding newest
  newest_last t b f zero = refl
  newest_last t b f (suc n) =
      two (bucket n) b
      (λ e. rw (newest_here n b e))
      (λ d. rw (newest_before n b d) (last_before t n (bool? (t n) (λ e. absurd (d (f n e))) (λ e. e)) ∙ newest_last t b f n))

  -- ---- a walk along the chain of bucket b, for the last that passes

  -- what is known at the link k: the next to compare is k - 1
  pub record Going (t : ℕ → Bool) (b n k : ℕ) : Type 0 where
    pub within : k ≤ n
    pub left : last t n ≡ last t k
    pub inside : (i : ℕ) → k ≡ suc i → bucket i ≡ b

  module _ (t : ℕ → Bool) (b : ℕ) (f : (i : ℕ) → t i ≡ true → bucket i ≡ b) (h l n : ℕ) (z : List ℕ) (v : Chained bucket h l n z) where
    pub going_begin : b < 256 → Going t b n (get_or z (h + b) 0)
    going_begin s =
        let e = v.heads b s in record {
          within = omega (arith, newest_le n b);
          left = rw e (newest_last t b f n);
          inside = λ i q. newest_in n b i (sym e ∙ q);
        }

    module _ (k : ℕ) (d : k ≡ 0 → ⊥) (g : Going t b n k) where
      next : suc (k - 1) ≡ k
      next = omega arith

      pub going_hit : t (k - 1) ≡ true → last t n ≡ at (k - 1)
      going_hit e = g.left ∙ ap (last t) (sym next) ∙ last_here t (k - 1) e

      pub going_on : t (k - 1) ≡ false → Going t b n (get_or z (l + (k - 1)) 0) × (get_or z (l + (k - 1)) 0 < k)
      going_on e =
          let i : ℕ = k - 1 in
          let e' : get_or z (l + i) 0 ≡ newest bucket i b = v.links i (omega (arith, g.within)) ∙ ap (newest bucket i) (g.inside i (sym next)) in
          let le : newest bucket i b ≤ i = newest_le i b in (
            record {
              within = omega (arith, g.within);
              left = g.left ∙ ap (last t) (sym next) ∙ last_before t i e ∙ rw e' (newest_last t b f i);
              inside = λ j q. newest_in i b j (sym e' ∙ q);
            },
            omega arith,
          )

    pub going_end : (k : ℕ) → k ≡ 0 → Going t b n k → last t n ≡ nowhere
    unfolding last
    going_end k e g = g.left ∙ ap (last t) e

-- ---- chains made

-- none yet
pub chain_empty : (bucket : ℕ → ℕ) (h l : ℕ) (z : List ℕ) → ((b : ℕ) → b < 256 → get_or z (h + b) 0 ≡ 0) → Chained bucket h l 0 z
unfolding newest
chain_empty bucket h l z e = record { heads = e; links = λ i k. absurd (omega arith) }

-- number n in front of the chain of bucket b
unfoldable pub linked : ℕ → ℕ → List ℕ → ℕ → ℕ → List ℕ
linked h l z n b = set (set z (l + n) (get_or z (h + b) 0)) (h + b) (n + 1)

module _ (h l n b : ℕ) (z : List ℕ) (apart : h + 256 ≤ l) (room : l + n < length z) (small : b < 256) where
  pub linked_length : length (linked h l z n b) ≡ length z
  unfolding linked
  linked_length = simp length-set

  pub linked_other : (j : ℕ) → j ≢ l + n → j ≢ h + b → get_or (linked h l z n b) j 0 ≡ get_or z j 0
  unfolding linked
  linked_other j p q = rw (get_or-set_other, get_or-set_other)

  linked_head : get_or (linked h l z n b) (h + b) 0 ≡ n + 1
  unfolding linked
  linked_head = get_or-set_same (set z (l + n) (get_or z (h + b) 0)) (h + b) (n + 1) 0 (simp length-set (omega arith))

  linked_link : get_or (linked h l z n b) (l + n) 0 ≡ get_or z (h + b) 0
  unfolding linked
  linked_link = get_or-set_other (set z (l + n) (get_or z (h + b) 0)) (h + b) (l + n) (n + 1) 0 (omega arith) ∙ get_or-set_same z (l + n) _ 0 room

  pub chain_add : (bucket : ℕ → ℕ) → bucket n ≡ b → Chained bucket h l n z → Chained bucket h l (suc n) (linked h l z n b)
  chain_add bucket e v = record {
    heads = λ a s.
        two a b
        (λ q. rw q (linked_head ∙ add-one n ∙ sym (newest_here bucket n b e)))
        (λ q. rw (newest_before bucket n a (λ d. q (sym d ∙ e))) (linked_other (h + a) (omega arith) (omega arith) ∙ v.heads a s));
    links = λ i s.
        two i n
        (λ q. rw (q, e) (linked_link ∙ v.heads b small))
        (λ q. linked_other (l + i) (omega arith) (omega arith) ∙ v.links i (omega arith));
  }
