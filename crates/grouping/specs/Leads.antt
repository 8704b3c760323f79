-- The first and the next of the numbers that are alike to a number. Nothing here has to be believed.
use Rattle.std.specs.Prelude.{◌≡◌, Bool, true, false, ℕ, zero, suc, ◌<◌, ◌≤◌}
use Rattle.std.proofs.Common.{sym, ◌∙◌, arith}
use Rattle.words.specs.Numbers.{three, two}
use Rattle.encoding.specs.Store.{at, nowhere}
use Rattle.words.specs.Bools.{bool?, never_both, is_false}
use Rattle.groups.specs.Chains.{last, last_here, last_before, last_found, last_none}

-- being alike
pub record Kin (t : ℕ → ℕ → Bool) : Type 0 where
  pub self : (i : ℕ) → t i i ≡ true
  pub swap : (i j : ℕ) → t i j ≡ true → t j i ≡ true
  pub next : (i j k : ℕ) → t i j ≡ true → t j k ≡ true → t i k ≡ true

-- l is the first that is alike to i
pub record FirstAlike (t : ℕ → ℕ → Bool) (i l : ℕ) : Type 0 where
  pub early : l ≤ i
  pub same : t l i ≡ true
  pub first : (j : ℕ) → j < l → t j i ≡ false

-- j is the next after i that is alike, among the first n
pub record Follows (t : ℕ → ℕ → Bool) (n i j : ℕ) : Type 0 where
  pub later : i < j
  pub within : j < n
  pub same : t i j ≡ true
  pub skips : (k : ℕ) → i < k → k < j → t i k ≡ false

-- m is the number of the next, plus 1, or 0 where there is none
pub record Next (t : ℕ → ℕ → Bool) (n i m : ℕ) : Type 0 where
  pub none : m ≡ 0 → (j : ℕ) → i < j → j < n → t i j ≡ false
  pub some : (j : ℕ) → m ≡ suc j → Follows t n i j

-- what comes after the last that passes does not
last_after : (t : ℕ → Bool) (n b : ℕ) → last t n ≡ at b → (k : ℕ) → b < k → k < n → t k ≡ false
last_after t zero b e k h l = absurd (omega arith)
last_after t (suc n) b e k h l =
    bool? (t n)
    (λ d. let q : n ≡ b = found n b (sym (last_here t n d) ∙ e) in absurd (omega arith))
    (λ d. two k n (λ q. rw q d) (λ q. last_after t n b (sym (last_before t n d) ∙ e) k h (omega arith)))
  where
    found : (a b : ℕ) → at a ≡ at b → a ≡ b
    found a b e = cc

module _ (t : ℕ → ℕ → Bool) (K : Kin t) where
  -- two that are alike have one first
  pub leads_one : (i j l m : ℕ) → t i j ≡ true → FirstAlike t i l → FirstAlike t j m → l ≡ m
  leads_one i j l m e p q =
      three l m
      (λ h. never_both (K.next l i j p.same e) (q.first l h))
      (λ h. h)
      (λ h. never_both (K.next m j i q.same (K.swap i j e)) (p.first m h))

  -- what differs from i differs from all alike to it
  differs : (i j k : ℕ) → t i j ≡ true → t k i ≡ false → t k j ≡ false
  differs i j k e d = is_false (t k j) (λ h. never_both (K.next k j i h (K.swap i j e)) d)

  module _ (n : ℕ) where
    -- ---- none before n is alike

    module _ (e : last (λ j. t j n) n ≡ nowhere) where
      none_before : (i : ℕ) → i < n → t i n ≡ false
      none_before = last_none (λ j. t j n) n e

      pub lead_new : FirstAlike t n n
      lead_new = record { early = omega arith; same = K.self n; first = none_before }

      pub next_new : (i m : ℕ) → i < n → Next t n i m → Next t (suc n) i m
      next_new i m h x = record {
        none = λ q j a b. two j n (λ p. rw p (none_before i h)) (λ p. x.none q j a (omega arith));
        some = λ j q. let f = x.some j q in record { later = f.later; within = omega (arith, f.within); same = f.same; skips = f.skips };
      }

    -- ---- b is the last before n that is alike

    module _ (b : ℕ) (e : last (λ j. t j n) n ≡ at b) where
      pub before : b < n
      before = (last_found (λ j. t j n) n b e).0

      pub alike : t b n ≡ true
      alike = (last_found (λ j. t j n) n b e).1

      after : (k : ℕ) → b < k → k < n → t k n ≡ false
      after = last_after (λ j. t j n) n b e

      pub lead_old : (l : ℕ) → FirstAlike t b l → FirstAlike t n l
      lead_old l x = record {
        early = omega (arith, x.early, before);
        same = K.next l b n x.same alike;
        first = λ j h. differs b n j alike (x.first j h);
      }

      pub next_last : Next t (suc n) b (suc n)
      next_last = record {
        none = λ q. absurd (omega arith);
        some = λ j q.
            let p : n ≡ j = omega arith in
            rw (← p) (record {
              later = before;
              within = omega arith;
              same = alike;
              skips = λ k h l. is_false (t b k) (λ d. never_both (K.next k b n (K.swap b k d) alike) (after k h l));
            });
      }

      pub next_other : (i m : ℕ) → i < n → (i ≡ b → ⊥) → Next t n i m → Next t (suc n) i m
      next_other i m h d x = record {
        none = λ q j a l. two j n (λ p. rw p (last_one q)) (λ p. x.none q j a (omega arith));
        some = λ j q. let f = x.some j q in record { later = f.later; within = omega (arith, f.within); same = f.same; skips = f.skips };
      }
        where
          last_one : m ≡ 0 → t i n ≡ false
          last_one q =
              three i b
              (λ o. is_false (t i n) (λ y. never_both (K.next i n b y (K.swap b n alike)) (x.none q b o before)))
              (λ o. absurd (d o))
              (λ o. after i o h)

  -- it is the last so far
  pub next_own : (n : ℕ) → Next t (suc n) n 0
  next_own n = record { none = λ q j a l. absurd (omega arith); some = λ j q. absurd (omega arith) }
