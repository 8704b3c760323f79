-- Lists of entries in words: sound ones are as long as their words, rise, and are the same exactly if their words are. Nothing here has to be believed.
use Rattle.std.specs.Prelude.{◌≡◌, refl, ℕ, zero, suc, ◌<◌, ◌≤◌, ◌+◌}
use Rattle.std.proofs.Common.{sym, ap, ◌∙◌, arith, eq-eqb, ne_eqb}
use Rattle.arena.specs.Numbers.{two}
use Rattle.arena.specs.Store.{Node, dollar, push}
use Rattle.arena.proofs.Soundness.{Rise, Full}
use Rattle.arena.specs.Kinds.{size}
use Rattle.arena.proofs.Below.{NodeBelow}
use Rattle.layout.specs.Layout.{stop}
use Rattle.layout.specs.Listing.{listing}

-- the k entries from place i on are sound below the context c: "states rise strictly, a `$` has parent 0", parents are older than c
pub record Entries (st pa : ℕ → ℕ) (i k c : ℕ) : Type 0 where
  pub fit : (j : ℕ) → i ≤ j → j < i + k → st j ≤ stop
  pub older : (j : ℕ) → i ≤ j → j < i + k → pa j < c
  pub rise : (j : ℕ) → i ≤ j → suc j < i + k → st j < st (suc j)
  pub dollar : (j : ℕ) → i ≤ j → j < i + k → st j ≡ stop → pa j ≡ 0

-- ---- one entry at a time

module _ (st pa : ℕ → ℕ) (i k : ℕ) where
  pub listing_stop : st i ≡ stop → listing st pa i (suc k) ≡ dollar
  unfolding listing
  listing_stop e = rw (eq-eqb (st i) stop e, listing)

  pub listing_more : (st i ≡ stop → ⊥) → listing st pa i (suc k) ≡ push (st i) (pa i) (listing st pa (suc i) k)
  unfolding listing
  listing_more n = rw (ne_eqb (st i) stop n, listing)

pub entries_rest : (st pa : ℕ → ℕ) (i k c : ℕ) → Entries st pa i (suc k) c → Entries st pa (suc i) k c
entries_rest st pa i k c v = record {
  fit = λ j a b. v.fit j (omega arith) (omega arith);
  older = λ j a b. v.older j (omega arith) (omega arith);
  rise = λ j a b. v.rise j (omega arith) (omega arith);
  dollar = λ j a b. v.dollar j (omega arith) (omega arith);
}

pub entries_le : (st pa : ℕ → ℕ) (i k c d : ℕ) → c ≤ d → Entries st pa i k c → Entries st pa i k d
entries_le st pa i k c d h v = record {
  fit = v.fit;
  older = λ j a b. omega (arith, v.older j a b);
  rise = v.rise;
  dollar = v.dollar;
}

-- a `$` is the last entry
pub stop_last : (st pa : ℕ → ℕ) (i k c : ℕ) → Entries st pa i (suc k) c → st i ≡ stop → k ≡ 0
stop_last st pa i zero c v e = refl
stop_last st pa i (suc k) c v e =
    absurd (omega (arith, v.rise i (omega arith) (omega arith), v.fit (suc i) (omega arith) (omega arith)))

-- ---- lists that agree place by place hold the same entries

pub listing_agree : (st pa st' pa' : ℕ → ℕ) (i i' k : ℕ)
    → ((j : ℕ) → j < k → (st (i + j) ≡ st' (i' + j)) × (pa (i + j) ≡ pa' (i' + j)))
    → listing st pa i k ≡ listing st' pa' i' k
unfolding listing
listing_agree st pa st' pa' i i' zero h = refl
listing_agree st pa st' pa' i i' (suc k) h =
    let z : i + 0 ≡ i = omega arith in
    let z' : i' + 0 ≡ i' = omega arith in
    let a : st i ≡ st' i' = sym (ap st z) ∙ (h 0 (omega arith)).0 ∙ ap st' z' in
    let b : pa i ≡ pa' i' = sym (ap pa z) ∙ (h 0 (omega arith)).1 ∙ ap pa' z' in
    let rest : listing st pa (suc i) k ≡ listing st' pa' (suc i') k =
    listing_agree st pa st' pa' (suc i) (suc i') k (λ j l.
    let e : suc i + j ≡ i + suc j = omega arith in
    let e' : suc i' + j ≡ i' + suc j = omega arith in
    (ap st e ∙ (h (suc j) (omega arith)).0 ∙ sym (ap st' e'), ap pa e ∙ (h (suc j) (omega arith)).1 ∙ sym (ap pa' e'))) in
    two (st i) stop
    (λ e. listing_stop st pa i k e ∙ sym (listing_stop st' pa' i' k (sym a ∙ e)))
    (λ n. listing_more st pa i k n ∙ (rw (a, b, rest)) ∙ sym (listing_more st' pa' i' k (λ e. n (a ∙ e))))

-- ---- sound entries: as many as there are words for, rising, below `stop`

pub listing_size : (st pa : ℕ → ℕ) (i k c : ℕ) → Entries st pa i k c → size (listing st pa i k) ≡ k
unfolding listing size
listing_size st pa i zero c v = refl
listing_size st pa i (suc k) c v =
    two (st i) stop
    (λ e. rw (listing_stop st pa i k e, stop_last st pa i k c v e))
    (λ n. rw (listing_more st pa i k n, listing_size st pa (suc i) k c (entries_rest st pa i k c v)))

pub listing_rise : (st pa : ℕ → ℕ) (lo i k c : ℕ) → Entries st pa i k c → (0 < k → lo ≤ st i) → Rise lo c (listing st pa i k)
unfolding listing
listing_rise st pa lo i zero c v h = tt
listing_rise st pa lo i (suc k) c v h =
    two (st i) stop
    (λ e. rw (listing_stop st pa i k e) tt)
    (λ n. rw (listing_more st pa i k n) (
      h (omega arith),
      v.older i (omega arith) (omega arith),
      listing_rise st pa (suc (st i)) (suc i) k c (entries_rest st pa i k c v) (λ l. v.rise i (omega arith) (omega arith)),
    ))

pub listing_below : (st pa : ℕ → ℕ) (i k c : ℕ) → Entries st pa i k c → NodeBelow stop (listing st pa i k)
unfolding listing
listing_below st pa i zero c v = tt
listing_below st pa i (suc k) c v =
    two (st i) stop
    (λ e. rw (listing_stop st pa i k e) tt)
    (λ n. rw (listing_more st pa i k n) (omega (arith, v.fit i (omega arith) (omega arith)), listing_below st pa (suc i) k c (entries_rest st pa i k c v)))

pub listing_full : (st pa : ℕ → ℕ) (i k : ℕ) → 0 < k → Full (listing st pa i k)
unfolding listing
listing_full st pa i zero h = absurd (omega arith)
listing_full st pa i (suc k) h =
    two (st i) stop (λ e. rw (listing_stop st pa i k e) tt) (λ n. rw (listing_more st pa i k n) tt)

-- ---- sound lists that hold the same entries agree place by place

push_state : (r p q s : ℕ) (n k : Node) → push r p n ≡ push q s k → r ≡ q
push_state r p q s n k e = cc

push_parent : (r p q s : ℕ) (n k : Node) → push r p n ≡ push q s k → p ≡ s
push_parent r p q s n k e = cc

push_rest : (r p q s : ℕ) (n k : Node) → push r p n ≡ push q s k → n ≡ k
push_rest r p q s n k e = cc

dollar_push : (r p : ℕ) (n : Node) → dollar ≡ push r p n → ⊥
dollar_push r p n e = let z : ◌≡◌ {A = ℕ} 0 1 = cc in omega arith

no_entries : (st pa st' pa' : ℕ → ℕ) (i i' : ℕ) → listing st pa i 0 ≡ listing st' pa' i' 0
unfolding listing
no_entries st pa st' pa' i i' = refl

-- the first entries agree, and so do the rests
pub listing_head : (st pa st' pa' : ℕ → ℕ) (i i' k c c' : ℕ) → Entries st pa i (suc k) c → Entries st' pa' i' (suc k) c'
    → listing st pa i (suc k) ≡ listing st' pa' i' (suc k)
    → (st i ≡ st' i') × (pa i ≡ pa' i') × (listing st pa (suc i) k ≡ listing st' pa' (suc i') k)
listing_head st pa st' pa' i i' k c c' v v' e =
    two (st i) stop
    (λ a. two (st' i') stop
    (λ b. (
      a ∙ sym b,
      v.dollar i (omega arith) (omega arith) a ∙ sym (v'.dollar i' (omega arith) (omega arith) b),
      (rw (stop_last st pa i k c v a) (no_entries st pa st' pa' (suc i) (suc i'))),
    ))
    (λ b. absurd (dollar_push _ _ _ (sym (listing_stop st pa i k a) ∙ e ∙ listing_more st' pa' i' k b))))
    (λ a. two (st' i') stop
    (λ b. absurd (dollar_push _ _ _ (sym (listing_stop st' pa' i' k b) ∙ sym e ∙ listing_more st pa i k a)))
    (λ b. let q = sym (listing_more st pa i k a) ∙ e ∙ listing_more st' pa' i' k b in
    (push_state _ _ _ _ _ _ q, push_parent _ _ _ _ _ _ q, push_rest _ _ _ _ _ _ q)))

pub listing_inj : (st pa st' pa' : ℕ → ℕ) (i i' k c c' : ℕ) → Entries st pa i k c → Entries st' pa' i' k c'
    → listing st pa i k ≡ listing st' pa' i' k
    → (j : ℕ) → j < k → (st (i + j) ≡ st' (i' + j)) × (pa (i + j) ≡ pa' (i' + j))
listing_inj st pa st' pa' i i' zero c c' v v' e j l = absurd (omega arith)
listing_inj st pa st' pa' i i' (suc k) c c' v v' e zero l =
    let h = listing_head st pa st' pa' i i' k c c' v v' e in
    let z : i + 0 ≡ i = omega arith in
    let z' : i' + 0 ≡ i' = omega arith in
    (ap st z ∙ h.0 ∙ sym (ap st' z'), ap pa z ∙ h.1 ∙ sym (ap pa' z'))
listing_inj st pa st' pa' i i' (suc k) c c' v v' e (suc j) l =
    let h = listing_head st pa st' pa' i i' k c c' v v' e in
    let r = listing_inj st pa st' pa' (suc i) (suc i') k c c' (entries_rest st pa i k c v) (entries_rest st' pa' i' k c' v') h.2 j (omega arith) in
    let z : i + suc j ≡ suc i + j = omega arith in
    let z' : i' + suc j ≡ suc i' + j = omega arith in
    (ap st z ∙ r.0 ∙ sym (ap st' z'), ap pa z ∙ r.1 ∙ sym (ap pa' z'))
