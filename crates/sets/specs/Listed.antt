-- The configs that words hold, by place. Nothing here has to be believed.
use Rattle.std.specs.Prelude.{◌≡◌, Bool, false, ◌&&◌, ◌||◌, List, [], ◌∷◌, ◌++◌, length, get_or, take}
use Rattle.std.proofs.Math.Path.{refl, sym}
use Rattle.std.proofs.Common.{ap, ◌∙◌, length-append, take_at}
use Rattle.std.proofs.Math.Bool.{true, not, and-false}
use Prim.Native.Nat.{ℕ, zero, suc, ◌<◌}
use native.Mathlib.Omega.{arith}
use Rattle.std.proofs.lemmas.List.{get_or_at}
use borrow.Author.Tests.{not-true}
use Rattle.encoding.specs.Numbers.{two}
use Rattle.sets.specs.Config.{Config}
use Rattle.sets.specs.Lists.{any, all}
use Rattle.encoding.specs.Bools.{is_false, never_both, either, or_right, both_true, and_left, and_right}
use Rattle.sets.specs.Lists.Laws.{any_more, all_more}
use Rattle.sets.specs.Layout.{config_at}
use Rattle.sets.specs.Sets.{key, same_keys}
use Rattle.sets.specs.Sets.Laws.{key_of_same, same_of_key, same_symmetric}
use Rattle.sets.specs.Words.{configs_in, distinct}

pub configs_length : (v : List ℕ) (n : ℕ) → length (configs_in v n) ≡ n
unfolding configs_in
configs_length v zero = refl
configs_length v (suc n) = length-append (configs_in v n) (config_at v n ∷ []) ∙ omega (arith, configs_length v n)

pub configs_agree : (v u : List ℕ) (n : ℕ) → ((i : ℕ) → i < n → config_at v i ≡ config_at u i) → configs_in v n ≡ configs_in u n
unfolding configs_in
configs_agree v u zero f = refl
configs_agree v u (suc n) f = rw (f n (omega arith), configs_agree v u n (λ i l. f i (omega arith)))

-- lists that are equal, and longer by one
pub last_equal : (xs ys : List Config) (a b : Config) → length xs ≡ length ys → xs ++ (a ∷ []) ≡ ys ++ (b ∷ []) → (xs ≡ ys) × (a ≡ b)
last_equal xs ys a b l e = (
  sym (take_at xs (a ∷ []) (length ys) l) ∙ ap (take (length ys)) e ∙ take_at ys (b ∷ []) (length ys) refl,
  sym (get_or_at xs a [] a (length ys) l) ∙ ap (λ (c : List Config). get_or c (length ys) a) e ∙ get_or_at ys b [] a (length ys) refl,
)

pub configs_same : (u v : List ℕ) (n : ℕ) → configs_in u n ≡ configs_in v n → (i : ℕ) → i < n → config_at u i ≡ config_at v i
unfolding configs_in
configs_same u v zero e i l = absurd (omega arith)
configs_same u v (suc n) e i l =
    let r = last_equal (configs_in u n) (configs_in v n) (config_at u n) (config_at v n) (configs_length u n ∙ sym (configs_length v n)) e in
    two i n (λ q. rw q r.1) (λ d. configs_same u v n r.0 i (omega arith))

-- ---- a test at each place

module _ (t : Config → Bool) (v : List ℕ) where
  pub any_at : (n : ℕ) → any t (configs_in v n) ≡ true → (i : ℕ) × (i < n) × (t (config_at v i) ≡ true)
  unfolding configs_in any
  any_at zero e = never_both e refl
  any_at (suc n) e =
      either (any t (configs_in v n)) (t (config_at v n)) (sym (any_more t (configs_in v n) (config_at v n)) ∙ e)
      (λ h. let r = any_at n h in (r.0, omega (arith, r.1), r.2))
      (λ h. (n, omega arith, h))

  pub at_any : (n i : ℕ) → i < n → t (config_at v i) ≡ true → any t (configs_in v n) ≡ true
  unfolding configs_in
  at_any zero i l e = absurd (omega arith)
  at_any (suc n) i l e =
      any_more t (configs_in v n) (config_at v n)
      ∙ two i n
      (λ d. or_right (any t (configs_in v n)) (t (config_at v n)) (rw d at e))
      (λ d. rw (at_any n i (omega arith) e))

  pub any_none : (n : ℕ) → any t (configs_in v n) ≡ false → (i : ℕ) → i < n → t (config_at v i) ≡ false
  any_none n e i l = is_false _ (λ h. never_both (at_any n i l h) e)

  pub none_any : (n : ℕ) → ((i : ℕ) → i < n → t (config_at v i) ≡ false) → any t (configs_in v n) ≡ false
  none_any n f = is_false _ (λ h. let r = any_at n h in never_both r.2 (f r.0 r.1))

  pub all_at : (n : ℕ) → all t (configs_in v n) ≡ true → (i : ℕ) → i < n → t (config_at v i) ≡ true
  unfolding configs_in
  all_at zero e i l = absurd (omega arith)
  all_at (suc n) e i l =
      let h : (all t (configs_in v n) && t (config_at v n)) ≡ true = sym (all_more t (configs_in v n) (config_at v n)) ∙ e in
      two i n (λ d. rw d (and_right (all t (configs_in v n)) _ h)) (λ d. all_at n (and_left (all t (configs_in v n)) _ h) i (omega arith))

  pub at_all : (n : ℕ) → ((i : ℕ) → i < n → t (config_at v i) ≡ true) → all t (configs_in v n) ≡ true
  unfolding configs_in all
  at_all zero f = refl
  at_all (suc n) f = all_more t (configs_in v n) (config_at v n) ∙ both_true _ _ (at_all n (λ i l. f i (omega arith))) (f n (omega arith))

-- ---- keys that differ

regroup : (a s d b : Bool) → (not (a || s) && (d && not b)) ≡ (not a && d && not (s || b))
regroup true s d b = refl
regroup false true d b = sym (and-false d)
regroup false false d b = refl

pub distinct_more : (cs : List Config) (y : Config) → distinct (cs ++ (y ∷ [])) ≡ (distinct cs && not (any (same_keys y) cs))
unfolding distinct any
distinct_more [] y = refl
distinct_more (x ∷ cs) y =
    rw (any_more (same_keys x) cs y, distinct_more cs y, same_symmetric y x) (regroup (any (same_keys x) cs) (same_keys x y) (distinct cs) (any (same_keys y) cs))

module _ (v : List ℕ) where
  pub distinct_at : (n : ℕ) → distinct (configs_in v n) ≡ true → (i j : ℕ) → i < j → j < n → key (config_at v i) ≡ key (config_at v j) → ⊥
  unfolding configs_in
  distinct_at zero e i j h l q = omega arith
  distinct_at (suc n) e i j h l q =
      let d : (distinct (configs_in v n) && not (any (same_keys (config_at v n)) (configs_in v n))) ≡ true =
      sym (distinct_more (configs_in v n) (config_at v n)) ∙ e in
      two j n
      (λ a.
      let none = not-true _ (and_right (distinct (configs_in v n)) _ d) in
      never_both (same_of_key (config_at v n) (config_at v i) (sym (rw a at q))) (any_none (same_keys (config_at v n)) v n none i (omega arith)))
      (λ a. distinct_at n (and_left (distinct (configs_in v n)) _ d) i j h (omega arith) q)

  pub at_distinct : (n : ℕ) → ((i j : ℕ) → i < j → j < n → key (config_at v i) ≡ key (config_at v j) → ⊥) → distinct (configs_in v n) ≡ true
  unfolding configs_in distinct
  at_distinct zero f = refl
  at_distinct (suc n) f =
      distinct_more (configs_in v n) (config_at v n)
      ∙ both_true _ _ (at_distinct n (λ i j h l. f i j h (omega arith)))
      (ap not (none_any (same_keys (config_at v n)) v n
      (λ i l. is_false _ (λ e. f i n l (omega arith) (sym (key_of_same (config_at v n) (config_at v i) e))))))
