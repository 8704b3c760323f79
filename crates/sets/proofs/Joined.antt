-- A config joined to the one that has its key: the configs and the flags afterwards. Nothing here has to be believed.
use Rattle.std.specs.Prelude.{◌≡◌, ◌≢◌, true, false, not, ◌&&◌, ◌||◌, eqb, length}
use Rattle.std.proofs.Math.Path.{refl, sym, ap}
use Rattle.std.proofs.Common.{◌∙◌, arith, lt-ltb, le-ltb}
use Rattle.std.proofs.Math.Bool.{Bool, or_assoc, or-true, or-false, and-false}
use mathlib.Core.List.{List, [], ◌∷◌, ◌++◌}
use Prim.Native.Nat.{ℕ, zero, suc, ◌<◌, ◌≤◌, max}
use Rattle.std.proofs.Math.Dec.{ltb}
use Rattle.encoding.specs.Numbers.{two, three}
use Rattle.encoding.specs.Store.{at}
use Rattle.sets.specs.Config.{Config}
use Rattle.sets.specs.Lists.{any}
use Rattle.encoding.specs.Bools.{bool?, is_false, either}
use Rattle.sets.specs.Layout.{config_at, config_count}
use Rattle.sets.specs.Sets.{key, same_keys, held, joined, joined_all, has_semantic, dips}
use Rattle.sets.specs.Sets.Laws.{key_of_same, held_last, held_more}
use Rattle.sets.specs.Words.{configs_in, SoundSet}
use Rattle.sets.specs.Listed.{configs_length, last_equal, none_any}

-- y, joined with x where it has x's key
unfoldable pub joined_if : Config → ℕ → Config → Config
joined_if x c y = elim (same_keys x y) [ true ↦ joined x c y | false ↦ y ]

module _ (x : Config) (c : ℕ) where
  pub joined_here : (y : Config) → same_keys x y ≡ true → joined_if x c y ≡ joined x c y
  unfolding joined_if
  joined_here y e = rw (e, joined_if)

  pub joined_other : (y : Config) → same_keys x y ≡ false → joined_if x c y ≡ y
  unfolding joined_if
  joined_other y e = rw (e, joined_if)

  pub joined_first : (y : Config) (ys : List Config) → joined_all x c (y ∷ ys) ≡ joined_if x c y ∷ joined_all x c ys
  unfolding joined_all joined_if
  joined_first y ys = refl

  pub joined_none : joined_all x c [] ≡ []
  unfolding joined_all
  joined_none = refl

  pub joined_more : (cs : List Config) (y : Config) → joined_all x c (cs ++ (y ∷ [])) ≡ joined_all x c cs ++ (joined_if x c y ∷ [])
  joined_more [] y = joined_first y [] ∙ rw joined_none
  joined_more (z ∷ zs) y = joined_first z (zs ++ (y ∷ [])) ∙ rw (joined_more zs y, joined_first z zs)

  pub joined_length : (cs : List Config) → length (joined_all x c cs) ≡ length cs
  joined_length [] = rw joined_none
  joined_length (y ∷ ys) = ap length (joined_first y ys) ∙ ap suc (joined_length ys)

  -- ---- flags

  semantic_same : (y : Config) → (joined_if x c y).semantic ≡ y.semantic
  unfolding joined
  semantic_same y =
      bool? (same_keys x y) (λ e. ap (λ (z : Config). z.semantic) (joined_here y e)) (λ e. ap (λ (z : Config). z.semantic) (joined_other y e))

  pub semantic_joined : (cs : List Config) → has_semantic (joined_all x c cs) ≡ has_semantic cs
  unfolding has_semantic any
  semantic_joined [] = rw joined_none
  semantic_joined (y ∷ ys) = rw (joined_first y ys, semantic_same y, semantic_joined ys)

  positive_max : (a b : ℕ) → ltb 0 (max a b) ≡ (ltb 0 a || ltb 0 b)
  positive_max a b =
      two a 0
      (λ e. rw (le-ltb 0 a (omega arith)) (two b 0 (λ d. le-ltb 0 (max a b) (omega arith) ∙ sym (le-ltb 0 b (omega arith)))
      (λ d. lt-ltb 0 (max a b) (omega arith) ∙ sym (lt-ltb 0 b (omega arith)))))
      (λ e. lt-ltb 0 (max a b) (omega arith) ∙ rw (lt-ltb 0 a (omega arith)))

  here : (a p d k : Bool) → ((a || p) || (d || (k && p))) ≡ ((a || d) || p)
  here true p d k = refl
  here false true d k = sym (or-true d)
  here false false d k = ap (λ (b : Bool). d || b) (and-false k)

  pub dips_joined : (cs : List Config) → dips (joined_all x c cs) ≡ (dips cs || (any (same_keys x) cs && ltb 0 x.reach))
  unfolding dips any joined
  dips_joined [] = rw joined_none
  dips_joined (y ∷ ys) =
      let t : Config → Bool = λ z. ltb 0 z.reach in
      bool? (same_keys x y)
      (λ e. rw (joined_first y ys, joined_here y e, dips_joined ys, positive_max y.reach x.reach, e)
      (here (t y) (t x) (any t ys) (any (same_keys x) ys)))
      (λ e. rw (joined_first y ys, joined_other y e, dips_joined ys, e) (sym (or_assoc (t y) (any t ys) (any (same_keys x) ys && t x))))

-- each config is joined where it has the key
pub joined_at : (x : Config) (c : ℕ) (u v : List ℕ) (n : ℕ) → configs_in u n ≡ joined_all x c (configs_in v n) → (i : ℕ) → i < n → config_at u i ≡ joined_if x c (config_at v i)
unfolding configs_in
joined_at x c u v zero e i l = absurd (omega arith)
joined_at x c u v (suc n) e i l =
    let r =
    last_equal (configs_in u n) (joined_all x c (configs_in v n)) (config_at u n) (joined_if x c (config_at v n))
    (configs_length u n ∙ sym (joined_length x c (configs_in v n) ∙ configs_length v n))
    (e ∙ joined_more x c (configs_in v n) (config_at v n)) in
    two i n (λ q. rw q r.1) (λ d. joined_at x c u v n r.0 i (omega arith))

-- a known key brings no new semantic id
pub semantic_known : (x : Config) (cs : List Config) → any (same_keys x) cs ≡ true → (has_semantic cs || not (eqb x.semantic 0)) ≡ has_semantic cs
unfolding has_semantic any key
semantic_known x [] e = cc
semantic_known x (y ∷ ys) e =
    let t : Config → Bool = λ z. not (eqb z.semantic 0) in
    either (same_keys x y) (any (same_keys x) ys) e
    (λ s. let q : x.semantic ≡ y.semantic = cc (key_of_same x y s) in rw q (again (t y) (any t ys)))
    (λ s. or_assoc (t y) (any t ys) (t x) ∙ ap (λ (b : Bool). t y || b) (semantic_known x ys s))
  where
    again : (a b : Bool) → ((a || b) || a) ≡ (a || b)
    again true b = refl
    again false b = or-false b

-- ---- in words whose keys differ

module _ {k : ℕ} {v : List ℕ} (s : SoundSet k v) (x : Config) (i : ℕ) (l : i < config_count v) (same : same_keys x (config_at v i) ≡ true) where
  pub only_key : (j : ℕ) → j < config_count v → j ≢ i → same_keys x (config_at v j) ≡ false
  only_key j h d =
      is_false _ (λ e.
      let q : key (config_at v j) ≡ key (config_at v i) = sym (key_of_same x (config_at v j) e) ∙ key_of_same x (config_at v i) same in
      three j i (λ a. s.differ j i a l q) (λ a. d a) (λ a. s.differ i j a h (sym q)))

  -- the config is found by its key
  held_part : (n : ℕ) → i < n → n ≤ config_count v → held x (configs_in v n) ≡ at (config_at v i).context
  unfolding configs_in
  held_part zero a b = absurd (omega arith)
  held_part (suc n) a b =
      two i n
      (λ e. rw (← e) (held_last x (configs_in v i) (config_at v i) (none_any (same_keys x) v i (λ j h. only_key j (omega arith) (omega arith))) same))
      (λ d. held_more x (configs_in v n) (config_at v n) (only_key n (omega arith) (omega arith)) ∙ held_part n (omega arith) (omega arith))

  pub held_here : held x (configs_in v (config_count v)) ≡ at (config_at v i).context
  held_here = held_part (config_count v) l (omega arith)

  -- words that differ in that config alone hold the configs joined
  module _ (c : ℕ) (u : List ℕ) (new : config_at u i ≡ joined x c (config_at v i)) (old : (j : ℕ) → j ≢ i → config_at u j ≡ config_at v j) where
    joined_part : (n : ℕ) → n ≤ config_count v → configs_in u n ≡ joined_all x c (configs_in v n)
    unfolding configs_in
    joined_part zero h = sym (joined_none x c)
    joined_part (suc n) h =
        let e : config_at u n ≡ joined_if x c (config_at v n) =
        two n i
        (λ q. rw q (new ∙ sym (joined_here x c (config_at v i) same)))
        (λ q. old n q ∙ sym (joined_other x c (config_at v n) (only_key n (omega arith) q))) in
        rw (joined_part n (omega arith), e) (sym (joined_more x c (configs_in v n) (config_at v n)))

    pub joined_configs : configs_in u (config_count v) ≡ joined_all x c (configs_in v (config_count v))
    joined_configs = joined_part (config_count v) (omega arith)
