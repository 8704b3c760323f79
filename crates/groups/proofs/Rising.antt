-- Numbers put in rising order: which are there, and that they rise. Nothing here has to be believed.
use Rattle.std.specs.Prelude.{◌≡◌, ◌⊎◌, ◌↔◌, Bool, true, List, [], ◌∷◌, map, ℕ, suc, ◌<◌, ◌≤◌, length}
use Rattle.std.proofs.Common.{sym, ◌∙◌, subst, inl, inr, ⊎_elim, arith}
use Rattle.std.proofs.lemmas.List.{length-map}
use borrow.Author.Tests.{lt-ltb, le-ltb, eq-eqb, ne_eqb}
use Rattle.sets.specs.Numbers.{three}
use Rattle.sets.specs.Config.{Config}
use Rattle.groups.specs.Lists.{Any, All, In, Rising, which}
use Rattle.groups.specs.Lists.Laws.{every_map, some_made, made_some}
use Rattle.groups.specs.Lists.Tests.{which_some, some_which}
use Rattle.groups.specs.Groups.{insert, rising, alts_of}

-- ---- insertion

module _ (a x : ℕ) (xs : List ℕ) where
  pub insert_less : a < x → insert a (x ∷ xs) ≡ a ∷ x ∷ xs
  unfolding insert
  insert_less h = rw (lt-ltb a x h, insert)

  pub insert_equal : a ≡ x → insert a (x ∷ xs) ≡ x ∷ xs
  unfolding insert
  insert_equal h = rw (le-ltb a x (omega arith), eq-eqb a x h, insert)

  pub insert_greater : x < a → insert a (x ∷ xs) ≡ x ∷ insert a xs
  unfolding insert
  insert_greater h = rw (le-ltb a x (omega arith), ne_eqb a x (λ e. omega arith), insert)

pub by_insert : (Q : List ℕ → Type 0) (a x : ℕ) (xs : List ℕ)
    → (a < x → Q (a ∷ x ∷ xs)) → (a ≡ x → Q (x ∷ xs)) → (x < a → Q (x ∷ insert a xs)) → Q (insert a (x ∷ xs))
by_insert Q a x xs f g h =
    three a x
    (λ l. subst Q (sym (insert_less a x xs l)) (f l))
    (λ e. subst Q (sym (insert_equal a x xs e)) (g e))
    (λ l. subst Q (sym (insert_greater a x xs l)) (h l))

every_insert : (P : ℕ → Type 0) (a : ℕ) (xs : List ℕ) → P a → All P xs → All P (insert a xs)
unfolding insert
every_insert P a [] p v = (p, tt)
every_insert P a (x ∷ xs) p v = by_insert (All P) a x xs (λ l. (p, v)) (λ e. v) (λ l. (v.0, every_insert P a xs p v.1))

pub rising_insert : (a : ℕ) (xs : List ℕ) → Rising xs → Rising (insert a xs)
unfolding insert
rising_insert a [] v = (tt, tt)
rising_insert a (x ∷ xs) v =
    by_insert Rising a x xs
    (λ l. ((l, every_map (λ y. x < y) (λ y. a < y) xs (λ y k. omega arith) v.0), v))
    (λ e. v)
    (λ l. (every_insert (λ y. x < y) a xs l v.0, rising_insert a xs v.1))

insert_was : (b a : ℕ) (xs : List ℕ) → In b (insert a xs) → (a ≡ b) ⊎ In b xs
unfolding insert
insert_was b a [] m = m
insert_was b a (x ∷ xs) m =
    by_insert (λ l. In b l → (a ≡ b) ⊎ In b (x ∷ xs)) a x xs (λ l n. n) (λ e n. inr n)
    (λ l. ⊎_elim (λ e. inr (inl e)) (λ n. ⊎_elim inl (λ k. inr (inr k)) (insert_was b a xs n))) m

insert_is : (b a : ℕ) (xs : List ℕ) → (a ≡ b) ⊎ In b xs → In b (insert a xs)
unfolding insert
insert_is b a [] m = m
insert_is b a (x ∷ xs) (inl e) = by_insert (In b) a x xs (λ l. inl e) (λ d. inl (sym d ∙ e)) (λ l. inr (insert_is b a xs (inl e)))
insert_is b a (x ∷ xs) (inr m) =
    by_insert (In b) a x xs (λ l. inr m) (λ d. m) (λ l. ⊎_elim inl (λ n. inr (insert_is b a xs (inr n))) m)

-- a is put in, and all that was there stays
pub in_insert : (b a : ℕ) (xs : List ℕ) → In b (insert a xs) ↔ ((a ≡ b) ⊎ In b xs)
in_insert b a xs = (insert_was b a xs, insert_is b a xs)

pub insert_most : (a : ℕ) (xs : List ℕ) → length (insert a xs) ≤ suc (length xs)
unfolding insert
insert_most a [] = omega arith
insert_most a (x ∷ xs) =
    let h = insert_most a xs in
    by_insert (λ l. length l ≤ suc (suc (length xs))) a x xs (λ l. omega arith) (λ e. omega arith) (λ l. omega arith)

pub insert_least : (a : ℕ) (xs : List ℕ) → length xs ≤ length (insert a xs)
unfolding insert
insert_least a [] = omega arith
insert_least a (x ∷ xs) =
    let h = insert_least a xs in
    by_insert (λ l. suc (length xs) ≤ length l) a x xs (λ l. omega arith) (λ e. omega arith) (λ l. omega arith)

-- ---- a list put in order

pub rising_rises : (xs : List ℕ) → Rising (rising xs)
unfolding rising
rising_rises [] = tt
rising_rises (x ∷ xs) = rising_insert x (rising xs) (rising_rises xs)

pub in_rising : (a : ℕ) (xs : List ℕ) → In a (rising xs) ↔ In a xs
unfolding rising
in_rising a [] = (λ m. m, λ m. m)
in_rising a (x ∷ xs) =
    let ih = in_rising a xs in (
      λ m. ⊎_elim inl (λ n. inr (ih.0 n)) ((in_insert a x (rising xs)).0 m),
      λ m. (in_insert a x (rising xs)).1 (⊎_elim inl (λ n. inr (ih.1 n)) m),
    )

pub rising_most : (xs : List ℕ) → length (rising xs) ≤ length xs
unfolding rising
rising_most [] = omega arith
rising_most (x ∷ xs) = omega (arith, insert_most x (rising xs), rising_most xs)

-- ---- the alternatives of configs

pub alts_rise : (cs : List Config) → Rising (alts_of cs)
unfolding alts_of
alts_rise cs = rising_rises (map (λ (c : Config). c.alternative) cs)

pub in_alts : (a : ℕ) (cs : List Config) → In a (alts_of cs) ↔ Any (λ c. c.alternative ≡ a) cs
unfolding alts_of
in_alts a cs =
    let alt : Config → ℕ = λ c. c.alternative in
    let r = in_rising a (map alt cs) in (
      λ m. made_some alt (λ x. x ≡ a) cs (r.0 m),
      λ m. r.1 (some_made alt (λ x. x ≡ a) cs m),
    )

pub alts_most : (cs : List Config) → length (alts_of cs) ≤ length cs
unfolding alts_of
alts_most cs = omega (arith, rising_most (map (λ (c : Config). c.alternative) cs), length-map cs (λ (c : Config). c.alternative))

-- c passes the test, and its alternative is a
abbrev pub Passes : (Config → Bool) → ℕ → Config → Type 0
Passes t a c = (t c ≡ true) × (c.alternative ≡ a)

pub in_passing : (t : Config → Bool) (a : ℕ) (cs : List Config) → In a (alts_of (which t cs)) ↔ Any (Passes t a) cs
in_passing t a cs = (
  λ m. which_some t (λ c. c.alternative ≡ a) cs ((in_alts a (which t cs)).0 m),
  λ m. (in_alts a (which t cs)).1 (some_which t (λ c. c.alternative ≡ a) cs m),
)
