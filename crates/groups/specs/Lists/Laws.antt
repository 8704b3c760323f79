-- Laws of some, every and what comes first. Nothing here has to be believed.
use Rattle.std.specs.Prelude.{◌≡◌, refl, List, [], ◌∷◌, map, ℕ, ◌<◌}
use Rattle.std.proofs.Common.{sym, ◌∙◌, subst, inl, inr, arith}
use Rattle.groups.specs.Lists.{Any, All, In, Pairwise, Before, Rising}

module _ {A : Type 0} where
  pub some_map : (P Q : A → Type 0) (xs : List A) → ((x : A) → P x → Q x) → Any P xs → Any Q xs
  some_map P Q (x ∷ xs) f (inl p) = inl (f x p)
  some_map P Q (x ∷ xs) f (inr m) = inr (some_map P Q xs f m)
  some_map P Q [] f x'' = elim x'' [ ]

  pub every_map : (P Q : A → Type 0) (xs : List A) → ((x : A) → P x → Q x) → All P xs → All Q xs
  every_map P Q [] f v = tt
  every_map P Q (x ∷ xs) f v = (f x v.0, every_map P Q xs f v.1)

  pub every_of : (P : A → Type 0) (xs : List A) → ((x : A) → P x) → All P xs
  every_of P [] f = tt
  every_of P (x ∷ xs) f = (f x, every_of P xs f)

  pub every_both : (P Q R : A → Type 0) (xs : List A) → ((x : A) → P x → Q x → R x) → All P xs → All Q xs → All R xs
  every_both P Q R [] f v w = tt
  every_both P Q R (x ∷ xs) f v w = (f x v.0 w.0, every_both P Q R xs f v.1 w.1)

  pub pairwise_map : (R S : A → A → Type 0) (xs : List A) → ((x y : A) → R x y → S x y) → Pairwise R xs → Pairwise S xs
  pairwise_map R S [] f v = tt
  pairwise_map R S (x ∷ xs) f v = (every_map (R x) (S x) xs (f x) v.0, pairwise_map R S xs f v.1)

  pub pairwise_both : (R S T : A → A → Type 0) (xs : List A) → ((x y : A) → R x y → S x y → T x y) → Pairwise R xs → Pairwise S xs → Pairwise T xs
  pairwise_both R S T [] f v w = tt
  pairwise_both R S T (x ∷ xs) f v w = (every_both (R x) (S x) (T x) xs (f x) v.0 w.0, pairwise_both R S T xs f v.1 w.1)

  pub every_in : (P : A → Type 0) (xs : List A) → All P xs → (a : A) → In a xs → P a
  every_in P (x ∷ xs) v a (inl e) = subst P e v.0
  every_in P (x ∷ xs) v a (inr m) = every_in P xs v.1 a m
  every_in P [] v a x'' = elim x'' [ ]

  pub in_every : (P : A → Type 0) (xs : List A) → ((a : A) → In a xs → P a) → All P xs
  in_every P [] f = tt
  in_every P (x ∷ xs) f = (f x (inl refl), in_every P xs (λ a m. f a (inr m)))

  -- the element that some is
  pub some_in : (P : A → Type 0) (xs : List A) → Any P xs → (a : A) × In a xs × P a
  some_in P (x ∷ xs) (inl p) = (x, inl refl, p)
  some_in P (x ∷ xs) (inr m) = let s = some_in P xs m in (s.0, inr s.1, s.2)
  some_in P [] x' = elim x' [ ]

  pub in_some : (P : A → Type 0) (xs : List A) (a : A) → In a xs → P a → Any P xs
  in_some P (x ∷ xs) a (inl e) p = inl (subst P (sym e) p)
  in_some P (x ∷ xs) a (inr m) p = inr (in_some P xs a m p)
  in_some P [] a x'' p = elim x'' [ ]

  -- ---- what comes first

  pub before_map : (P Q P' Q' : A → Type 0) (xs : List A) → ((x : A) → P x → P' x) → ((x : A) → Q' x → Q x) → Before P Q xs → Before P' Q' xs
  before_map P Q P' Q' (x ∷ xs) f g (inl p) = inl (f x p)
  before_map P Q P' Q' (x ∷ xs) f g (inr b) = inr (λ q. b.0 (g x q), before_map P Q P' Q' xs f g b.1)
  before_map P Q P' Q' [] f g x3 = elim x3 [ ]

  -- not both before the other
  pub before_asym : (P Q : A → Type 0) (xs : List A) → ((x : A) → P x → Q x → ⊥) → Before P Q xs → Before Q P xs → ⊥
  before_asym P Q (x ∷ xs) n (inl p) (inl q) = n x p q
  before_asym P Q (x ∷ xs) n (inl p) (inr b) = b.0 p
  before_asym P Q (x ∷ xs) n (inr a) (inl q) = a.0 q
  before_asym P Q (x ∷ xs) n (inr a) (inr b) = before_asym P Q xs n a.1 b.1
  before_asym P Q [] n x3 _ = elim x3 [ ]

  -- ---- two lists in order, with the same elements, are one

  module _ (R : A → A → Type 0) (asym : (x y : A) → R x y → R y x → ⊥) where
    same_head : (x y : A) (xs ys : List A) → All (R x) xs → All (R y) ys → In x (y ∷ ys) → In y (x ∷ xs) → x ≡ y
    same_head x y xs ys v w (inl e) n = sym e
    same_head x y xs ys v w (inr m) (inl e) = e
    same_head x y xs ys v w (inr m) (inr n) = absurd (asym x y (every_in (R x) xs v y n) (every_in (R y) ys w x m))

    tail_in : (x y a : A) (xs ys : List A) → x ≡ y → All (R x) xs → In a (y ∷ ys) → In a xs → In a ys
    tail_in x y a xs ys e v (inl d) m =
        let r : R a a = subst (λ z. R z a) (e ∙ d) (every_in (R x) xs v a m) in absurd (asym a a r r)
    tail_in x y a xs ys e v (inr n) m = n

    pub sorted_unique : (xs ys : List A) → Pairwise R xs → Pairwise R ys
        → ((a : A) → In a xs → In a ys) → ((a : A) → In a ys → In a xs) → xs ≡ ys
    sorted_unique [] [] v w f g = refl
    sorted_unique [] (y ∷ ys) v w f g = absurd (g y (inl refl))
    sorted_unique (x ∷ xs) [] v w f g = absurd (f x (inl refl))
    sorted_unique (x ∷ xs) (y ∷ ys) v w f g =
        let e : x ≡ y = same_head x y xs ys v.0 w.0 (f x (inl refl)) (g y (inl refl)) in
        let t : xs ≡ ys =
        sorted_unique xs ys v.1 w.1
        (λ a m. tail_in x y a xs ys e v.0 (f a (inr m)) m)
        (λ a m. tail_in y x a ys xs (sym e) w.0 (g a (inr m)) m) in
        λ i. e i ∷ t i

pub rising_unique : (xs ys : List ℕ) → Rising xs → Rising ys → ((a : ℕ) → In a xs → In a ys) → ((a : ℕ) → In a ys → In a xs) → xs ≡ ys
rising_unique = sorted_unique (λ x y. x < y) (λ x y h k. omega arith)

-- ---- lists made of others

module _ {A B : Type 0} (f : A → B) where
  pub every_made : (P : B → Type 0) (xs : List A) → All (λ x. P (f x)) xs → All P (map f xs)
  every_made P [] v = tt
  every_made P (x ∷ xs) v = (v.0, every_made P xs v.1)

  pub made_every : (P : B → Type 0) (xs : List A) → All P (map f xs) → All (λ x. P (f x)) xs
  made_every P [] v = tt
  made_every P (x ∷ xs) v = (v.0, made_every P xs v.1)

  pub some_made : (P : B → Type 0) (xs : List A) → Any (λ x. P (f x)) xs → Any P (map f xs)
  some_made P (x ∷ xs) (inl p) = inl p
  some_made P (x ∷ xs) (inr m) = inr (some_made P xs m)
  some_made P [] x' = elim x' [ ]

  pub made_some : (P : B → Type 0) (xs : List A) → Any P (map f xs) → Any (λ x. P (f x)) xs
  made_some P (x ∷ xs) (inl p) = inl p
  made_some P (x ∷ xs) (inr m) = inr (made_some P xs m)
  made_some P [] x' = elim x' [ ]

  pub pairwise_made : (R : B → B → Type 0) (xs : List A) → Pairwise (λ x y. R (f x) (f y)) xs → Pairwise R (map f xs)
  pairwise_made R [] v = tt
  pairwise_made R (x ∷ xs) v = (every_made (R (f x)) xs v.0, pairwise_made R xs v.1)
