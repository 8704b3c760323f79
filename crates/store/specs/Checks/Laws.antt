-- A refusal is given exactly when its reason holds and none earlier in the list. Nothing here has to be believed.
use Rattle.std.specs.Prelude.{◌≡◌, refl, Bool, true, false, not, ◌&&◌, ℕ, eqb}
use Rattle.std.proofs.Common.{sym, ◌∙◌, subst, eqb-true}
use Rattle.std.proofs.Math.Path.{ap}
use Rattle.std.proofs.lemmas.Bool.{false≢true}
use mathlib.Core.List.{List, [], ◌∷◌, ◌++◌, map, Sublistᴰ}
use Rattle.words.specs.Bools.{bool?}
use Rattle.words.specs.Numbers.{never}
use Rattle.layout.specs.Store.{at, nowhere}
use Rattle.store.specs.Checks.{Check, unless, due}

-- the reason for n holds, and none earlier in the list
abbrev pub due_if : Bool → Bool → Type 0 → Type 0
due_if true holds later = holds ≡ true
due_if false holds later = (holds ≡ false) × later

abbrev pub Due : ℕ → List Check → Type 0
Due n [] = ⊥
Due n (c ∷ cs) = due_if (eqb c.number n) c.holds (Due n cs)

-- no reason holds
abbrev pub Clear : List Check → Type 0
Clear [] = Unit {0}
Clear (c ∷ cs) = (c.holds ≡ false) × Clear cs

-- no check of the list has the number n
unfoldable pub absent : ℕ → List Check → Bool
absent n [] = true
absent n (c ∷ cs) = not (eqb c.number n) && absent n cs

module _ (n : ℕ) (c : Check) (cs : List Check) where
  here : eqb c.number n ≡ true → Due n (c ∷ cs) → c.holds ≡ true
  here e d = subst (λ (b : Bool). due_if b c.holds (Due n cs)) e d

  later : eqb c.number n ≡ false → Due n (c ∷ cs) → (c.holds ≡ false) × Due n cs
  later e d = subst (λ (b : Bool). due_if b c.holds (Due n cs)) e d

no_number : (n : ℕ) → nowhere ≡ at n → ⊥
no_number n e = never (cc)

number_of : (m n : ℕ) → at m ≡ at n → m ≡ n
number_of m n e = cc

module _ {ℓ} {A : Type ℓ} (refuse : ℕ → A) (go : A) where
  pub unless_first : (c : Check) (cs : List Check) → c.holds ≡ true → unless (c ∷ cs) refuse go ≡ refuse c.number
  unfolding unless
  unless_first c cs e = rw (e, unless)

  pub unless_next : (c : Check) (cs : List Check) → c.holds ≡ false → unless (c ∷ cs) refuse go ≡ unless cs refuse go
  unfolding unless
  unless_next c cs e = rw (e, unless)

  -- no reason holds: the call goes on with the checks that follow
  pub clear_goes : (cs more : List Check) → Clear cs → unless (cs ++ more) refuse go ≡ unless more refuse go
  clear_goes [] more v = refl
  clear_goes (c ∷ cs) more v = unless_next c (cs ++ more) v.0 ∙ clear_goes cs more v.1

  -- a refusal that is due is given, whatever follows
  pub due_given : (n : ℕ) (cs more : List Check) → Due n cs → unless (cs ++ more) refuse go ≡ refuse n
  due_given n (c ∷ cs) more d =
      bool? (eqb c.number n)
      (λ e. unless_first c (cs ++ more) (here n c cs e d) ∙ ap refuse (eqb-true c.number n e))
      (λ e. let r = later n c cs e d in unless_next c (cs ++ more) r.0 ∙ due_given n cs more r.1)
  due_given n [] more d = elim d [ ]

  -- what is left where n is due
  pub due_leaves : (n : ℕ) (cs : List Check) → due cs ≡ at n → unless cs refuse go ≡ refuse n
  unfolding unless
  due_leaves n [] e = absurd (no_number n e)
  due_leaves n (c ∷ cs) e =
      bool? c.holds
      (λ t. unless_first c cs t ∙ ap refuse (number_of c.number n (rw (t, unless) at e)))
      (λ f. unless_next c cs f ∙ due_leaves n cs (rw (f, unless) at e))

  -- and only then: G n says of an outcome that it is the refusal n
  module _ (G : ℕ → A → Type 0) (one : (n m : ℕ) → G n (refuse m) → m ≡ n) (none : (n : ℕ) → G n go → ⊥) where
    pub refused_due : (n : ℕ) (cs : List Check) → G n (unless cs refuse go) → due cs ≡ at n
    unfolding unless
    refused_due n [] g = absurd (none n g)
    refused_due n (c ∷ cs) g =
        bool? c.holds
        (λ e. rw (e, unless) (ap at (one n c.number (subst (G n) (unless_first c cs e) g))))
        (λ e. rw (e, unless) (refused_due n cs (subst (G n) (unless_next c cs e) g)))

  -- an outcome that is no refusal has passed all checks
  pub clear_of : (G : ℕ → A → Type 0) → ((n : ℕ) → G n (refuse n)) → (cs : List Check) → ((n : ℕ) → G n (unless cs refuse go) → ⊥)
      → Clear cs × (unless cs refuse go ≡ go)
  unfolding unless
  clear_of G r [] h = (tt, refl)
  clear_of G r (c ∷ cs) h =
      bool? c.holds
      (λ e. absurd (h c.number (subst (G c.number) (sym (unless_first c cs e)) (r c.number))))
      (λ e.
      let q = unless_next c cs e in
      let k = clear_of G r cs (λ n g. h n (subst (G n) (sym q) g)) in
      ((e, k.0), q ∙ k.1))

-- what holds of every refusal and of the call that goes on holds of the outcome
pub by_unless {ℓ} : {A : Type ℓ} (refuse : ℕ → A) (go : A) (P : A → Type 0) → ((n : ℕ) → P (refuse n)) → P go → (cs : List Check) → P (unless cs refuse go)
unfolding unless
by_unless refuse go P r g [] = g
by_unless refuse go P r g (c ∷ cs) =
    bool? c.holds
    (λ e. subst P (sym (unless_first refuse go c cs e)) (r c.number))
    (λ e. subst P (sym (unless_next refuse go c cs e)) (by_unless refuse go P r g cs))

-- an outcome that is no refusal has passed all checks
module _ {ℓ} {A : Type ℓ} (refuse : ℕ → A) (go : A) (G : A → Type 0) (none : (n : ℕ) → G (refuse n) → ⊥) where
  pub passed_clear : (cs : List Check) → G (unless cs refuse go) → Clear cs
  passed_clear [] g = tt
  passed_clear (c ∷ cs) g =
      bool? c.holds
      (λ e. absurd (none c.number (subst G (unless_first refuse go c cs e) g)))
      (λ e. (e, passed_clear cs (subst G (unless_next refuse go c cs e) g)))

pub clear_passed {ℓ} : {A : Type ℓ} (refuse : ℕ → A) (go : A) (cs : List Check) → Clear cs → unless cs refuse go ≡ go
unfolding unless
clear_passed refuse go [] v = refl
clear_passed refuse go (c ∷ cs) v = unless_next refuse go c cs v.0 ∙ clear_passed refuse go cs v.1

-- ---- the order of checking

-- the checks' numbers stand in the order ns
unfoldable pub in_order : List ℕ → List Check → Bool
in_order ns [] = true
in_order [] (c ∷ cs) = false
in_order (n ∷ ns) (c ∷ cs) = elim (eqb c.number n) [ true ↦ in_order ns cs | false ↦ in_order ns (c ∷ cs) ]

-- then they are a sublist of ns
pub in_order_lem : (ns : List ℕ) (cs : List Check) → in_order ns cs ≡ true → Sublistᴰ (map (λ (c : Check). c.number) cs) ns
unfolding in_order
in_order_lem [] [] e = Sublistᴰ.slnil
in_order_lem (n ∷ ns) [] e = Sublistᴰ.cons (in_order_lem ns [] refl)
in_order_lem [] (c ∷ cs) e = absurd (false≢true e)
in_order_lem (n ∷ ns) (c ∷ cs) e =
    bool? (eqb c.number n)
    (λ q. Sublistᴰ.cons-cons (eqb-true c.number n q) (in_order_lem ns cs (rw (q, in_order) at e)))
    (λ q. Sublistᴰ.cons (in_order_lem ns (c ∷ cs) (rw (q, in_order) at e)))
