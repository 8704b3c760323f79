-- Keys: when they are the same, and what is found by one in a list whose keys differ. Nothing here has to be believed.
use Rattle.std.specs.Prelude.{◌≡◌, true, false, ℕ, eqb}
use Rattle.std.proofs.Math.Path.{refl}
use Rattle.std.proofs.Common.{sym}
use Rattle.std.proofs.Math.Bool.{and-false, and-true}
use mathlib.Core.List.{List, [], ◌∷◌, ◌++◌}
use borrow.Author.Tests.{eq-eqb, ne_eqb}
use Rattle.encoding.specs.Provenance.{id_of}
use Rattle.encoding.specs.Provenance.Laws.{id_of_merged}
use Rattle.encoding.specs.Store.{at, nowhere}
use Rattle.encoding.specs.Decide.{same_words}
use Rattle.encoding.proofs.DecideLaws.{same_words_lem, words_same}
use Rattle.sets.specs.Config.{Config}
use Rattle.sets.specs.Lists.{any}
use Rattle.encoding.specs.Bools.{bool?, bool_iff, neither_left, neither_right}
use Rattle.sets.specs.Sets.{key, same_keys, held, joined}

-- ---- the same key

module _ (x y : Config) where
  pub key_of_same : same_keys x y ≡ true → key x ≡ key y
  unfolding same_keys
  key_of_same e = same_words_lem (key x) (key y) e

  pub same_of_key : key x ≡ key y → same_keys x y ≡ true
  unfolding same_keys
  same_of_key e = rw e (words_same (key y))

  pub other_key : (key x ≡ key y → ⊥) → same_keys x y ≡ false
  other_key n = bool? (same_keys x y) (λ e. absurd (n (key_of_same e))) (λ e. e)

  -- word by word
  pub other_state : (x.state ≡ y.state → ⊥) → same_keys x y ≡ false
  unfolding same_keys key same_words
  other_state n = rw (ne_eqb x.state y.state n)

  pub other_alternative : (x.alternative ≡ y.alternative → ⊥) → same_keys x y ≡ false
  unfolding same_keys key same_words
  other_alternative n = rw (ne_eqb x.alternative y.alternative n) (and-false (eqb x.state y.state))

  pub other_semantic : (x.semantic ≡ y.semantic → ⊥) → same_keys x y ≡ false
  unfolding same_keys key same_words
  other_semantic n =
      rw (ne_eqb x.semantic y.semantic n, and-false (eqb x.alternative y.alternative)) (and-false (eqb x.state y.state))

  pub same_but_id : x.state ≡ y.state → x.alternative ≡ y.alternative → x.semantic ≡ y.semantic
      → same_keys x y ≡ eqb (id_of x.provenance) (id_of y.provenance)
  unfolding same_keys key same_words
  same_but_id s a m = rw (eq-eqb x.state y.state s, eq-eqb x.alternative y.alternative a, eq-eqb x.semantic y.semantic m) (and-true _)

pub same_symmetric : (x y : Config) → same_keys x y ≡ same_keys y x
same_symmetric x y =
    bool_iff (same_keys x y) (same_keys y x) (λ e. same_of_key y x (sym (key_of_same x y e))) (λ e. same_of_key x y (sym (key_of_same y x e)))

-- a config that is joined keeps its key
pub key_joined : (x : Config) (c : ℕ) (y : Config) → key (joined x c y) ≡ key y
unfolding key joined
key_joined x c y = rw (id_of_merged y.provenance x.provenance)

-- ---- what is found by a key

module _ (x : Config) where
  pub held_new : (cs : List Config) → any (same_keys x) cs ≡ false → held x cs ≡ nowhere
  unfolding any held
  held_new [] e = refl
  held_new (y ∷ ys) e = rw (neither_left (same_keys x y) (any (same_keys x) ys) e, held) (held_new ys (neither_right (same_keys x y) _ e))

  -- with one config more
  pub held_last : (cs : List Config) (y : Config) → any (same_keys x) cs ≡ false → same_keys x y ≡ true → held x (cs ++ (y ∷ [])) ≡ at y.context
  unfolding any held
  held_last [] y e s = rw (s, held)
  held_last (z ∷ zs) y e s = rw (neither_left (same_keys x z) (any (same_keys x) zs) e, held) (held_last zs y (neither_right (same_keys x z) _ e) s)

  pub held_more : (cs : List Config) (y : Config) → same_keys x y ≡ false → held x (cs ++ (y ∷ [])) ≡ held x cs
  unfolding held
  held_more [] y e = rw (e, held)
  held_more (z ∷ zs) y e =
      bool? (same_keys x z) (λ s. rw (s, held)) (λ s. rw (s, held) (held_more zs y e))
