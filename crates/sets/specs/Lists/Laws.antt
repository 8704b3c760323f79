-- Tests on lists: what passes, and a list that is longer by its last element. Nothing here has to be believed.
use Rattle.std.specs.Prelude.{◌≡◌, Bool, ◌&&◌, ◌||◌}
use Rattle.std.proofs.Math.Path.{sym, ap}
use Rattle.std.proofs.Common.{◌∙◌}
use Rattle.std.proofs.Math.Bool.{or_assoc, and_assoc, or-false, and-true}
use mathlib.Core.List.{List, [], ◌∷◌, ◌++◌}
use Rattle.sets.specs.Lists.{any, all}

module _ {A : Type 0} (t : A → Bool) where
  pub any_more : (xs : List A) (y : A) → any t (xs ++ (y ∷ [])) ≡ (any t xs || t y)
  unfolding any
  any_more [] y = or-false (t y)
  any_more (x ∷ xs) y = ap (λ (b : Bool). t x || b) (any_more xs y) ∙ sym (or_assoc (t x) (any t xs) (t y))

  pub all_more : (xs : List A) (y : A) → all t (xs ++ (y ∷ [])) ≡ (all t xs && t y)
  unfolding all
  all_more [] y = and-true (t y)
  all_more (x ∷ xs) y = ap (λ (b : Bool). t x && b) (all_more xs y) ∙ sym (and_assoc (t x) (all t xs) (t y))
