-- An answer tells the case and the alternative. Nothing here has to be believed.
use Rattle.std.specs.Prelude.{◌≡◌, refl, ℕ, Option, Some, None}
use Rattle.std.proofs.Common.{ap}
use Rattle.deciding.specs.OneAlt.{one_alt}
use Rattle.words.specs.declared.names.Alternative.{Alternative}

pub one_tells : (a b : Option Alternative) → one_alt a ≡ one_alt b → a ≡ b
one_tells (Some a) (Some b) e = let n : a.0 ≡ b.0 = cc in ap (λ (k : ℕ). Some (record { 0 = k })) n
one_tells (Some a) None e = cc
one_tells None (Some b) e = cc
one_tells None None e = refl
