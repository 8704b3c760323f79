-- Two answers that satisfy a contract for the same input are equal. Nothing here has to be believed.
use Rattle.std.specs.Prelude.{◌≡◌, refl, Bool, true, false, List, ℕ}
use Rattle.lines.specs.Check.{Tells}
use Rattle.steps.specs.Steps.{script_replies}

-- a test has one answer
tells_one : (P : Type 0) (p q : Bool) → Tells P p → Tells P q → p ≡ q
tells_one P true true x y = refl
tells_one P true false x y = absurd (y x)
tells_one P false true x y = absurd (x y)
tells_one P false false x y = refl

pub replays_determined : (s a : List ℕ) (p q : Bool) → Tells (a ≡ script_replies s) p → Tells (a ≡ script_replies s) q → p ≡ q
replays_determined s a p q x y = tells_one (a ≡ script_replies s) p q x y
