-- The figures together, from each by itself. Nothing here has to be believed.
use Rattle.std.specs.Prelude.{◌≡◌, refl, Bool, List, ℕ, length}
use Rattle.setcheck.specs.Config.{Config}
use Rattle.grouping.specs.Groups.{groups}
use Rattle.grouping.specs.Answers.{Answer, unique_alt, single_viable_alt, verdict}
use Rattle.grouping.specs.Led.{Lent}
use Rattle.deciding.specs.Alone.{Counted}
use Rattle.verdicts.specs.Calls.{Summary}
use Rattle.figures.specs.Calls.{figures_of}

pub lent_counted : {v z : List ℕ} → Lent v z → Counted v
lent_counted l = record { sized = l.sized; few = l.few }

pub figures_are : (stops : List ℕ) (cs : List Config) (n : ℕ) (u x : Answer) (b : Bool) → n ≡ length (groups cs) → u ≡ unique_alt cs → x ≡ single_viable_alt cs → b ≡ verdict stops cs
    → ◌≡◌ {A = Summary} (record { subsets = n; unique = u; viable = x; verdict = b }) (figures_of stops cs)
figures_are stops cs n u x b e f g h = rw (e, f, g, h) refl
