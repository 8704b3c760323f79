-- To believe: how many contexts a step of a script makes, and the sum of these figures over a whole script (request A3).
use Rattle.std.specs.Prelude.{List, ℕ, zero, suc, ◌+◌, ◌-◌, length}
use Rattle.layout.specs.Layout.{count as contexts}
use Rattle.replies.specs.Replies.{Lent, Printed}
use Rattle.steps.specs.Steps.{fresh, goes, over, step_of}

-- "exactly the count after less the count before"
abbrev pub made_by : Lent → Printed → ℕ
made_by l p = contexts p.words.store - contexts l.store

-- by the steps from place i on, k of them at most
unfoldable pub sum_from : ℕ → List ℕ → ℕ → Lent → ℕ
sum_from zero s i l = 0
sum_from (suc k) s i l =
    let t = step_of s i l in
    elim t.after [ goes j ↦ made_by l t.printed + sum_from k s j t.printed.words | over ↦ 0 ]

-- by the whole script
unfoldable pub sum_of : List ℕ → ℕ
sum_of s = sum_from (suc (length s)) s 0 fresh
