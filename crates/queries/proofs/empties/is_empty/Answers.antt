-- Context 0 alone is the set of the empty stack.
use mathlib.Core.Path.{refl}
use Rattle.std.specs.Prelude.{IsOk}
use Rattle.queries.proofs.EntryWords.{empty_test}
use Rattle.queries.proofs.empties.is_empty.Goals as goal

pub returns : goal.returns
returns c =
    let a = c.ask.ensures.asked in
    let ok : IsOk c.ask.result = rw c.in_ok-ask.was refl in
    rw (c.eq.ensures, ← empty_test (a.known ok)) (a.replies ok _)
