-- The entries' line, or a refusal's.
use mathlib.Core.Path.{refl}
use Rattle.std.specs.Prelude.{IsOk}
use Rattle.replies.specs.Replies.Laws.{show_refused, show_done}
use Rattle.replies.proofs.inner.calls.show.Goals as goal

pub returns-in-Ok : goal.returns-in-Ok
returns-in-Ok c =
    let ok : IsOk c.ask.result = rw c.in-Ok.is refl in
    let same = rw c.in-Ok.is at c.ask.ensures.same in
    show_done c.ask.ensures.asked c.args.out.now _ _ ok (rw same at c.lay_entries.ensures)

pub returns-in-Err : goal.returns-in-Err
returns-in-Err c = show_refused c.ask.ensures.asked c.args.out.now _ _ c.in-Err.refusal c.in-Err.is c.lay_refusal.ensures
