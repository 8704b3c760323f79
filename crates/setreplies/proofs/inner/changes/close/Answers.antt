-- By cases of the answer.
use Rattle.setreplies.specs.Settled.{closed_done, closed_refused}
use Rattle.setreplies.proofs.inner.changes.close.Goals as goal

pub returns-in-Ok : goal.returns-in-Ok
returns-in-Ok c = closed_done c.args.out.now _ _ _ _ _ _ c.in-Ok.ensures c.lay_line.ensures

pub returns-in-Err : goal.returns-in-Err
returns-in-Err c = closed_refused c.args.out.now _ _ _ _ _ _ c.in-Err.refusal c.in-Err.ensures c.lay_refusal.ensures
