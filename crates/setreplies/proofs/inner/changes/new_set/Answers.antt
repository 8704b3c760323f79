-- By cases of the answer.
use Rattle.setreplies.specs.Settled.{new_done, new_refused}
use Rattle.setreplies.proofs.inner.changes.new_set.Goals as goal

pub returns-in-Ok : goal.returns-in-Ok
returns-in-Ok c = new_done c.args.out.now _ _ c.args.set.now _ c.args.scratch.now _ c.in-Ok.ensures _ c.wipe.ensures c.lay_line.ensures

pub returns-in-Err : goal.returns-in-Err
returns-in-Err c = new_refused c.args.out.now _ _ c.args.set.now _ c.args.scratch.now _ c.in-Err.refusal c.in-Err.ensures c.lay_refusal.ensures
