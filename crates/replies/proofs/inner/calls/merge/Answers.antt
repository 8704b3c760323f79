-- The call, and its line.
use Rattle.replies.specs.Replies.Laws.{replied_context, replied_refused}
use Rattle.replies.proofs.inner.calls.merge.Goals as goal

pub returns-in-Ok : goal.returns-in-Ok
returns-in-Ok c = replied_context c.args.out.now _ _ _ _ _ _ _ _ c.in-Ok.ensures c.lay_line.ensures

pub returns-in-Err : goal.returns-in-Err
returns-in-Err c = replied_refused c.args.out.now _ _ c.in-Err.refusal _ _ _ _ c.in-Err.ensures c.lay_refusal.ensures
