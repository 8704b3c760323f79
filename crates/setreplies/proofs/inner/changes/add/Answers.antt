-- By cases of the answer.
use Rattle.setreplies.specs.Settled.{inserted_call, merged_call, not_added_call}
use Rattle.setreplies.proofs.inner.changes.add.Goals as goal

pub returns-in-Ok-Inserted : goal.returns-in-Ok-Inserted
returns-in-Ok-Inserted c =
    inserted_call c.args.out.now _ _ _ _ _ _ (rw c.in-Ok-Inserted.field-0-is at c.in-Ok-Inserted.ensures) c.lay_line.ensures

pub returns-in-Ok-Merged : goal.returns-in-Ok-Merged
returns-in-Ok-Merged c =
    merged_call c.args.out.now _ _ _ _ _ _ c.in-Ok-Merged.tally (rw c.in-Ok-Merged.field-0-is at c.in-Ok-Merged.ensures) c.lay_line-in-Ok-Merged.ensures

pub returns-in-Err : goal.returns-in-Err
returns-in-Err c = not_added_call c.args.out.now _ _ _ _ _ _ c.in-Err.refusal c.in-Err.ensures c.lay_refusal.ensures
