-- First ones, then marks, then the first that is wanted.
use Rattle.grouping.specs.Marks.Laws.{markable, marked_able}
use Rattle.grouping.specs.FirstMarked.{first_picked}
use Rattle.grouping.proofs.inner.marks.first_picked.Goals as goal

pub returns : goal.returns
returns c =
    let lead-all = c.lead_all in
    let mark-all = c.mark_all in
    let able = marked_able (markable lead-all.ensures.0) mark-all.ensures in
    (first_picked lead-all.ensures.0 mark-all.ensures _ c.first_marked.result c.first_marked.ensures, able.words)
