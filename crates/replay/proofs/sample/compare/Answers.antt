-- The scripts that were walked, and what follows from there; a turn walks one more.
use Rattle.replay.specs.Sample.Laws.{walked_more, walked_end, cut_script, cut_answer, one_at_most}
use Rattle.replay.proofs.sample.compare.Goals as goal

pub returns-in_err-from : goal.returns-in_err-from
returns-in_err-from c =
    let loop = c.loop-at in
    rw c.from_residual.ensures
    (cut_script c.args.bytes.now loop.at loop.scripts loop.differences loop.invariant c.loop-at-test.true c.in_err-from.ensures)

pub returns-in_err-start : goal.returns-in_err-start
returns-in_err-start c =
    let loop = c.loop-at in
    rw c.from_residual-in_err-start.ensures
    (cut_answer c.args.bytes.now loop.at loop.scripts loop.differences _ _ loop.invariant c.in_ok-from.ensures c.in_err-start.ensures)

pub loop-at-preserved : goal.loop-at-preserved
loop-at-preserved c =
    let loop = c.loop-at in
    let more = c.difference-differences in
    walked_more c.args.bytes.now loop.at loop.scripts loop.differences _ _ _ _ more.result loop.invariant c.in_ok-from.ensures c.in_ok-start.ensures
    more.ensures (one_at_most _ _ more.result more.ensures)

pub returns : goal.returns
returns c = walked_end c.args.bytes.now c.loop-at.at c.loop-at.scripts c.loop-at.differences c.loop-at.invariant c.loop-at-test.false
