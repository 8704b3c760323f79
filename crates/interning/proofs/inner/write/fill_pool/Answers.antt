-- What is written and what is left make the whole; a turn writes one entry, by `fill_turn`.
use native.Mathlib.Omega.{arith}
use mathlib.Core.Path.{sym, ◌∙◌}
use Rattle.interning.specs.Write.{fill_turn, fill_end}
use Rattle.interning.proofs.inner.write.fill_pool.Goals as goal

pub loop-i-preserved : goal.loop-i-preserved
loop-i-preserved c =
    let args = c.args in
    let pre = c.requires in
    let loop = c.loop-i in
    let loop-test = c.loop-i-test in
    let turn = fill_turn loop.store args.scratch.now args.used args.at args.n 512 loop.i pre.stacked loop-test.true in
    rw (c.put_pool.ensures, c.stack_entry-entry.ensures)
    (loop.invariant ∙ turn)

pub returns : goal.returns
returns c =
    let args = c.args in
    sym
    (c.loop-i.invariant ∙ fill_end c.loop-i.store args.scratch.now args.used args.at args.n
    c.loop-i.i (omega arith))
