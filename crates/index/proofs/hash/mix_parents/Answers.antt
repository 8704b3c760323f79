-- The hash goes on from what is done to what is left: a turn takes one entry more, by `parents_turn`.
use native.Mathlib.Omega.{arith}
use mathlib.Core.Path.{sym, ◌∙◌}
use Rattle.index.specs.Records.{hash_in}
use Rattle.index.specs.Walk.{parents_turn, parents_end}
use Rattle.index.proofs.hash.mix_parents.Goals as goal

pub loop-i-preserved : goal.loop-i-preserved
loop-i-preserved c =
    let args = c.args in
    let pre = c.requires in
    let loop = c.loop-i in
    loop.invariant ∙ parents_turn (hash_in args.scratch.now) args.scratch.now args.at args.n 512 loop.i pre
    (omega arith) loop.hash ∙ rw (c.mix-hash.ensures, c.context_hash.ensures, c.stack_entry-parent.ensures)

pub returns : goal.returns
returns c =
    let args = c.args in
    sym
    (c.loop-i.invariant ∙ parents_end (hash_in args.scratch.now) args.scratch.now args.at args.n c.loop-i.i
    c.loop-i.hash (omega arith))
