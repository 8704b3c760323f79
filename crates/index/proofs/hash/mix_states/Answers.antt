-- The hash goes on from what is done to what is left: a turn takes one entry more, by `states_turn`.
use native.Mathlib.Omega.{arith}
use mathlib.Core.Path.{sym, ◌∙◌}
use Rattle.index.specs.Walk.{states_turn, states_end}
use Rattle.index.proofs.hash.mix_states.Goals as goal

pub loop-i-preserved : goal.loop-i-preserved
loop-i-preserved c =
    let args = c.args in
    let pre = c.requires in
    let loop = c.loop-i in
    loop.invariant ∙ states_turn (λ x. x) args.scratch.now args.at args.n 512 loop.i pre (omega arith) loop.hash ∙
    rw (c.mix-hash.ensures, c.from.ensures, c.stack_entry-state.ensures)

pub returns : goal.returns
returns c =
    let args = c.args in
    sym (c.loop-i.invariant ∙ states_end args.scratch.now args.at args.n c.loop-i.i c.loop-i.hash (omega arith))
