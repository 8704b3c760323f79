-- From the last word on, each moves up; `gap` is what they come to.
use mathlib.Core.Path.{◌≡◌, sym, ap, ◌∙◌}
use native.Mathlib.Omega.{arith}
use lib.ListN.{length-set, set}
use Rattle.outputs.specs.Insert.{gap, gap_turn}
use Rattle.outputs.proofs.inner.insert.put_in.Goals as goal

pub loop-left-preserved : goal.loop-left-preserved
loop-left-preserved c =
    let args = c.args in
    let loop = c.loop-left in
    (omega arith, simp length-set loop.invariant.1, loop.invariant.2 ∙ gap_turn loop.words args.at loop.left 0 c.loop-left-test.true)

pub returns : goal.returns
unfolding gap
returns c =
    let args = c.args in
    let loop = c.loop-left in
    let e : loop.left ≡ 0 = omega (arith, c.loop-left-test.false) in
    ap (λ l. set l args.at args.alternative) (sym (loop.invariant.2 ∙ ap (gap loop.words args.at) e))
