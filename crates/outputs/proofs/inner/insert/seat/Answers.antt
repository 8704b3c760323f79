-- The words passed are above the alternative.
use mathlib.Core.Path.{◌≡◌, sym, ap, ◌∙◌}
use native.Mathlib.Omega.{arith}
use Rattle.outputs.specs.Insert.{seat_of, seat_stop, seat_turn}
use Rattle.outputs.proofs.inner.insert.seat.Goals as goal

pub returns-then-words-from : goal.returns-then-words-from
returns-then-words-from c =
    let args = c.args in
    let loop = c.loop-left in
    let loop-test = c.loop-left-test in
    sym (loop.invariant.1 ∙ seat_stop args.words.now args.from loop.left args.alternative loop-test.true c.if-words-from.true)

pub loop-left-preserved : goal.loop-left-preserved
loop-left-preserved c =
    let args = c.args in
    let loop = c.loop-left in
    let loop-test = c.loop-left-test in
    (omega arith, loop.invariant.1 ∙ seat_turn args.words.now args.from loop.left args.alternative loop-test.true c.if-words-from.false)

pub returns : goal.returns
unfolding seat_of
returns c =
    let args = c.args in
    let loop = c.loop-left in
    let e : loop.left ≡ 0 = omega (arith, c.loop-left-test.false) in
    sym (loop.invariant.1 ∙ ap (λ m. seat_of args.words.now args.from m args.alternative) e)
