-- So far the answer agrees with what was printed; a turn takes one step more.
use native.Mathlib.Omega.{arith}
use mathlib.Core.Path.{refl}
use Rattle.steps.specs.Lent.{lent_of}
use Rattle.steps.specs.Made.{step_is}
use Rattle.steps.specs.Steps.Laws.{step_forward}
use Rattle.steps.specs.declared.run.Ran.TheVariants.{Next, Over}
use Rattle.script.specs.Replayed.{told_not, told_next, told_over, told_all}
use Rattle.script.proofs.replay.replays.Goals as goal

pub returns-then-not-agrees : goal.returns-then-not-agrees
returns-then-not-agrees c =
    let ran = c.in-Next in
    told_not c.loop-wrote.invariant
    (step_is _ _ _ c.loop-wrote.room.out (Next ran.wrote ran.next) _ _ ran.ensures.as_the_step ran.ensures.result_in_bounds)
    c.if-not-agrees.ensures

pub loop-wrote-smaller : goal.loop-wrote-smaller
loop-wrote-smaller c =
    let ran = c.in-Next in
    let loop = c.loop-wrote in
    let stepped = step_is c.args.script.now loop.at (lent_of loop.room) loop.room.out (Next ran.wrote ran.next) _ _ ran.ensures.as_the_step
    ran.ensures.result_in_bounds in
    omega (arith, step_forward c.args.script.now loop.at (lent_of loop.room) ran.next stepped.after)

pub loop-wrote-preserved : goal.loop-wrote-preserved
loop-wrote-preserved c =
    let ran = c.in-Next in
    told_next c.loop-wrote.invariant
    (step_is _ _ _ c.loop-wrote.room.out (Next ran.wrote ran.next) _ _ ran.ensures.as_the_step ran.ensures.result_in_bounds)
    c.if-not-agrees.ensures ran.next refl

pub returns-then-agrees : goal.returns-then-agrees
returns-then-agrees c =
    let ran = c.in-Over in
    told_all c.args.script.now c.args.answer.now _ c.agrees_last.result
    (told_over c.loop-wrote.invariant
    (step_is _ _ _ c.loop-wrote.room.out (Over ran.wrote) _ _ ran.ensures.as_the_step ran.ensures.result_in_bounds)
    c.if-agrees.ensures refl)
    c.agrees_last.ensures

pub returns-else-agrees : goal.returns-else-agrees
returns-else-agrees c =
    let ran = c.in-Over in
    rw c.if-agrees.false
    (told_not c.loop-wrote.invariant
    (step_is _ _ _ c.loop-wrote.room.out (Over ran.wrote) _ _ ran.ensures.as_the_step ran.ensures.result_in_bounds)
    c.if-agrees.ensures)
