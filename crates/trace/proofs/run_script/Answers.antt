-- Some steps were made, from the fresh words on; a turn makes one more.
use Rattle.std.proofs.Math.Path.{refl}
use Rattle.std.proofs.Common.{arith, false}
use Rattle.steps.specs.Made.{step_is}
use Rattle.steps.specs.declared.run.Ran.TheVariants.{Next, Over}
use Rattle.trace.specs.Traced.Laws.{stands_start, stands_stopped, stands_forward, stands_next, stands_over}
use Rattle.trace.proofs.run_script.Goals as goal

pub loop-wrote-init : goal.loop-wrote-init
loop-wrote-init g c = stands_start c.args.bytes.now _ c.requires

pub returns-then-not-write_reply : goal.returns-then-not-write_reply
returns-then-not-write_reply g c =
    stands_stopped
    (stands_next c.loop-wrote.invariant (step_is _ _ _ c.loop-wrote.room.out (Next c.in-Next.wrote c.in-Next.next) _ _ c.in-Next.ensures.as_the_step c.in-Next.ensures.result_in_bounds)
    c.in-Next.next refl)

pub loop-wrote-smaller : goal.loop-wrote-smaller
loop-wrote-smaller g c =
    omega (
      arith,
      stands_forward c.loop-wrote.invariant (step_is _ _ _ c.loop-wrote.room.out (Next c.in-Next.wrote c.in-Next.next) _ _ c.in-Next.ensures.as_the_step c.in-Next.ensures.result_in_bounds)
          c.in-Next.next refl,
    )

pub loop-wrote-preserved : goal.loop-wrote-preserved
loop-wrote-preserved g c =
    stands_next c.loop-wrote.invariant (step_is _ _ _ c.loop-wrote.room.out (Next c.in-Next.wrote c.in-Next.next) _ _ c.in-Next.ensures.as_the_step c.in-Next.ensures.result_in_bounds)
    c.in-Next.next refl

pub returns-then-not-write_reply-2 : goal.returns-then-not-write_reply-2
returns-then-not-write_reply-2 g c =
    stands_over c.loop-wrote.invariant (step_is _ _ _ c.loop-wrote.room.out (Over c.in-Over.wrote) _ _ c.in-Over.ensures.as_the_step c.in-Over.ensures.result_in_bounds)
    refl false

pub returns-in-Over : goal.returns-in-Over
returns-in-Over g c =
    stands_over c.loop-wrote.invariant (step_is _ _ _ c.loop-wrote.room.out (Over c.in-Over.wrote) _ _ c.in-Over.ensures.as_the_step c.in-Over.ensures.result_in_bounds)
    refl c.write_reply-in-Over-2.result
