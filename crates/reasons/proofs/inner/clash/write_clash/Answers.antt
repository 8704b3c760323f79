-- The members of the subset from the second word on, then their count.
use native.Mathlib.Omega.{arith}
use Rattle.reasons.specs.Clash.{roomy, clash_written, clash_fits}
use Rattle.reasons.proofs.inner.clash.write_clash.Goals as goal

pub write_members-count-requires : goal.write_members-count-requires
write_members-count-requires c =
    let pre = c.requires in
    roomy _ _ _ c.lead_all.ensures.0 pre.2 pre.3 _ pre.1

pub overflow_cast-output : goal.overflow_cast-output
overflow_cast-output c =
    let pre = c.requires in
    omega (arith, (clash_fits _ _ _ c.lead_all.ensures.0 pre.2 pre.3 _ pre.1 _ _ c.write_members-count.ensures).0)

pub bounds-output-0 : goal.bounds-output-0
bounds-output-0 c =
    let pre = c.requires in
    omega (arith, (clash_fits _ _ _ c.lead_all.ensures.0 pre.2 pre.3 _ pre.1 _ _ c.write_members-count.ensures).1)

pub returns : goal.returns
returns c =
    let pre = c.requires in
    let led = c.lead_all.ensures.0 in
    (clash_written _ _ _ led pre.2 pre.3 _ pre.1 _ _ c.write_members-count.ensures, led.words)
