-- One entry is a singleton, more are an array.
use native.Mathlib.Omega.{arith}
use Rattle.interning.proofs.inner.intern.push_new.Goals as goal

pub push_single-requires : goal.push_single-requires
push_single-requires c =
    let pre = c.requires in
    rw c.if-n-eq1.true at pre

pub returns-then-n-eq1 : goal.returns-then-n-eq1
returns-then-n-eq1 c =
    let if1 = c.if-n-eq1 in
    let push-single = c.push_single in
    rw if1.true push-single.ensures

pub push_array-requires : goal.push_array-requires
push_array-requires c =
    let pre = c.requires in
    (pre, omega (arith, pre.proper.some, c.if-n-eq1.false))

pub returns : goal.returns
returns c =
    let push-array = c.push_array in
    push-array.ensures
