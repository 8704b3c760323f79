-- The seat; then nothing, or the gap.
use native.Mathlib.Omega.{arith}
use Rattle.outputs.specs.Insert.{seat_few, insert_known, insert_room, insert_unknown}
use Rattle.outputs.proofs.inner.insert.insert_alt.Goals as goal

pub ends_in-requires : goal.ends_in-requires
ends_in-requires c =
    let pre = c.requires in
    omega (arith, pre.within, seat_few pre c.seat-place.ensures)

pub returns-then-ends_in : goal.returns-then-ends_in
returns-then-ends_in c =
    let pre = c.requires in
    let seat = c.seat-place in
    insert_known pre seat.ensures c.ends_in.ensures c.if-ends_in.true

pub overflow_add-from : goal.overflow_add-from
overflow_add-from c =
    let ends-in = c.ends_in in
    let pre = c.requires in
    let seat = c.seat-place in
    omega (arith, insert_room pre seat.ensures ends-in.ensures c.if-ends_in.false)

pub overflow_sub-count : goal.overflow_sub-count
overflow_sub-count c =
    let pre = c.requires in
    let seat = c.seat-place in
    omega (arith, seat_few pre seat.ensures)

pub put_in-requires : goal.put_in-requires
put_in-requires c =
    let ends-in = c.ends_in in
    let pre = c.requires in
    let seat = c.seat-place in
    insert_room pre seat.ensures ends-in.ensures c.if-ends_in.false

pub returns : goal.returns
returns c =
    let ends-in = c.ends_in in
    let if1 = c.if-ends_in in
    let pre = c.requires in
    let put_in = c.put_in in
    let seat = c.seat-place in
    insert_unknown pre seat.ensures ends-in.ensures if1.false put_in.ensures
