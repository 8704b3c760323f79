-- `take_8` takes eight bits: one, then seven times the one below. Each line says what was taken so far, and `then` puts the next under it.
use Rattle.std.proofs.Common.{ℕ, ◌/◌, refl, arith}
use Rattle.words.specs.Multiply.Laws.{then}
use Rattle.words.proofs.multiply.take_8.Goals as goal

pub returns : goal.returns
returns c =
    let sum : ℕ = c.args.sum in
    let x : ℕ = c.args.x in
    let bits : ℕ = c.args.bits in
    let after-1 = c.take_bit-after_1.ensures in
    let after-2 = then 1 1 sum x (bits / 128) (bits / 64) after-1 c.take_bit-after_2.ensures (omega arith) in
    let after-3 = then 2 1 sum x (bits / 64) (bits / 32) after-2 c.take_bit-after_3.ensures (omega arith) in
    let after-4 = then 3 1 sum x (bits / 32) (bits / 16) after-3 c.take_bit-after_4.ensures (omega arith) in
    let after-5 = then 4 1 sum x (bits / 16) (bits / 8) after-4 c.take_bit-after_5.ensures (omega arith) in
    let after-6 = then 5 1 sum x (bits / 8) (bits / 4) after-5 c.take_bit-after_6.ensures (omega arith) in
    let after-7 = then 6 1 sum x (bits / 4) (bits / 2) after-6 c.take_bit-after_7.ensures (omega arith) in
    then 7 1 sum x (bits / 2) bits after-7 c.take_bit.ensures refl
