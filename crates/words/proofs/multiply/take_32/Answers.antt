-- `take_32` takes 32 bits: eight, then three times the eight below, each put under the others by `then`.
use Rattle.std.proofs.Common.{ℕ, ◌/◌, ◌^◌, refl, arith}
use Rattle.words.specs.Multiply.Laws.{then}
use Rattle.words.proofs.multiply.take_32.Goals as goal

pub returns : goal.returns
returns c =
    let a = c.args in
    let sum : ℕ = a.sum in
    let x : ℕ = a.x in
    let bits : ℕ = a.bits in
    let after-8 = c.take_8-after_8.ensures in
    let after-16 = then 8 8 sum x (bits / 2 ^ 24) (bits / 2 ^ 16) after-8 c.take_8-after_16.ensures (omega arith) in
    let after-24 = then 16 8 sum x (bits / 2 ^ 16) (bits / 2 ^ 8) after-16 c.take_8-after_24.ensures (omega arith) in
    then 24 8 sum x (bits / 2 ^ 8) bits after-24 c.take_8.ensures refl
