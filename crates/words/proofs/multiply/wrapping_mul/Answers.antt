-- `wrapping_mul` is the product modulo 2 ^ 64: from 0 on it takes the upper 32 bits of y, then the lower, and these are all of y.
use Rattle.std.proofs.Common.{ℕ, ◌/◌, ◌^◌, refl, ◌∙◌}
use Rattle.words.specs.Multiply.Laws.{all_taken, then}
use Rattle.words.proofs.multiply.wrapping_mul.Goals as goal

pub returns : goal.returns
returns c =
    let x : ℕ = c.args.x in
    let y : ℕ = c.args.y in
    then 32 32 0 x (y / 2 ^ 32) y c.take_32-after_32.ensures c.take_32.ensures refl ∙ all_taken x y c.ranges.y.fits
