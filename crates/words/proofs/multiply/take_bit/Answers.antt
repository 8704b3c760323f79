-- `take_bit` takes one bit: `clear_bit` where it is not set, `set_bit` where it is.
use Rattle.std.proofs.Common.{◌∙◌, arith}
use Rattle.words.specs.Multiply.Laws.{clear_bit, set_bit}
use Rattle.words.proofs.multiply.take_bit.Goals as goal

pub returns-then-bits-eq0 : goal.returns-then-bits-eq0
returns-then-bits-eq0 c = let a = c.args in clear_bit a.sum a.x a.bits (omega arith)

pub returns : goal.returns
returns c = let a = c.args in c.wrapping_add_u64.ensures.value ∙ set_bit a.sum a.x a.bits (omega arith)
