-- A digit alone, or the digits before the last one and then that one. The number falls.
use Rattle.std.proofs.Common.{arith}
use Rattle.lines.specs.Decimal.Laws.{decimal_small, decimal_more, length_small, length_more}
use Rattle.lines.specs.Laid.Laws.{wrote_then, wrote_length}
use Rattle.lines.proofs.inner.digits.+put_decimal.Goals as goal

pub put_byte-requires : goal.put_byte-requires
put_byte-requires t c = omega (arith, length_small c.args.n c.if-n-lt10.true, c.requires)

pub returns-then-n-lt10 : goal.returns-then-n-lt10
returns-then-n-lt10 t c = rw (decimal_small c.args.n c.if-n-lt10.true) c.put_byte.ensures

pub put_decimal-next-requires : goal.put_decimal-next-requires
put_decimal-next-requires t c =
    (omega (arith, c.decreases), omega (arith, length_more c.args.n c.if-n-lt10.false, c.requires))

pub put_byte-requires-2 : goal.put_byte-requires-2
put_byte-requires-2 t c =
    let at-put_decimal = c.put_decimal-next in
    omega (arith, at-put_decimal.ensures.after, wrote_length at-put_decimal.ensures, length_more c.args.n c.if-n-lt10.false, c.requires)

pub returns : goal.returns
returns t c = rw (decimal_more c.args.n c.if-n-lt10.false) (wrote_then c.put_decimal-next.ensures c.put_byte-2.ensures)
