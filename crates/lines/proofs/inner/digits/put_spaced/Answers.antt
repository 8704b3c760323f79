-- A space, then the number.
use Rattle.lines.specs.Laid.Laws.{wrote_then}
use Rattle.lines.proofs.inner.digits.put_spaced.Goals as goal

pub returns : goal.returns
returns c =
    let put_byte = c.put_byte-next in
    wrote_then put_byte.ensures c.put_decimal.ensures
