-- The letter, the numbers, the line end.
use Rattle.lines.specs.Laid.Laws.{wrote_then}
use Rattle.lines.proofs.inner.numbers.lay_line.Goals as goal

pub returns : goal.returns
returns c = wrote_then (wrote_then c.put_byte-at.ensures c.put_numbers-at.ensures.wrote) c.put_byte.ensures
