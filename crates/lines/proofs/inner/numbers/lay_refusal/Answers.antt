-- `R`, the refusal's number.
use Rattle.lines.specs.Lines.{refusal_line}
use Rattle.lines.specs.Spread.{line_one}
use Rattle.lines.proofs.inner.numbers.lay_refusal.Goals as goal

pub returns : goal.returns
unfolding refusal_line
returns c = rw (line_one 82 c.from.result, c.from.ensures) at c.lay_line.ensures
