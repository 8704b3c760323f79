-- `T`, word 0, word 1.
use Rattle.lines.specs.Lines.{end_line}
use Rattle.lines.specs.Spread.{line_two}
use Rattle.lines.proofs.ends.lay_end.Goals as goal

pub returns : goal.returns
unfolding end_line
returns c =
    let contexts = c.count_of-contexts in
    let entries = c.used_of-entries in
    rw (← contexts.ensures, ← entries.ensures, ← line_two 84 contexts.result entries.result) c.lay_line.ensures
