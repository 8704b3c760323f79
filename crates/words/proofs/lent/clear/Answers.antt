-- `clear` leaves zeros alone: it clears the range of all words.
use Rattle.std.proofs.Common.{◌∙◌}
use Rattle.words.specs.Lent.Laws.{cleared_range_all}
use Rattle.words.proofs.lent.clear.Goals as goal

pub returns : goal.returns
returns c =
    let args = c.args in
    c.clear_range.ensures ∙ cleared_range_all args.words.now
