-- Field by field.
use Rattle.sets.specs.Sets.{joined}
use Rattle.configs.proofs.joining.joined_config.Goals as goal

pub returns : goal.returns
unfolding joined
returns c = rw (c.merge_marks.ensures, c.max.ensures)
