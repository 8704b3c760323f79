-- The derived equality compares the four numbers.
use mathlib.Core.Path.{sym, ◌∙◌}
use Rattle.sets.specs.Sets.{same_keys}
use Rattle.setcheck.specs.Keys.{same_numbers}
use Rattle.setcheck.proofs.inner.keys.same_key.Goals as goal

pub returns : goal.returns
unfolding same_keys
returns c = c.eq.ensures ∙ rw (← c.key_of.ensures, ← c.key_of-2.ensures) (sym (same_numbers c.key_of.result c.key_of-2.result))
