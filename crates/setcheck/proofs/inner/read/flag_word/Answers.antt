-- Word 1.
use mathlib.Core.Path.{refl}
use Rattle.sets.specs.Layout.{flag_word}
use Rattle.setcheck.proofs.inner.read.flag_word.Goals as goal

pub returns : goal.returns
unfolding flag_word
returns c = refl
