-- One bit of word 1.
use mathlib.Core.Path.{refl}
use Rattle.sets.specs.Layout.{flag, flag_word}
use Rattle.setcheck.proofs.inner.read.has_flag.Goals as goal

pub returns : goal.returns
unfolding flag flag_word
returns c = refl
