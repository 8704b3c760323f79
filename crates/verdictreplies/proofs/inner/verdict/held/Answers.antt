-- Up to the end, or to all that there is.
use mathlib.Core.Path.{refl}
use Rattle.verdictreplies.specs.Figured.{held_words}
use Rattle.verdictreplies.proofs.inner.verdict.held.Goals as goal

pub returns : goal.returns
returns c = held_words c.args.list.now _ c.min.result c.min.ensures refl
