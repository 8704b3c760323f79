-- 1 for a settled verdict, else 0.
use mathlib.Core.Bool.{Bool, true, false}
use mathlib.Core.Path.{◌≡◌, refl}
use mir.Val.{bool_byte}
use Rattle.lines.specs.Lines.{spaced, verdict_bytes}
use Rattle.verdictreplies.proofs.inner.verdict.put_verdict.Goals as goal

digit : (t : Bool) → spaced (bool_byte t) ≡ verdict_bytes t
unfolding verdict_bytes
digit true = refl
digit false = refl

pub returns : goal.returns
returns c = rw (← digit c.args.verdict, ← c.from.ensures) c.put_number.ensures
