-- By cases of the answer.
use Rattle.lines.specs.Lines.{alternative_bytes}
use Rattle.verdictreplies.proofs.inner.verdict.put_alternative.Goals as goal

pub returns-in-Some : goal.returns-in-Some
unfolding alternative_bytes
returns-in-Some c = rw c.in-Some.is c.put_number.ensures
