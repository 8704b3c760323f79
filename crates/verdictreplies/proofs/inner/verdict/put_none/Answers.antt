-- Two bytes, one after the other.
use native.Mathlib.Omega.{arith}
use Rattle.lines.specs.Lines.{alternative_bytes}
use Rattle.lines.specs.Laid.Laws.{wrote_then}
use Rattle.verdictreplies.proofs.inner.verdict.put_none.Goals as goal

pub returns : goal.returns
unfolding alternative_bytes
returns c =
    let put_byte = c.put_byte-next in
    record { wrote = wrote_then put_byte.ensures c.put_byte.ensures; few = omega arith }
