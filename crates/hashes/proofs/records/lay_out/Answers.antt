-- The first i words are laid out, and each store adds one at the end.
use mathlib.Core.Path.{refl}
use native.Mathlib.Omega.{arith}
use lib.ListN.{length-set}
use Rattle.hashes.proofs.Laying.{stored}
use Rattle.hashes.specs.Records.{list_in}
use Rattle.hashes.proofs.records.lay_out.Goals as goal

pub loop-i-init : goal.loop-i-init
unfolding list_in
loop-i-init c = (refl, refl)

pub loop-i-preserved : goal.loop-i-preserved
loop-i-preserved c =
    let l = c.loop-i in (
      simp length-set l.invariant.0,
      stored _ l.list l.i _ (omega arith) l.invariant.1 c.word_at.ensures,
    )
