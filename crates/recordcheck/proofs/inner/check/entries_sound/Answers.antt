-- Up to i the entries are sound; the first that is not says no.
use native.Mathlib.Omega.{arith}
use Prim.Native.Nat.{◌+◌}
use Rattle.layout.specs.Layout.{parent, state}
use Rattle.recordcheck.specs.Judge.{entries_of}
use Rattle.recordcheck.proofs.inner.check.entries_sound.Goals as goal

pub returns : goal.returns
unfolding state
returns c =
    let args = c.args in
    entries_of (state args.store.now) (parent args.store.now) args.from args.n args.context
    (λ j. omega (arith, c.fits-store (3586 + j)))
    (λ j h. c.loop-i.invariant j (omega arith))
