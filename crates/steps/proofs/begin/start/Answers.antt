-- Each is made, over any earlier contents.
use native.Mathlib.Omega.{arith}
use mathlib.Core.Path.{◌≡◌, ap, ◌∙◌}
use Prim.Native.Nat.{ℕ}
use lib.ListN.{length, replicate}
use Rattle.steps.specs.Made.{fresh_is}
use Rattle.steps.proofs.begin.start.Goals as goal

pub returns : goal.returns
returns c =
    let args = c.args in
    let fresh = c.fresh in
    let fresh_set = c.fresh_set in
    let clear = c.clear in
    let sized : length args.stops.now ≡ 65 = omega arith in
    fresh_is args.store.now _ _ fresh.ensures (omega arith) args.set.now _ _ fresh_set.ensures (omega arith)
    _ (clear.ensures ∙ ap (λ (n : ℕ). replicate n 0) sized) args.scratch.now _ c.clear-2.ensures (omega arith)
