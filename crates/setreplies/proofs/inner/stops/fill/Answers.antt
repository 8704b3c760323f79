-- The number, then state by state.
use native.Mathlib.Omega.{arith}
use mathlib.Core.Path.{◌≡◌, ap, ◌∙◌}
use Prim.Native.Nat.{ℕ}
use lib.ListN.{length, replicate, length-set}
use Rattle.setreplies.specs.Holds.{held_start, held_more, held_all}
use Rattle.setreplies.proofs.inner.stops.fill.Goals as goal

pub loop-i-init : goal.loop-i-init
loop-i-init c =
    let args = c.args in
    let sized : length args.stops.now ≡ 65 = omega arith in
    (simp length-set (omega arith), held_start args.bytes.now args.at args.count _ (c.clear.ensures ∙ ap (λ (n : ℕ). replicate n 0) sized))

pub loop-i-preserved : goal.loop-i-preserved
loop-i-preserved c =
    let args = c.args in
    let loop = c.loop-i in
    (simp length-set loop.invariant.0, rw c.u32_at.ensures (held_more args.bytes.now args.at args.count loop.i loop.stops loop.invariant.1))

pub returns : goal.returns
returns c =
    let args = c.args in
    let loop = c.loop-i in
    let all : loop.i ≡ args.count = omega arith in
    held_all args.bytes.now args.at args.count loop.stops c.requires.1 (rw all at loop.invariant.1)
