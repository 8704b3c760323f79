-- So many numbers are laid; a turn lays one more.
use native.Mathlib.Omega.{arith}
use mathlib.Core.Path.{refl}
use Rattle.lines.specs.Decimal.Laws.{word_digits}
use Rattle.lines.specs.Spread.{spread_none, spread_more, spread_room}
use Rattle.lines.proofs.inner.numbers.put_numbers.Goals as goal

pub loop-n-init : goal.loop-n-init
loop-n-init c = spread_none c.args.out.now c.args.at (omega arith)

pub put_spaced-next-requires : goal.put_spaced-next-requires
put_spaced-next-requires c =
    let loop = c.loop-n in
    omega (arith, spread_room c.args.numbers.now loop.n-index (omega arith) c.requires loop.invariant, word_digits _ (c.type_inv.numbers loop.n-index).fits)

pub loop-n-preserved : goal.loop-n-preserved
loop-n-preserved c =
    let loop = c.loop-n in
    spread_more c.args.numbers.now loop.n-index (omega arith) loop.invariant refl (c.type_inv.numbers loop.n-index).fits c.put_spaced-next.ensures
