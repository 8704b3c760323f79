-- Up to i the entries are copied; a turn copies one more, by `load_more`.
use native.Mathlib.Omega.{arith}
use mathlib.Core.Path.{refl}
use Rattle.index.specs.Load.{load_more}
use Rattle.index.proofs.stack.load_entries.Goals as goal

pub loop-i-preserved : goal.loop-i-preserved
loop-i-preserved c =
    let args = c.args in
    let loop = c.loop-i in
    let more = load_more args.store.now args.scratch.now loop.scratch args.from loop.i args.at _ _ (omega arith)
    refl refl loop.invariant in
    rw (c.put_entry.ensures, c.pool_entry-entry.ensures) more
