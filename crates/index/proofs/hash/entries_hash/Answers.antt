-- An array, `$` alone or a singleton: each has its own words.
use native.Mathlib.Omega.{arith}
use mathlib.Core.Path.{◌≡◌, sym, ◌∙◌}
use Rattle.index.specs.Records.{hash_in}
use Rattle.index.specs.Walk.{single_hash, dollar_hash}
use Rattle.index.proofs.hash.entries_hash.Goals as goal

pub returns-then-entry : goal.returns-then-entry
returns-then-entry c =
    let args = c.args in
    let mark = rw c.stack_entry-entry.ensures at c.if-entry.true in
    let one : args.n ≡ 1 = omega arith in rw one (c.empty_hash.ensures ∙ sym
    (dollar_hash (hash_in args.scratch.now) args.scratch.now args.at mark))

pub returns : goal.returns
returns c =
    let args = c.args in
    let mark = rw c.stack_entry-entry.ensures at c.if-entry.false in
    let one : args.n ≡ 1 = omega arith in rw one (c.singleton_hash.ensures ∙
    (rw (c.context_hash.ensures, c.stack_entry-entry.ensures)) ∙ sym
    (single_hash (hash_in args.scratch.now) args.scratch.now args.at mark))
