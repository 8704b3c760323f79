-- The index says whether the entries are new; if so they go in front of their chain.
use Rattle.std.proofs.Common.{rules}
use mathlib.Core.Path.{◌≡◌, sym, ap, ◌∙◌}
use Rattle.std.specs.Prelude.{None}
use Rattle.index.specs.Found.{found_of}
use Rattle.recordcheck.specs.Fresh.{fresh_sought, fresh_indexed}
use Rattle.recordcheck.proofs.inner.check.check_new.Goals as goal

pub find_interned-found-requires : goal.find_interned-found-requires
find_interned-found-requires c =
    let args = c.args in
    let pre = c.requires in
    fresh_sought args.store.now args.scratch.now args.context args.n pre c.entries_hash-hash.result
    c.entries_hash-hash.ensures

pub returns : goal.returns
returns c =
    let args = c.args in
    let pre = c.requires in
    let entries-hash = c.entries_hash-hash in
    let find-interned = c.find_interned-found in
    let unseen : find-interned.result ≡ None = search rules in (
      sym find-interned.ensures ∙ ap found_of unseen,
      rw c.add_to_index.ensures
          (fresh_indexed args.store.now args.scratch.now args.context args.n pre entries-hash.result entries-hash.ensures),
    )
