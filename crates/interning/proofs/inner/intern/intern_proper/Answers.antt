-- Two contexts are tried, then a lookup; what it does not find is made.
use native.Mathlib.Omega.{arith}
use mathlib.Core.Path.{◌≡◌, sym, ap, ◌∙◌}
use Rattle.index.specs.Found.{found_of}
use Rattle.std.specs.Prelude.{Some}
use Rattle.interning.specs.Making.{pushed_hash, pushed_sought, pushed_beside, side_pushed, found_pushed, missing_of}
use Rattle.interning.proofs.inner.intern.intern_proper.Goals as goal

pub returns-then-same_record : goal.returns-then-same_record
returns-then-same_record c =
    let is = side_pushed c.requires.0 c.args.one.0 c.requires.2 (sym c.same_record.ensures ∙ c.if-same_record.true) in
    rw c.found.ensures (is.0, is.1, omega arith)

pub returns-then-same_record-2 : goal.returns-then-same_record-2
returns-then-same_record-2 c =
    let is = side_pushed c.requires.0 c.args.other.0 c.requires.3 (sym c.same_record-2.ensures ∙ c.if-same_record-2.true) in
    rw c.found-then-same_record-2.ensures (is.0, is.1, omega arith)

pub find_interned-found-requires : goal.find_interned-found-requires
find_interned-found-requires c =
    let entries-hash = c.entries_hash-hash in
    let pre = c.requires in
    rw c.count_of-count.ensures
    (pushed_sought pre.0 pre.1 entries-hash.result (pushed_hash pre.0 entries-hash.result entries-hash.ensures))

pub push_new-requires : goal.push_new-requires
push_new-requires c =
    let find-interned = c.find_interned-found in
    let entries-hash = c.entries_hash-hash in
    let pre = c.requires in
    missing_of pre.0 pre.1 entries-hash.result (pushed_hash pre.0 entries-hash.result entries-hash.ensures)
    (sym (rw c.count_of-count.ensures at find-interned.ensures) ∙ ap found_of c.in_default.is)

pub returns : goal.returns
returns c =
    let find-interned = c.find_interned-found in
    let pre = c.requires in
    let e : find-interned.result ≡ Some c.in-Some.context = cc in
    let is = found_pushed pre.0 pre.1 c.in-Some.context.0 (sym (rw c.count_of-count.ensures at find-interned.ensures) ∙ ap found_of e) in
    rw c.found-2.ensures (is.0, is.1, omega arith)

pub same_record-requires : goal.same_record-requires
same_record-requires c =
    let beside = pushed_beside c.requires.0 c.requires.1 c.args.one.0 c.requires.2 in
    record { records = rw c.count_of-count.ensures beside.0; stacked = rw c.count_of-count.ensures beside.1 }

pub same_record-requires-2 : goal.same_record-requires-2
same_record-requires-2 c =
    let beside = pushed_beside c.requires.0 c.requires.1 c.args.other.0 c.requires.3 in
    record { records = rw c.count_of-count.ensures beside.0; stacked = rw c.count_of-count.ensures beside.1 }
