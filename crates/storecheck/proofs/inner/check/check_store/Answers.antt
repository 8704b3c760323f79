-- Each test that fails contradicts a clause of soundness; together they give all clauses.
use native.Mathlib.Omega.{arith}
use mathlib.Core.Path.{◌≡◌, sym, ◌∙◌}
use Rattle.std.specs.Prelude.{Some, None}
use Rattle.layout.specs.Layout.{count}
use Rattle.recordcheck.specs.Check.{Passed}
use Rattle.recordcheck.specs.Reads.{used_lengths}
use Rattle.storecheck.specs.Judgements.{sound_record, sound_unused, ready, judged_if}
use Rattle.storecheck.proofs.inner.check.check_store.Goals as goal

pub returns-in_default : goal.returns-in_default
returns-in_default c =
    let args = c.args in
    let count_of = c.count_of-count in
    let check-records = c.check_records-checked in
    let e : check-records.result ≡ None = c.in_default.is in
    let bad = rw e at check-records.ensures in
    (λ v. bad.0 (λ d a b. sound_record args.store.now v d a (rw count_of.ensures at b)), bad.1)

pub returns-then-pool-used : goal.returns-then-pool-used
returns-then-pool-used c =
    let args = c.args in
    let count_of = c.count_of-count in
    let used-of = c.used_of-used in
    let check-records = c.check_records-checked in
    let e : check-records.result ≡ Some c.in-Some.pool = cc in
    let p : Passed args.store.now check-records.new.scratch count_of.result c.in-Some.pool = rw e at check-records.ensures in
    let q : Passed args.store.now check-records.new.scratch (count args.store.now) c.in-Some.pool = rw count_of.ensures at p in
    (λ v. c.if-pool-used.true (q.filled ∙ sym (used_lengths args.store.now v) ∙ sym used-of.ensures), p.index.sized)

pub returns : goal.returns
returns c =
    let args = c.args in
    let count_of = c.count_of-count in
    let used-of = c.used_of-used in
    let check-root = c.check_root in
    let if4 = c.if-not-check_root in
    let check-records = c.check_records-checked in
    let e : check-records.result ≡ Some c.in-Some.pool = cc in
    let p : Passed args.store.now check-records.new.scratch count_of.result c.in-Some.pool = rw e at check-records.ensures in
    let q : Passed args.store.now check-records.new.scratch (count args.store.now) c.in-Some.pool = rw count_of.ensures at p in
    let root = rw (if4.false) at check-root.ensures in
    judged_if args.store.now check-records.new.scratch c.unused_zero.result
    (λ t. ready args.store.now check-records.new.scratch c.in-Some.pool c.told-store
    (omega (arith, count_of.ensures), omega (arith, count_of.ensures), omega (arith, used-of.ensures)) root.0 q
    (c.if-pool-used.false ∙ used-of.ensures) (rw (t, count_of.ensures, used-of.ensures) at c.unused_zero.ensures))
    (λ f v. (rw (f, count_of.ensures, used-of.ensures) at c.unused_zero.ensures) (sound_unused args.store.now v))
    p.index.sized
