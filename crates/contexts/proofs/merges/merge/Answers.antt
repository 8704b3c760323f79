-- The refusals are those of the definition, in its order; then the contexts are merged.
use mathlib.Core.Path.{◌≡◌, refl}
use Rattle.std.specs.Prelude.{Err}
use Rattle.std.proofs.lemmas.Result.{err_from_is_err_and}
use Rattle.words.specs.declared.refusals.Refusal.TheVariants.{WrongLength}
use Rattle.store.specs.Admit.{store_refused, scratch_refused}
use Rattle.contexts.specs.MergeCall.Laws.{call_refused, call_ready, call_unknown, call_merged}
use Rattle.contexts.proofs.merges.merge.Goals as goal

pub returns-in_err-store : goal.returns-in_err-store
returns-in_err-store c =
    let a = c.args in
    let off = c.in_err-store in
    let f : off.field-0.0 ≡ WrongLength = let v = rw off.ensures.ok_part at off.ensures.value in cc in
    let p = err_from_is_err_and c.from_residual.result c.from_residual.ensures.1 in
    rw (p.1, p.2, f)
    (call_refused _ _ _ a.left.0 a.right.0 a.root_is_wildcard (Err WrongLength)
    (store_refused a.store.now a.scratch.now a.left.0 (rw off.ensures.ok_part at c.as_mut_array.ensures.cases)) _ refl)

pub returns-in_err-scratch : goal.returns-in_err-scratch
returns-in_err-scratch c =
    let a = c.args in
    let w = rw c.in_ok-store.ensures.ok_part at c.as_mut_array.ensures.cases in
    let off = c.in_err-scratch in
    let f : off.field-0.0 ≡ WrongLength = let v = rw off.ensures.ok_part at off.ensures.value in cc in
    let p = err_from_is_err_and c.from_residual-in_err-scratch.result c.from_residual-in_err-scratch.ensures.1 in
    rw (p.1, p.2, f, w.same)
    (call_refused _ _ _ a.left.0 a.right.0 a.root_is_wildcard (Err WrongLength)
    (scratch_refused a.store.now a.scratch.now a.left.0 (rw off.ensures.ok_part at c.as_mut_array-2.ensures.cases)) _ refl)

pub returns-in_err-admit : goal.returns-in_err-admit
returns-in_err-admit c =
    let a = c.args in
    let w = rw c.in_ok-store.ensures.ok_part at c.as_mut_array.ensures.cases in
    let z = rw c.in_ok-scratch.ensures.ok_part at c.as_mut_array-2.ensures.cases in
    let p = err_from_is_err_and c.from_residual-in_err-admit.result c.from_residual-in_err-admit.ensures.1 in
    rw (p.1, p.2, ← w.same, ← z.same)
    (call_refused _ _ c.admit.new.scratch a.left.0 a.right.0 a.root_is_wildcard c.admit.result c.admit.ensures _ c.in_err-admit.was)

pub returns-then-count_of-right : goal.returns-then-count_of-right
returns-then-count_of-right c =
    let a = c.args in
    let w = rw c.in_ok-store.ensures.ok_part at c.as_mut_array.ensures.cases in
    let z = rw c.in_ok-scratch.ensures.ok_part at c.as_mut_array-2.ensures.cases in
    rw (← w.same, ← z.same)
    (call_unknown _ _ c.admit.new.scratch a.left.0 a.right.0 a.root_is_wildcard c.admit.result c.admit.ensures c.in_ok-admit.was
    (rw c.count_of.ensures at c.if-count_of-right.true) c.clear.new.words c.clear.ensures)

pub merge_known-requires : goal.merge_known-requires
merge_known-requires c =
    let a = c.args in
    let ready = call_ready _ _ c.admit.new.scratch a.left.0 a.right.0 a.root_is_wildcard c.admit.result c.admit.ensures c.in_ok-admit.was in
    (ready.0, ready.1, rw c.count_of.ensures at c.if-count_of-right.false)

pub returns : goal.returns
returns c =
    let a = c.args in
    let w = rw c.in_ok-store.ensures.ok_part at c.as_mut_array.ensures.cases in
    let z = rw c.in_ok-scratch.ensures.ok_part at c.as_mut_array-2.ensures.cases in
    rw (← w.same, ← z.same)
    (call_merged _ _ c.admit.new.scratch a.left.0 a.right.0 a.root_is_wildcard c.admit.result c.admit.ensures c.in_ok-admit.was
    (rw c.count_of.ensures at c.if-count_of-right.false) _ c.merge_known.ensures)
