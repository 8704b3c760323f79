-- The refusals are those of the definition, in its order; then the state is placed.
use native.Mathlib.Omega.{arith}
use mathlib.Core.Path.{◌≡◌, refl, sym, ◌∙◌}
use Rattle.std.specs.Prelude.{Err}
use Rattle.std.proofs.lemmas.Result.{err_from_is_err_and}
use Rattle.words.specs.declared.refusals.Refusal.TheVariants.{WrongLength}
use Rattle.store.specs.Admit.{store_refused, scratch_refused}
use Rattle.interning.specs.SingletonCall.Laws.{placed_single}
use Rattle.interning.proofs.Outcomes.{placed, singleton_refused, singleton_ready, singleton_mark, singleton_out, singleton_placed}
use Rattle.interning.proofs.single.singleton.Goals as goal

pub returns-in_err-store : goal.returns-in_err-store
returns-in_err-store c =
    let off = c.in_err-store in
    let f : off.field-0.0 ≡ WrongLength = let v = rw off.ensures.ok_part at off.ensures.value in cc in
    let p = err_from_is_err_and c.from_residual.result c.from_residual.ensures.1 in
    rw (p.1, p.2, f)
    (singleton_refused _ _ _ c.args.parent.0 c.args.state.0 (Err WrongLength)
    (store_refused c.args.store.now c.args.scratch.now c.args.parent.0 (rw off.ensures.ok_part at c.as_mut_array.ensures.cases)) _ refl)

pub returns-in_err-scratch : goal.returns-in_err-scratch
returns-in_err-scratch c =
    let w = rw c.in_ok-store.ensures.ok_part at c.as_mut_array.ensures.cases in
    let off = c.in_err-scratch in
    let f : off.field-0.0 ≡ WrongLength = let v = rw off.ensures.ok_part at off.ensures.value in cc in
    let p = err_from_is_err_and c.from_residual-in_err-scratch.result c.from_residual-in_err-scratch.ensures.1 in
    rw (p.1, p.2, f, w.same)
    (singleton_refused _ _ _ c.args.parent.0 c.args.state.0 (Err WrongLength)
    (scratch_refused c.args.store.now c.args.scratch.now c.args.parent.0 (rw off.ensures.ok_part at c.as_mut_array-2.ensures.cases)) _ refl)

pub returns-in_err-admit : goal.returns-in_err-admit
returns-in_err-admit c =
    let args = c.args in
    let w = rw c.in_ok-store.ensures.ok_part at c.as_mut_array.ensures.cases in
    let z = rw c.in_ok-scratch.ensures.ok_part at c.as_mut_array-2.ensures.cases in
    let p = err_from_is_err_and c.from_residual-in_err-admit.result c.from_residual-in_err-admit.ensures.1 in
    rw (p.1, p.2, ← w.same, ← z.same)
    (singleton_refused _ _ c.admit.new.scratch args.parent.0 args.state.0 c.admit.result c.admit.ensures _ c.in_err-admit.was)

pub returns-in_default : goal.returns-in_default
returns-in_default c =
    let args = c.args in
    let w = rw c.in_ok-store.ensures.ok_part at c.as_mut_array.ensures.cases in
    let z = rw c.in_ok-scratch.ensures.ok_part at c.as_mut_array-2.ensures.cases in
    rw (← w.same, ← z.same)
    (singleton_out _ _ c.admit.new.scratch args.parent.0 args.state.0 c.admit.result c.admit.ensures c.in_ok-admit.was
    _ c.clear.ensures _ (sym c.try_from.ensures ∙ c.in_default.is))

pub returns-then-held : goal.returns-then-held
returns-then-held c =
    let args = c.args in
    let w = rw c.in_ok-store.ensures.ok_part at c.as_mut_array.ensures.cases in
    let z = rw c.in_ok-scratch.ensures.ok_part at c.as_mut_array-2.ensures.cases in
    rw (c.found.ensures, ← w.same, ← z.same)
    (singleton_mark _ _ c.admit.new.scratch args.parent.0 args.state.0 c.admit.result c.admit.ensures c.in_ok-admit.was
    _ c.clear-then-held.ensures c.in-Ok.held (sym c.try_from.ensures ∙ c.in-Ok.is) c.if-held.true)

pub place_single-requires : goal.place_single-requires
place_single-requires c =
    let args = c.args in
    let store = c.in_ok-store.store.now in
    let ready = singleton_ready store c.in_ok-scratch.scratch.now c.admit.new.scratch args.parent.0 args.state.0 c.admit.result c.admit.ensures
    c.in_ok-admit.was in
    let o = placed store args.state.0 (placed_single store args.parent.0 args.state.0) c.in-Ok.held
    (sym c.try_from.ensures ∙ c.in-Ok.is) c.if-held.false in
    (ready.0, ready.1, omega (arith, o.0, o.1))

pub returns : goal.returns
returns c =
    let args = c.args in
    let w = rw c.in_ok-store.ensures.ok_part at c.as_mut_array.ensures.cases in
    let z = rw c.in_ok-scratch.ensures.ok_part at c.as_mut_array-2.ensures.cases in
    rw (← w.same, ← z.same)
    (singleton_placed _ _ c.admit.new.scratch args.parent.0 args.state.0 c.admit.result c.admit.ensures c.in_ok-admit.was
    c.in-Ok.held (sym c.try_from.ensures ∙ c.in-Ok.is) c.if-held.false _ c.place_single.ensures)
