-- The checks in their order; each refusal is what the definition leaves.
use mathlib.Core.Path.{◌≡◌, sym, ◌∙◌}
use Rattle.std.proofs.lemmas.Result.{err_from_is_err_and}
use Rattle.words.specs.declared.refusals.Refusal.TheVariants.{WrongLength}
use Rattle.setcheck.specs.Configs.{config_of}
use Rattle.setcheck.specs.Opened.{short_lent_store, short_lent_scratch}
use Rattle.configs.proofs.Adds.{add_refused, add_closed, add_unknown, add_done}
use Rattle.configs.proofs.adding.add.Goals as goal

pub returns-in_err-store : goal.returns-in_err-store
returns-in_err-store c =
    let a = c.args in
    let off = c.in_err-store in
    let f : off.field-0.0 ≡ WrongLength = let v = rw off.ensures.ok_part at off.ensures.value in cc in
    let p = err_from_is_err_and c.from_residual.result c.from_residual.ensures.1 in
    rw (p.1, p.2, f) (add_refused a.store.now a.set.now a.scratch.now a.scratch.now (config_of a.config) WrongLength
    (short_lent_store a.store.now a.set.now a.scratch.now (rw off.ensures.ok_part at c.as_mut_array.ensures.cases)))

pub returns-in_err-scratch : goal.returns-in_err-scratch
returns-in_err-scratch c =
    let a = c.args in
    let w = rw c.in_ok-store.ensures.ok_part at c.as_mut_array.ensures.cases in
    let off = c.in_err-scratch in
    let f : off.field-0.0 ≡ WrongLength = let v = rw off.ensures.ok_part at off.ensures.value in cc in
    let p = err_from_is_err_and c.from_residual-in_err-scratch.result c.from_residual-in_err-scratch.ensures.1 in
    rw (p.1, p.2, f, w.same) (add_refused a.store.now a.set.now a.scratch.now a.scratch.now (config_of a.config) WrongLength
    (short_lent_scratch a.store.now a.set.now a.scratch.now (rw off.ensures.ok_part at c.as_mut_array-2.ensures.cases)))

pub returns-in_err-open_set : goal.returns-in_err-open_set
returns-in_err-open_set c =
    let w = rw c.in_ok-store.ensures.ok_part at c.as_mut_array.ensures.cases in
    let z = rw c.in_ok-scratch.ensures.ok_part at c.as_mut_array-2.ensures.cases in
    let p = err_from_is_err_and c.from_residual-in_err-open_set.result c.from_residual-in_err-open_set.ensures.1 in
    rw (p.1, p.2, ← w.same, ← z.same)
    (add_refused _ c.args.set.now _ c.open_set.new.scratch (config_of c.args.config) _ (rw c.in_err-open_set.was at c.open_set.ensures))

pub returns-then-has_flag : goal.returns-then-has_flag
returns-then-has_flag c =
    let w = rw c.in_ok-store.ensures.ok_part at c.as_mut_array.ensures.cases in
    let z = rw c.in_ok-scratch.ensures.ok_part at c.as_mut_array-2.ensures.cases in
    rw (← w.same, ← z.same)
    (add_closed _ c.args.set.now _ c.open_set.new.scratch (config_of c.args.config) (rw c.in_ok-open_set.was at c.open_set.ensures)
    (sym c.has_flag.ensures ∙ c.if-has_flag.true) c.clear.new.words c.clear.ensures)

pub returns-then-count_of-config : goal.returns-then-count_of-config
returns-then-count_of-config c =
    let w = rw c.in_ok-store.ensures.ok_part at c.as_mut_array.ensures.cases in
    let z = rw c.in_ok-scratch.ensures.ok_part at c.as_mut_array-2.ensures.cases in
    let clear = c.clear-then-count_of-config in
    rw (← w.same, ← z.same)
    (add_unknown _ c.args.set.now _ c.open_set.new.scratch (config_of c.args.config) (rw c.in_ok-open_set.was at c.open_set.ensures)
    (sym c.has_flag.ensures ∙ c.if-has_flag.false) (rw c.count_of.ensures at c.if-count_of-config.true) clear.new.words clear.ensures)

pub returns : goal.returns
returns c =
    let w = rw c.in_ok-store.ensures.ok_part at c.as_mut_array.ensures.cases in
    let z = rw c.in_ok-scratch.ensures.ok_part at c.as_mut_array-2.ensures.cases in
    rw (← w.same, ← z.same)
    (c.add_known.ensures
    ∙ add_done _ c.args.set.now _ c.open_set.new.scratch (config_of c.args.config) (rw c.in_ok-open_set.was at c.open_set.ensures)
    (sym c.has_flag.ensures ∙ c.if-has_flag.false) (rw c.count_of.ensures at c.if-count_of-config.false))
