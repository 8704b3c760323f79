-- The output's length and the checks of the set; then the words.
use mathlib.Core.Path.{ap, ◌∙◌}
use mathlib.Core.List.{[]}
use Rattle.std.proofs.lemmas.Result.{err_from_is_err_and}
use Rattle.grouping.specs.Clash.{configs_of}
use Rattle.deciding.specs.Picked.{subsets_counted}
use Rattle.outputs.specs.Outputs.{subsets_length}
use Rattle.verdicts.specs.Calls.{written, verdict_left, conflicting_alt_subsets_call}
use Rattle.verdicts.specs.Opened.{short_output, left_refused, left_answered}
use Rattle.verdicts.proofs.listing.conflicting_alt_subsets.Goals as goal

pub returns-then-output-ne-SUBSETS_WORDS : goal.returns-then-output-ne-SUBSETS_WORDS
unfolding conflicting_alt_subsets_call
returns-then-output-ne-SUBSETS_WORDS c =
    let a = c.args in
    short_output a.store.now a.set.now a.scratch.now subsets_length a.output.now _ _ [] c.if-output-ne-SUBSETS_WORDS.true

pub returns-in_err-open_set : goal.returns-in_err-open_set
unfolding conflicting_alt_subsets_call
returns-in_err-open_set c =
    let a = c.args in
    let p = err_from_is_err_and c.from_residual.result c.from_residual.ensures.1 in
    rw (p.1, p.2) (left_refused a.store.now a.set.now a.scratch.now subsets_length a.output.now _ _ c.if-output-ne-SUBSETS_WORDS.false [] _ c.open_set.new.scratch
    (rw c.in_err-open_set.was at c.open_set.ensures))

pub write_groups-requires : goal.write_groups-requires
write_groups-requires c =
    let l = c.lead_all-subsets in
    (l.ensures.0, c.if-output-ne-SUBSETS_WORDS.false, subsets_counted (configs_of c.args.set.now) l.result l.ensures.1)

pub returns : goal.returns
unfolding conflicting_alt_subsets_call
returns c =
    let a = c.args in
    ap (verdict_left written c.clear.new.words) c.write_groups.ensures
    ∙ left_answered a.store.now a.set.now a.scratch.now subsets_length a.output.now _ _ c.if-output-ne-SUBSETS_WORDS.false
    c.lead_all-subsets.new.scratch c.clear.new.words c.lead_all-subsets.ensures.0.words.lent c.clear.ensures c.open_set.new.scratch (rw c.in_ok-open_set.was at c.open_set.ensures)
