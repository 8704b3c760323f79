-- The output's length and the checks of the set; then the words.
use mathlib.Core.Path.{ap, ◌∙◌}
use mathlib.Core.List.{[]}
use Rattle.std.proofs.lemmas.Result.{err_from_is_err_and}
use Rattle.outputs.specs.Alts.{telling}
use Rattle.outputs.specs.Outputs.{alts_length}
use Rattle.verdicts.specs.Calls.{written, verdict_left, conflicting_alts_call}
use Rattle.verdicts.specs.Opened.{short_output, left_refused, left_answered}
use Rattle.verdicts.proofs.listing.conflicting_alts.Goals as goal

pub returns-then-output-ne-ALTS_WORDS : goal.returns-then-output-ne-ALTS_WORDS
unfolding conflicting_alts_call
returns-then-output-ne-ALTS_WORDS c =
    let a = c.args in
    short_output a.store.now a.set.now a.scratch.now alts_length a.output.now _ _ [] c.if-output-ne-ALTS_WORDS.true

pub returns-in_err-open_set : goal.returns-in_err-open_set
unfolding conflicting_alts_call
returns-in_err-open_set c =
    let a = c.args in
    let p = err_from_is_err_and c.from_residual.result c.from_residual.ensures.1 in
    rw (p.1, p.2) (left_refused a.store.now a.set.now a.scratch.now alts_length a.output.now _ _ c.if-output-ne-ALTS_WORDS.false [] _ c.open_set.new.scratch
    (rw c.in_err-open_set.was at c.open_set.ensures))

pub write_alts-requires : goal.write_alts-requires
write_alts-requires c =
    (telling c.lead_all.ensures.0 c.mark_all.ensures, c.if-output-ne-ALTS_WORDS.false)

pub returns : goal.returns
unfolding conflicting_alts_call
returns c =
    let a = c.args in
    ap (verdict_left written c.clear.new.words) c.write_alts.ensures
    ∙ left_answered a.store.now a.set.now a.scratch.now alts_length a.output.now _ _ c.if-output-ne-ALTS_WORDS.false
    c.mark_all.new.scratch c.clear.new.words c.mark_all.ensures.lent c.clear.ensures c.open_set.new.scratch (rw c.in_ok-open_set.was at c.open_set.ensures)
