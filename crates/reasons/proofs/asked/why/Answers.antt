-- The output's length, the checks of the set, that of the stop states; then the reason.
use mathlib.Core.Path.{ap₂, ◌∙◌}
use mathlib.Core.List.{List}
use Prim.Native.Nat.{ℕ}
use native.Mathlib.Omega.{arith}
use lib.ListN.{length}
use borrow.Author.Tests.{lt-ltb, le-ltb}
use Rattle.std.proofs.lemmas.Result.{err_from_is_err_and}
use Rattle.outputs.specs.Outputs.{alts_length}
use Rattle.verdicts.specs.Calls.{VerdictReply, verdict_left, most_stops}
use Rattle.verdicts.specs.Opened.{ready_lent, short_output, left_refused, left_passed, left_due}
use Rattle.reasons.specs.Calls.{why_call}
use Rattle.reasons.proofs.asked.why.Goals as goal

pub returns-then-output-ne-ALTS_WORDS : goal.returns-then-output-ne-ALTS_WORDS
unfolding why_call
returns-then-output-ne-ALTS_WORDS c =
    let a = c.args in
    short_output a.store.now a.set.now a.scratch.now alts_length a.output.now _ _ _ c.if-output-ne-ALTS_WORDS.true

pub returns-in_err-open_set : goal.returns-in_err-open_set
unfolding why_call
returns-in_err-open_set c =
    let a = c.args in
    let p = err_from_is_err_and c.from_residual.result c.from_residual.ensures.1 in
    rw (p.1, p.2) (left_refused a.store.now a.set.now a.scratch.now alts_length a.output.now _ _ c.if-output-ne-ALTS_WORDS.false _ _ c.open_set.new.scratch
    (rw c.in_err-open_set.was at c.open_set.ensures))

pub returns-then-stops-gt-MOST_STOPS : goal.returns-then-stops-gt-MOST_STOPS
unfolding why_call
returns-then-stops-gt-MOST_STOPS c =
    let a = c.args in
    let s = rw c.in_ok-open_set.was at c.open_set.ensures in
    left_due a.store.now a.set.now a.scratch.now alts_length a.output.now _ _ c.if-output-ne-ALTS_WORDS.false c.open_set.new.scratch c.clear.new.words
    (ready_lent s.0).lent c.clear.ensures 10 (λ q. omega arith) _ (lt-ltb most_stops (length a.stops.now) c.if-stops-gt-MOST_STOPS.true) c.open_set.new.scratch s

pub returns : goal.returns
unfolding why_call
returns c =
    let a = c.args in
    let reason = c.reason_of-reason in
    let s = rw c.in_ok-open_set.was at c.open_set.ensures in
    ap₂ (λ (r : VerdictReply) (o : List ℕ). verdict_left r c.clear-2.new.words o) reason.ensures.0 reason.ensures.1
    ∙ left_passed a.store.now a.set.now a.scratch.now alts_length a.output.now _ _ c.if-output-ne-ALTS_WORDS.false reason.new.scratch c.clear-2.new.words
    reason.ensures.2.lent c.clear-2.ensures 10 _ (le-ltb most_stops (length a.stops.now) c.if-stops-gt-MOST_STOPS.false) c.open_set.new.scratch s
