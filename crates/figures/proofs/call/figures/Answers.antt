-- The checks of the set, then that of the stop states; then the figures.
use mathlib.Core.Path.{refl, ap, ◌∙◌}
use mathlib.Core.List.{[]}
use native.Mathlib.Omega.{arith}
use lib.ListN.{length}
use borrow.Author.Tests.{lt-ltb, le-ltb}
use Rattle.std.proofs.lemmas.Result.{err_from_is_err_and}
use Rattle.verdicts.specs.Calls.{Summary, summary, verdict_left, most_stops}
use Rattle.verdicts.specs.Opened.{ready_lent, left_refused, left_passed, left_due}
use Rattle.figures.specs.Calls.{figures_call}
use Rattle.figures.proofs.call.figures.Goals as goal

pub returns-in_err-open_set : goal.returns-in_err-open_set
unfolding figures_call
returns-in_err-open_set c =
    let a = c.args in
    let p = err_from_is_err_and c.from_residual.result c.from_residual.ensures.1 in
    rw (p.1, p.2) (left_refused a.store.now a.set.now a.scratch.now 0 [] _ [] refl _ _ c.open_set.new.scratch (rw c.in_err-open_set.was at c.open_set.ensures))

pub returns-then-stops-gt-MOST_STOPS : goal.returns-then-stops-gt-MOST_STOPS
unfolding figures_call
returns-then-stops-gt-MOST_STOPS c =
    let a = c.args in
    let s = rw c.in_ok-open_set.was at c.open_set.ensures in
    left_due a.store.now a.set.now a.scratch.now 0 [] _ [] refl c.open_set.new.scratch c.clear.new.words (ready_lent s.0).lent c.clear.ensures
    10 (λ q. omega arith) _ (lt-ltb most_stops (length a.stops.now) c.if-stops-gt-MOST_STOPS.true) c.open_set.new.scratch s

pub returns : goal.returns
unfolding figures_call
returns c =
    let a = c.args in
    let all = c.all_figures-all in
    let s = rw c.in_ok-open_set.was at c.open_set.ensures in
    ap (λ (f : Summary). verdict_left (summary f) c.clear-2.new.words []) all.ensures.0
    ∙ left_passed a.store.now a.set.now a.scratch.now 0 [] _ [] refl all.new.scratch c.clear-2.new.words all.ensures.1.lent c.clear-2.ensures
    10 _ (le-ltb most_stops (length a.stops.now) c.if-stops-gt-MOST_STOPS.false) c.open_set.new.scratch s
