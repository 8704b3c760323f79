-- Each way out is one of the verdict's cases.
use mathlib.Core.Path.{sym, ◌∙◌}
use Rattle.deciding.specs.Stops.{verdict_stopped, verdict_plain, verdict_states}
use Rattle.deciding.proofs.inner.verdict.decide.Goals as goal

pub returns-then-all_stopped : goal.returns-then-all_stopped
returns-then-all_stopped c =
    (sym (verdict_stopped c.args.stops.now c.args.set.now (sym c.all_stopped.ensures ∙ c.if-all_stopped.true)), c.requires)

pub returns-then-not-clashes : goal.returns-then-not-clashes
returns-then-not-clashes c = (
  sym (verdict_plain c.args.stops.now c.args.set.now (sym c.all_stopped.ensures ∙ c.if-all_stopped.false) (sym c.clashes.ensures ∙ c.if-not-clashes.true)),
  c.lead_all.ensures.0.words,
)

pub returns : goal.returns
returns c =
    let e = verdict_states c.args.stops.now c.args.set.now (sym c.all_stopped.ensures ∙ c.if-all_stopped.false) (sym c.clashes.ensures ∙ c.if-not-clashes.false) in
    (c.each_picked.ensures.0 ∙ sym e, c.each_picked.ensures.1)
