-- The reasons in their order; each fact is what its walk found.
use mathlib.Core.Path.{sym, ap, ◌∙◌}
use Rattle.groups.specs.Config.{Config}
use Rattle.reasons.specs.Because.{clash_leads}
use Rattle.reasons.specs.Told.{cleared, tells_stop, tells_none, tells_one, tells_clash}
use Rattle.reasons.proofs.inner.walk.reason_of.Goals as goal

pub returns-then-all_stopped : goal.returns-then-all_stopped
returns-then-all_stopped c =
    let a = c.args in
    let zero = cleared a.output.now _ c.requires.1 c.clear.ensures in
    let t = tells_stop a.stops.now a.set.now _ zero (sym c.all_stopped.ensures ∙ c.if-all_stopped.true) in
    (t.0, t.1, c.requires.0)

pub returns-in_default : goal.returns-in_default
returns-in_default c =
    let a = c.args in
    let zero = cleared a.output.now _ c.requires.1 c.clear.ensures in
    let t = tells_none a.stops.now a.set.now _ zero (sym c.all_stopped.ensures ∙ c.if-all_stopped.false) (rw c.in_default.is at c.first_picked.ensures.0) in
    (t.0, t.1, c.first_picked.ensures.1)

pub returns-in-Some-first_picked : goal.returns-in-Some-first_picked
returns-in-Some-first_picked c =
    let a = c.args in
    let zero = cleared a.output.now _ c.requires.1 c.clear.ensures in
    let lone = c.config_at-lone.ensures in
    let t = tells_one a.stops.now a.set.now _ zero (sym c.all_stopped.ensures ∙ c.if-all_stopped.false) _ (rw c.in-Some.is at c.first_picked.ensures.0) _
    (rw c.in-Some-first_picked.is at c.first_picked-2.ensures.0) _ _ (ap (λ (x : Config). x.state) lone) (ap (λ (x : Config). x.alternative) lone) in
    (t.0, t.1, c.first_picked-2.ensures.1)

pub write_clash-requires : goal.write_clash-requires
write_clash-requires c =
    let first = rw c.in-Some.is at c.first_picked.ensures.0 in
    (c.first_picked-2.ensures.1, cleared c.args.output.now _ c.requires.1 c.clear.ensures, first.0, clash_leads c.args.set.now _ first)

pub returns : goal.returns
returns c =
    let a = c.args in
    let here = c.config_at-clash.ensures in
    let t = tells_clash a.stops.now a.set.now _ (sym c.all_stopped.ensures ∙ c.if-all_stopped.false) _ (rw c.in-Some.is at c.first_picked.ensures.0)
    (rw c.in_default-first_picked.is at c.first_picked-2.ensures.0) c.write_clash.ensures.0 _ _ (ap (λ (x : Config). x.state) here) (ap (λ (x : Config). x.context) here) in
    (t.0, t.1, c.write_clash.ensures.1)
