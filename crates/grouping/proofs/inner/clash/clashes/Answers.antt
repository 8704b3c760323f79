-- The configs before agree with the first of their subset; `Clash` says what follows.
use mathlib.Core.Path.{sym, ap, ◌∙◌}
use native.Mathlib.Omega.{arith}
use Rattle.std.proofs.lemmas.Bool.{eqb-false, not-true}
use Rattle.groups.specs.Config.{Config}
use Rattle.grouping.specs.Clash.{clash_found, clash_none}
use Rattle.grouping.proofs.inner.clash.clashes.Goals as goal

pub returns-then-ne : goal.returns-then-ne
returns-then-ne c =
    let x = c.config_at in
    let y = c.config_at-in-loop-place in
    sym (clash_found c.requires c.loop-place.place (omega arith) (λ e. eqb-false _ _ (not-true _ (sym c.ne.ensures ∙ c.if-ne.true))
    (ap (λ (k : Config). k.alternative) x.ensures ∙ e ∙ sym (ap (λ (k : Config). k.alternative) y.ensures))))

pub returns : goal.returns
returns c = sym (clash_none c.requires (λ i l. c.loop-place.invariant i (omega (arith, l))))
