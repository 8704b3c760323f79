-- The configs before have the alternative of the first; `Alone` says what follows.
use mathlib.Core.Path.{sym, ap, ◌∙◌}
use Prim.Native.Nat.{ℕ}
use native.Mathlib.Omega.{arith}
use Rattle.std.proofs.lemmas.Bool.{eqb-false, not-true}
use Rattle.groups.specs.Config.{Config}
use Rattle.groups.specs.Answers.{only}
use Rattle.deciding.specs.Alone.{unique_none, unique_two, unique_one}
use Rattle.deciding.proofs.inner.single.common_alt.Goals as goal

pub returns-then-count-eq0 : goal.returns-then-count-eq0
returns-then-count-eq0 c =
    sym (unique_none c.args.set.now (sym c.config_count-count.ensures ∙ c.if-count-eq0.true))

pub returns-then-ne : goal.returns-then-ne
returns-then-ne c =
    let alt : Config → ℕ = λ x. x.alternative in
    sym (unique_two c.args.set.now c.loop-place.place (omega arith)
    (λ e. eqb-false _ _ (not-true _ (sym c.ne.ensures ∙ c.if-ne.true)) (ap alt c.config_at-in-loop-place.ensures ∙ e ∙ sym (ap alt c.config_at.ensures))))

pub returns : goal.returns
returns c =
    ap (λ (x : Config). only x.alternative) c.config_at.ensures ∙ sym (unique_one c.args.set.now (omega arith) (λ i l. c.loop-place.invariant i (omega arith)))
