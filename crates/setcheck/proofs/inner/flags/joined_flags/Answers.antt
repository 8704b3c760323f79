-- One flag after the other.
use mathlib.Core.Path.{ap, ◌∙◌}
use Prim.Native.Nat.{ℕ}
use Rattle.setcheck.specs.Flags.{joined_flags, with_flag}
use Rattle.setcheck.proofs.inner.flags.joined_flags.Goals as goal

pub returns : goal.returns
unfolding joined_flags
returns c =
    let args = c.args in
    c.with_flag-2.ensures ∙ ap (λ (n : ℕ). with_flag n 4 args.config.reaches_into_outer_context) c.with_flag.ensures
