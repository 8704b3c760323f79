-- Each branch is one case of `with_flag`.
use mathlib.Core.Path.{sym}
use Rattle.setcheck.specs.Flags.{flag_none, flag_some}
use Rattle.setcheck.proofs.inner.flags.with_flag.Goals as goal

pub returns-then-word-eq0 : goal.returns-then-word-eq0
returns-then-word-eq0 c =
    let args = c.args in
    sym (flag_none args.flags args.flag args.word c.if-word-eq0.true)

pub returns : goal.returns
returns c =
    let args = c.args in
    sym (flag_some args.flags args.flag args.word c.if-word-eq0.false)
