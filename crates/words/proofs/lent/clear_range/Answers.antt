-- `clear_range` leaves `cleared_range`. The loop's invariant: the words up to i are cleared; one store more is `cleared_range_more`.
use Rattle.std.proofs.Common.{ℕ, List, set, sym, ap, ◌∙◌, arith, length-set, rules}
use Rattle.words.specs.Lent.Laws.{cleared_range_none, cleared_range_more}
use Rattle.words.proofs.lent.clear_range.Goals as goal

pub loop-i-init : goal.loop-i-init
loop-i-init c =
    let a = c.args in
    (search rules, sym (cleared_range_none a.words.now a.from (omega arith)))

pub loop-i-preserved : goal.loop-i-preserved
loop-i-preserved c =
    let a = c.args in
    let l = c.loop-i in (
      simp length-set l.invariant.0,
      ap (λ (t : List ℕ). set t l.i 0) l.invariant.1 ∙ cleared_range_more a.words.now a.from l.i (omega arith) (omega arith),
    )
