-- `copy_range` leaves `copied_range`. The loop's invariant: the first words are copied, `done` of them; one store more is `copied_range_more`.
use Rattle.std.proofs.Common.{ℕ, ◌+◌, List, get_or, set, sym, ap, ◌∙◌, arith, length-set, rules}
use Rattle.words.specs.Lent.Laws.{copied_range_none, copied_range_more}
use Rattle.words.proofs.lent.copy_range.Goals as goal

pub loop-done-init : goal.loop-done-init
loop-done-init c =
    let a = c.args in
    (search rules, sym (copied_range_none a.target.now a.at a.source.now a.from))

pub loop-done-preserved : goal.loop-done-preserved
loop-done-preserved c =
    let a = c.args in
    let l = c.loop-done in
    let word : ℕ = get_or a.source.now (a.from + l.done) 0 in (
      simp length-set l.invariant.0,
      ap (λ (t : List ℕ). set t (a.at + l.done) word) l.invariant.1
          ∙ copied_range_more a.target.now a.at a.source.now a.from l.done (omega arith) (omega arith),
    )
