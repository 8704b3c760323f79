-- `all_zero` answers `all_zero`: one word more is `are_zeros_more`.
use Rattle.std.proofs.Common.{ℕ, Bool, ◌&&◌, ◌-◌, List, take, drop, eqb, get_or, sym, ap, refl, ◌∙◌, arith}
use Rattle.std.proofs.lemmas.List.{take_all}
use Rattle.words.proofs.Bits.{or_zero}
use Rattle.words.specs.Lent.{all_zero, are_zeros}
use Rattle.words.specs.Lent.Laws.{are_zeros_more}
use Rattle.words.proofs.lent.all_zero.Goals as goal

pub loop-word-init : goal.loop-word-init
unfolding are_zeros
loop-word-init c = refl

pub loop-word-preserved : goal.loop-word-preserved
loop-word-preserved c =
    let a = c.args in
    let l = c.loop-word in
    let part : List ℕ = take (a.to - a.from) (drop a.from a.words.now) in
    let word : ℕ = get_or part l.word-index 0 in
    or_zero l.seen word ∙ ap (λ (t : Bool). t && eqb word 0) l.invariant ∙ sym (are_zeros_more part l.word-index (omega arith))

pub returns : goal.returns
unfolding all_zero
returns c =
    let a = c.args in
    let part : List ℕ = take (a.to - a.from) (drop a.from a.words.now) in
    c.loop-word.invariant ∙ ap are_zeros (take_all c.loop-word.word-index part (omega arith))
