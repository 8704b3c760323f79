-- `hash_words` is `hash_of`: one word more is `hash_from_take`.
use Rattle.std.proofs.Common.{ℕ, List, get_or, sym, refl, ap, ◌∙◌, arith}
use Rattle.words.specs.Hash.{hash_from, mixed}
use Rattle.words.specs.Hash.Laws.{hash_from_take}
use Rattle.words.proofs.hash.hash_words.Goals as goal

pub loop-word-init : goal.loop-word-init
unfolding hash_from
loop-word-init c = refl

pub loop-word-preserved : goal.loop-word-preserved
loop-word-preserved c =
    let words : List ℕ = c.args.words.now in
    let l = c.loop-word in
    c.mix-hash.ensures
    ∙ ap (λ (h : ℕ). mixed h (get_or words l.word-index 0)) l.invariant
    ∙ sym (hash_from_take 0 words l.word-index (omega arith))
