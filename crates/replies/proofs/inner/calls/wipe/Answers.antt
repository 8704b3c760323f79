-- By the length.
use mathlib.Core.Path.{sym, ◌∙◌}
use Rattle.replies.specs.Replies.Laws.{wiped_right, wiped_wrong}
use Rattle.replies.proofs.inner.calls.wipe.Goals as goal

pub returns-then-scratch-eq-SCRATCH_WORDS : goal.returns-then-scratch-eq-SCRATCH_WORDS
returns-then-scratch-eq-SCRATCH_WORDS c =
    let args = c.args in
    let if1 = c.if-scratch-eq-SCRATCH_WORDS in
    c.clear.ensures ∙ sym (wiped_right args.scratch.now if1.true)

pub returns-else-scratch-eq-SCRATCH_WORDS : goal.returns-else-scratch-eq-SCRATCH_WORDS
returns-else-scratch-eq-SCRATCH_WORDS c = sym (wiped_wrong c.args.scratch.now c.if-scratch-eq-SCRATCH_WORDS.false)
