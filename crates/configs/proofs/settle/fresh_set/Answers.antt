-- A wrong length, then zeros, with flag 1 where it is asked for.
use Rattle.configs.specs.Settles.{fresh_short, fresh_plain, fresh_full}
use Rattle.configs.proofs.settle.fresh_set.Goals as goal

pub returns-then-set-ne-SET_WORDS : goal.returns-then-set-ne-SET_WORDS
returns-then-set-ne-SET_WORDS c =
    let args = c.args in
    fresh_short args.set.now c.if-set-ne-SET_WORDS.true args.full_context

pub returns-then-full_context : goal.returns-then-full_context
returns-then-full_context c =
    let args = c.args in
    let if1 = c.if-set-ne-SET_WORDS in
    let clear = c.clear in
    let e = c.if-full_context.true in
    rw e (fresh_full args.set.now if1.false clear.new.words clear.ensures)

pub returns-else-full_context : goal.returns-else-full_context
returns-else-full_context c =
    let args = c.args in
    let if1 = c.if-set-ne-SET_WORDS in
    let clear = c.clear in
    let e = c.if-full_context.false in
    rw e (fresh_plain args.set.now if1.false clear.new.words clear.ensures)
