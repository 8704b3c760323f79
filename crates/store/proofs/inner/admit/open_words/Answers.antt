-- Each answer is what the definition says of the store that is judged.
use mathlib.Core.Path.{sym, ap, ◌∙◌}
use mathlib.Core.List.{List}
use Rattle.store.specs.Calls.{refused, leaves}
use Rattle.store.specs.Admit.{unsound, sound_goes, cleared}
use Rattle.store.proofs.inner.admit.open_words.Goals as goal

pub returns-then-check_store : goal.returns-then-check_store
returns-then-check_store c =
    let args = c.args in
    let v = rw c.if-check_store.true at c.check_store.ensures in
    (v, λ go. sound_goes args.store.now args.scratch.now go c.told-store c.told-scratch v.sound)

pub returns : goal.returns
returns c =
    let args = c.args in
    let no = rw c.if-check_store.false at c.check_store.ensures in
    λ go. unsound args.store.now args.scratch.now go c.told-store c.told-scratch no.0 ∙ ap
    (λ (x : List _). leaves (refused 1) args.store.now x)
    (sym (c.clear.ensures ∙ cleared c.check_store.new.scratch c.check_store.array_long))
