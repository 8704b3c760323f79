-- The words of an array, in document 01's order, by `array_hash`.
use mathlib.Core.Path.{sym, ◌∙◌}
use Rattle.layout.specs.Scratch.{stack_parent, stack_state}
use Rattle.layout.specs.Listing.Laws.{listing_size}
use Rattle.index.specs.Records.{hash_in, stack_node}
use Rattle.index.specs.Walk.{array_hash}
use Rattle.index.proofs.hash.array_hash.Goals as goal

pub returns : goal.returns
returns c =
    let args = c.args in
    let pre = c.requires in
    let mix = c.mix in
    c.mix_states.ensures ∙
    (rw (c.mix-3.ensures, c.mix_parents-parents.ensures, c.mix-2.ensures, mix.ensures)) ∙ sym
    (array_hash (hash_in args.scratch.now) (stack_node args.scratch.now args.at args.n) args.n
    (listing_size (stack_state args.scratch.now) (stack_parent args.scratch.now) args.at args.n 512 pre.stacked.entries)
    pre.le_n)
