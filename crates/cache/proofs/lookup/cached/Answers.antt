-- The chain is followed link by link; what is known at a link is `Going`, for every pair with that key, and each step is a lemma of `Search`.
use native.Mathlib.Omega.{arith}
use mathlib.Core.Path.{sym, ap, ◌∙◌}
use Prim.Native.Nat.{max, min}
use Rattle.cache.specs.Cache.{bucket_head, bucket_of, result_link, result_word}
use Rattle.cache.specs.Keys.{sides_small}
use Rattle.cache.specs.Search.{begin, head_small, hit, missing, onward}
use Rattle.cache.proofs.lookup.cached.Goals as goal

pub loop-next-init : goal.loop-next-init
unfolding bucket_head
loop-next-init c =
    let z = c.args.scratch.now in
    let bucket = c.bucket-chain in (
      head_small z c.requires.sound bucket.result bucket.ensures.1,
      λ a b e. begin z c.args.root_is_wildcard a b c.requires.sound bucket.result (bucket.ensures.0 ∙ ap bucket_of e) bucket.ensures.1,
    )

pub returns-then-word-key : goal.returns-then-word-key
unfolding result_word
returns-then-word-key c =
    let at = c.loop-next in
    let key = c.merge_key-key in
    let a = min c.args.left.0 c.args.right.0 in
    let b = max c.args.left.0 c.args.right.0 in
    let small = sides_small c.args.left.0 c.args.right.0 c.requires.left c.requires.right in
    sym
    (hit c.args.scratch.now c.args.root_is_wildcard a b c.requires.sound at.next (at.invariant.1 a b key.ensures.0)
    c.loop-next-test.true small.0 small.1 (c.if-word-key.true ∙ key.ensures.0))

pub loop-next-smaller : goal.loop-next-smaller
unfolding result_word result_link
loop-next-smaller c =
    let at = c.loop-next in
    let key = c.merge_key-key in
    let a = min c.args.left.0 c.args.right.0 in
    let b = max c.args.left.0 c.args.right.0 in
    (onward c.args.scratch.now c.args.root_is_wildcard a b c.requires.sound at.next (at.invariant.1 a b key.ensures.0)
    c.loop-next-test.true (λ e. c.if-word-key.false (e ∙ sym key.ensures.0))).1

pub loop-next-preserved : goal.loop-next-preserved
unfolding result_word result_link
loop-next-preserved c =
    let at = c.loop-next in (
      omega (arith, loop-next-smaller c),
      λ a b e. (onward c.args.scratch.now c.args.root_is_wildcard a b c.requires.sound at.next (at.invariant.1 a b e)
          c.loop-next-test.true (λ q. c.if-word-key.false (q ∙ sym e))).0,
    )

pub returns : goal.returns
returns c =
    let at = c.loop-next in
    let a = min c.args.left.0 c.args.right.0 in
    let b = max c.args.left.0 c.args.right.0 in
    sym
    (missing c.args.scratch.now c.args.root_is_wildcard a b c.requires.sound at.next
    (at.invariant.1 a b c.merge_key-key.ensures.0) c.loop-next-test.false)
