-- Its three words are 0; then record 0 is the first of an empty index.
use Rattle.std.proofs.Common.{◌≡◌, true, List, ℕ, sym, ◌∙◌, arith}
use Rattle.words.specs.Numbers.{two}
use Rattle.words.specs.Lent.{all_zero}
use Rattle.words.specs.Lent.Laws.{all_zero_at, all_zero_of}
use Rattle.layout.specs.Layout.{kind, first, second}
use Rattle.recordcheck.specs.Check.{Root}
use Rattle.storecheck.specs.Judgements.{root_passed}
use Rattle.storecheck.proofs.inner.check.check_root.Goals as goal

zero_root : (w : List ℕ) → all_zero w 2 5 ≡ true → Root w
unfolding kind first second
zero_root w e = (all_zero_at w 2 5 e 2 (omega arith) (omega arith), all_zero_at w 2 5 e 3 (omega arith) (omega arith), all_zero_at w 2 5 e 4 (omega arith) (omega arith))

root_zero : (w : List ℕ) → Root w → all_zero w 2 5 ≡ true
unfolding kind first second
root_zero w r =
    all_zero_of w 2 5
    (λ j a b. two j 2 (λ e. rw e r.0) (λ n. two j 3 (λ e. rw e r.1) (λ m. let e : j ≡ 4 = omega arith in rw e r.2)))

pub returns-then-not-all_zero : goal.returns-then-not-all_zero
returns-then-not-all_zero c =
    let no = sym c.all_zero.ensures ∙ c.if-not-all_zero.true in
    (λ r. let yes = root_zero c.args.store.now r in cc, c.told-scratch)

pub returns : goal.returns
returns c =
    let args = c.args in
    let r : Root args.store.now = zero_root args.store.now (sym c.all_zero.ensures ∙ c.if-not-all_zero.false) in (
      r,
      rw (c.add_to_index.ensures, c.clear_heads.ensures)
          (root_passed args.store.now args.scratch.now c.empty_hash.result c.told-store c.told-scratch r c.empty_hash.ensures),
    )
