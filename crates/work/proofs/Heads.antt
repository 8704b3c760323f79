-- The walk by the heads of two records' entries, as a loop over words sees them: `$` is the state word `stop` over 0. No soundness is asked.
-- Nothing here has to be believed.
use Rattle.std.proofs.Math.Path.{◌≡◌, refl, sym}
use Rattle.std.proofs.Common.{◌∙◌, arith, eq-eqb, ne_eqb}
use Rattle.std.specs.Prelude.{true, false, ℕ, ◌<◌, eqb}
use Rattle.arena.specs.Store.{Node, end, dollar, push}
use Rattle.arena.proofs.Soundness.{Full}
use Rattle.arena.proofs.Below.{NodeBelow}
use Rattle.encoding.specs.Layout.{stop}
use Rattle.work.specs.Counted.{State, Outcome, done, refused, and_then, before, Merge, walk}
use Rattle.work.proofs.CountedLaws.{walk_less, walk_greater}
use Rattle.work.proofs.Equations.{onward, onward_same, both_done, both_refused}

unfoldable pub head_state : Node → ℕ
head_state end = 0
head_state dollar = stop
head_state (push r p n) = r

unfoldable pub head_parent : Node → ℕ
head_parent end = 0
head_parent dollar = 0
head_parent (push r p n) = p

-- the entries after the first
unfoldable pub tail : Node → Node
tail end = end
tail dollar = end
tail (push r p n) = n

-- one entry ahead; `$` ends the list
unfoldable pub cons : ℕ → ℕ → Node → Node
cons r p x = elim (eqb r stop) [ true ↦ dollar | false ↦ push r p x ]

pub cons_stop : (r p : ℕ) (x : Node) → r ≡ stop → cons r p x ≡ dollar
unfolding cons
cons_stop r p x e = rw (eq-eqb r stop e, cons)

pub cons_push : (r p : ℕ) (x : Node) → (r ≡ stop → ⊥) → cons r p x ≡ push r p x
unfolding cons
cons_push r p x n = rw (ne_eqb r stop n, cons)

-- an entry below `stop` ahead of the others
before_cons : (r p : ℕ) (o : Outcome Node) → r < stop → before r p o ≡ onward (cons r p) o
unfolding before onward
before_cons r p o h = onward_same (push r p) (cons r p) o (λ n. sym (cons_push r p n (λ e. omega arith)))

-- two records' entries, both with an entry, and with states below `stop`
pub record Heads (n k : Node) : Type 0 where
  pub left : Full n
  pub right : Full k
  pub left_below : NodeBelow stop n
  pub right_below : NodeBelow stop k

module _ (inner : Merge) (t : State) where
  pub head_less : (n k : Node) → Heads n k → head_state n < head_state k
      → walk inner t n k ≡ onward (cons (head_state n) (head_parent n)) (walk inner t (tail n) k)
  unfolding head_state head_parent tail walk
  head_less end k v h = absurd v.left
  head_less dollar end v h = absurd v.right
  head_less dollar dollar v h = absurd (omega arith)
  head_less dollar (push q o k) v h = absurd (omega (arith, v.right_below.0))
  head_less (push r p n) end v h = absurd v.right
  head_less (push r p n) dollar v h = before_cons r p _ v.left_below.0
  head_less (push r p n) (push q o k) v h = walk_less inner t r p n q o k h ∙ before_cons r p _ v.left_below.0

  pub head_greater : (n k : Node) → Heads n k → head_state k < head_state n
      → walk inner t n k ≡ onward (cons (head_state k) (head_parent k)) (walk inner t n (tail k))
  unfolding head_state head_parent tail walk
  head_greater end k v h = absurd v.left
  head_greater dollar end v h = absurd v.right
  head_greater dollar dollar v h = absurd (omega arith)
  head_greater dollar (push q o k) v h = before_cons q o _ v.right_below.0
  head_greater (push r p n) end v h = absurd v.right
  head_greater (push r p n) dollar v h = absurd (omega (arith, v.left_below.0))
  head_greater (push r p n) (push q o k) v h = walk_greater inner t r p n q o k h ∙ before_cons q o _ v.right_below.0

  -- equal heads; `$` on both sides is a merge of 0 and 0 in the code, which are equal numbers
  module _ (equals : inner t 0 0 ≡ done 0 t) where
    pub head_equal : (n k : Node) → Heads n k → head_state n ≡ head_state k → (c : ℕ) (u : State) → inner t (head_parent n) (head_parent k) ≡ done c u
        → walk inner t n k ≡ onward (cons (head_state n) c) (walk inner u (tail n) (tail k))
    unfolding head_state head_parent tail walk onward and_then
    head_equal end k v h c u e = absurd v.left
    head_equal dollar end v h c u e = absurd v.right
    head_equal dollar dollar v h c u e =
        let q : ◌≡◌ {A = Outcome ℕ} (done 0 t) (done c u) = sym equals ∙ e in
        let s : t ≡ u = cc in
        rw (cons_stop stop c end refl, s)
    head_equal dollar (push q o k) v h c u e = absurd (omega (arith, v.right_below.0))
    head_equal (push r p n) end v h c u e = absurd v.right
    head_equal (push r p n) dollar v h c u e = absurd (omega (arith, v.left_below.0))
    head_equal (push r p n) (push q o k) v h c u e = both_done inner t r p n q o k h c u e ∙ before_cons r c _ v.left_below.0

    pub head_refused : (n k : Node) → Heads n k → head_state n ≡ head_state k → (i : ℕ) → inner t (head_parent n) (head_parent k) ≡ refused i
        → walk inner t n k ≡ refused i
    unfolding head_state head_parent walk
    head_refused end k v h i e = absurd v.left
    head_refused dollar end v h i e = absurd v.right
    head_refused dollar dollar v h i e =
        let q : ◌≡◌ {A = Outcome ℕ} (done 0 t) (refused i) = sym equals ∙ e in
        let z : ◌≡◌ {A = ℕ} 0 1 = cc in
        absurd (omega arith)
    head_refused dollar (push q o k) v h i e = absurd (omega (arith, v.right_below.0))
    head_refused (push r p n) end v h i e = absurd v.right
    head_refused (push r p n) dollar v h i e = absurd (omega (arith, v.left_below.0))
    head_refused (push r p n) (push q o k) v h i e = both_refused inner t r p n q o k h i e
