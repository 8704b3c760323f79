-- The merges where one top state is below the other, and where a side is no stacks or the empty stack alone. Nothing here has to be believed.
use Rattle.std.specs.Prelude.{◌≡◌, refl, Bool, true, false, ℕ, ◌<◌}
use Rattle.std.proofs.Common.{arith}
use borrow.Author.Tests.{lt-ltb, le-ltb}
use Rattle.stacks.specs.Forest.{Forest, none, mark, over}
use Rattle.stacks.specs.Merge.{is_mark, wild, merge_e, merge_t}

-- ---- the three ways in which two top states can stand, as equations

module _ (m : Bool) (r : ℕ) (b t : Forest) (s : ℕ) (c u : Forest) where
  pub merge_less : r < s → merge_e m (over r b t) (over s c u) ≡ over r b (merge_e m t (over s c u))
  unfolding merge_e
  merge_less h = rw (lt-ltb r s h, merge_e)

  pub merge_equal : r ≡ s → merge_e m (over r b t) (over s c u) ≡ over r (merge_t m b c) (merge_e m t u)
  unfolding merge_e merge_t
  merge_equal h = rw (le-ltb r s (omega arith), le-ltb s r (omega arith), merge_e)

  pub merge_greater : s < r → merge_e m (over r b t) (over s c u) ≡ over s c (merge_e m (over r b t) u)
  unfolding merge_e
  merge_greater h = rw (le-ltb r s (omega arith), lt-ltb s r h, merge_e)

-- ---- where a side is no stacks, or the empty stack alone

pub merge_e_none : (m : Bool) (A : Forest) → merge_e m A none ≡ A
unfolding merge_e
merge_e_none m none = refl
merge_e_none m mark = refl
merge_e_none m (over r b t) = refl

pub none_merge_t : (m : Bool) (B : Forest) → merge_t m none B ≡ B
unfolding merge_t merge_e wild is_mark
none_merge_t false B = refl
none_merge_t true none = refl
none_merge_t true mark = refl
none_merge_t true (over s c u) = refl

pub merge_t_none : (m : Bool) (A : Forest) → merge_t m A none ≡ A
unfolding merge_t wild is_mark
merge_t_none false A = merge_e_none false A
merge_t_none true none = merge_e_none true none
merge_t_none true mark = refl
merge_t_none true (over r b t) = merge_e_none true (over r b t)

pub mark_merge_t : (B : Forest) → merge_t true mark B ≡ mark
unfolding merge_t wild is_mark
mark_merge_t B = refl

pub merge_t_mark : (A : Forest) → merge_t true A mark ≡ mark
unfolding merge_t wild is_mark
merge_t_mark none = refl
merge_t_mark mark = refl
merge_t_mark (over r b t) = refl

-- ---- where no side swallows the other, the entries are merged

pub merge_t_full : (A B : Forest) → merge_t false A B ≡ merge_e false A B
unfolding merge_t wild
merge_t_full A B = refl

pub merge_t_plain : (m : Bool) (A B : Forest) → is_mark A ≡ false → is_mark B ≡ false → merge_t m A B ≡ merge_e m A B
unfolding merge_t wild
merge_t_plain false A B h k = refl
merge_t_plain true A B h k = rw (h, k, wild)
