-- Laws of the provenance word, by linear arithmetic. Nothing here has to be believed.
use Rattle.std.specs.Prelude.{◌≡◌, ℕ, ◌+◌, ◌^◌, ◌<◌, max}
use native.Mathlib.Omega.{arith}
use Rattle.words.specs.Provenance.{id_of, mark_of, merged_marks}

pub id_and_mark : (w : ℕ) → id_of w + mark_of w ≡ w
unfolding id_of mark_of
id_and_mark w = omega arith

pub id_of_below : (w : ℕ) → id_of w < 2 ^ 31
unfolding id_of
id_of_below w = omega arith

module _ (kept other : ℕ) where
  pub id_of_merged : id_of (merged_marks kept other) ≡ id_of kept
  unfolding id_of mark_of merged_marks
  id_of_merged = omega arith

  pub mark_of_merged : mark_of (merged_marks kept other) ≡ max (mark_of kept) (mark_of other)
  unfolding id_of mark_of merged_marks
  mark_of_merged = omega arith

  pub merged_below : kept < 2 ^ 32 → other < 2 ^ 32 → merged_marks kept other < 2 ^ 32
  unfolding id_of mark_of merged_marks
  merged_below h k = omega arith
