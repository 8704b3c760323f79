-- Words that are written up to a place, and zeros after it. Nothing here has to be believed.
use Rattle.std.specs.Prelude.{◌≡◌, ℕ, suc, ◌<◌, ◌≤◌, ◌+◌, ◌-◌, drop, set, replicate}
use Rattle.std.proofs.Common.{sym, ◌∙◌, arith, length-append, drop_at}
use Rattle.std.proofs.Math.Path.{ap, ap₂}
use mathlib.Core.List.{List, [], ◌∷◌, ◌++◌, append_assoc}
use Rattle.std.proofs.Math.ListN.{length, take}
use Rattle.std.proofs.lemmas.List.{set_at}
use Rattle.std.proofs.Math.Seq.{take-append-le, take_at}
use Rattle.groups.specs.LayoutLayout.{blank}
use Rattle.groups.specs.Lists.{Rising}
use Rattle.groups.specs.Groups.{insert}
use Rattle.outputs.specs.Outputs.{padded}
use Rattle.outputs.specs.Outputs.Laws.{padded_length}
use Rattle.outputs.specs.Insert.{part, row_with, Row, Inserted}

-- nothing written yet
pub padded_none : (n : ℕ) → padded n [] ≡ replicate n 0
unfolding padded blank
padded_none n = let e : n - 0 ≡ n = omega arith in ap (λ (m : ℕ). replicate m 0) e

-- what is written is read back
module _ (n : ℕ) (xs : List ℕ) where
  pub padded_take : (m : ℕ) → m ≤ length xs → take m (padded n xs) ≡ take m xs
  unfolding padded
  padded_take m h = take-append-le m xs (blank (n - length xs)) h

-- one word more
pub padded_set : (n : ℕ) (xs : List ℕ) (a k : ℕ) → length xs ≡ k → k < n → set (padded n xs) k a ≡ padded n (xs ++ (a ∷ []))
unfolding padded blank
padded_set n xs a k e h =
    let m : ℕ = n - suc k in
    let f : n - length xs ≡ suc m = omega arith in
    let g : n - length (xs ++ (a ∷ [])) ≡ m = ap (λ (i : ℕ). n - i) (length-append xs (a ∷ [])) ∙ omega arith in
    ap (λ (i : ℕ). set (xs ++ replicate i 0) k a) f
    ∙ set_at xs 0 (replicate m 0) a k e
    ∙ sym (ap (λ (i : ℕ). (xs ++ (a ∷ [])) ++ replicate i 0) g ∙ append_assoc xs (a ∷ []) (replicate m 0))

-- a word that is written, over an earlier one
pub padded_over : (n : ℕ) (xs ys : List ℕ) (b a k : ℕ) → length xs ≡ k → set (padded n (xs ++ (b ∷ ys))) k a ≡ padded n (xs ++ (a ∷ ys))
unfolding padded
padded_over n xs ys b a k e =
    let same : n - length (xs ++ (b ∷ ys)) ≡ n - length (xs ++ (a ∷ ys)) = ap (λ (i : ℕ). n - i) (length-append xs (b ∷ ys) ∙ sym (length-append xs (a ∷ ys))) in
    ap (λ (l : List ℕ). set l k a) (append_assoc xs (b ∷ ys) (blank (n - length (xs ++ (b ∷ ys)))))
    ∙ set_at xs b (ys ++ blank (n - length (xs ++ (b ∷ ys)))) a k e
    ∙ ap (λ (i : ℕ). xs ++ (a ∷ (ys ++ blank i))) same
    ∙ sym (append_assoc xs (a ∷ ys) (blank (n - length (xs ++ (a ∷ ys)))))

-- ---- a row of words, xs, after those of pre

module _ (n : ℕ) (pre xs : List ℕ) (f : ℕ) (e : length pre ≡ f) (fits : f + length xs ≤ n) where
  abbrev o : List ℕ
  o = padded n (pre ++ xs)

  size : length (pre ++ xs) ≡ f + length xs
  size = length-append pre xs ∙ ap (λ (m : ℕ). m + length xs) e

  o_length : length o ≡ n
  o_length = padded_length n (pre ++ xs) (omega (arith, size))

  pub row_front : take f o ≡ pre
  row_front = padded_take n (pre ++ xs) f (omega (arith, size)) ∙ take_at pre xs f e

  pub row_part : (k : ℕ) → length xs ≡ k → part o f k ≡ xs
  unfolding padded
  row_part k q =
      ap (λ (l : List ℕ). take k (drop f l)) (append_assoc pre xs (blank (n - length (pre ++ xs))))
      ∙ ap (take k) (drop_at pre (xs ++ blank (n - length (pre ++ xs))) f e)
      ∙ take_at xs (blank (n - length (pre ++ xs))) k q

  pub row_with_lem : (ys : List ℕ) → row_with o f ys ≡ padded n (pre ++ ys)
  unfolding row_with
  row_with_lem ys = ap₂ (λ (m : ℕ) (l : List ℕ). padded m (l ++ ys)) o_length row_front

  -- it is a row that an alternative can be put into
  module _ (v : Rising xs) (a : ℕ) (room : f + length (insert a xs) ≤ n) (k : ℕ) (q : length xs ≡ k) where
    pub row : Row o f k a
    row = record {
      within = omega (arith, o_length);
      rises = rw (row_part k q) v;
      rest = rw (row_part k q) (sym (row_with_lem xs));
      room = rw (row_part k q) (omega (arith, o_length));
    }

    -- and what then stands there
    pub row_inserted : (m : ℕ) (u : List ℕ) → Inserted o f k a m u → (m ≡ length (insert a xs)) × (u ≡ padded n (pre ++ insert a xs))
    row_inserted m u w = (w.0 ∙ ap (λ (l : List ℕ). length (insert a l)) (row_part k q), w.1 ∙ ap (λ (l : List ℕ). row_with o f (insert a l)) (row_part k q) ∙ row_with_lem (insert a xs))

-- a zero at the end is no word more
pub padded_zero : (n : ℕ) (xs : List ℕ) → length xs < n → padded n (xs ++ (0 ∷ [])) ≡ padded n xs
unfolding padded blank
padded_zero n xs h =
    let m : ℕ = n - suc (length xs) in
    let f : n - length xs ≡ suc m = omega arith in
    let g : n - length (xs ++ (0 ∷ [])) ≡ m = ap (λ (i : ℕ). n - i) (length-append xs (0 ∷ [])) ∙ omega arith in
    ap (λ (i : ℕ). (xs ++ (0 ∷ [])) ++ replicate i 0) g ∙ append_assoc xs (0 ∷ []) (replicate m 0) ∙ ap (λ (i : ℕ). xs ++ replicate i 0) (sym f)
