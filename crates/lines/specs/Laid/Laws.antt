-- Bytes laid one after the other, and read back. Nothing here has to be believed.
use Rattle.std.specs.Prelude.{◌≡◌, refl, List, [], ◌∷◌, ◌++◌, ℕ, suc, ◌+◌, ◌≤◌, ◌<◌, length, set, take, drop}
use Rattle.std.proofs.Common.{sym, ap, ◌∙◌, arith, length-append}
use Rattle.std.proofs.Math.Seq.{length-sets, take-append_seam}
use Rattle.std.proofs.lemmas.List.Edits.{sets-eq}
use Rattle.lines.specs.Laid.{laid, Wrote}

-- ---- laid

pub laid_none : (b : List ℕ) (i : ℕ) → laid b i [] ≡ b
unfolding laid
laid_none b i = refl

pub laid_one : (b : List ℕ) (i x : ℕ) → laid b i (x ∷ []) ≡ set b i x
unfolding laid
laid_one b i x = refl

pub length_laid : (b : List ℕ) (i : ℕ) (xs : List ℕ) → length (laid b i xs) ≡ length b
unfolding laid
length_laid b i xs = length-sets b i xs

pub laid_append : (b : List ℕ) (i : ℕ) (xs ys : List ℕ) → laid b i (xs ++ ys) ≡ laid (laid b i xs) (i + length xs) ys
unfolding laid
laid_append b i [] ys = ap (λ (j : ℕ). laid b j ys) (omega arith)
laid_append b i (x ∷ xs) ys =
    laid_append (set b i x) (suc i) xs ys ∙ ap (λ (j : ℕ). laid (laid (set b i x) (suc i) xs) j ys) (omega arith)

-- what was laid at the start is read there
pub take_laid : (b xs : List ℕ) → length xs ≤ length b → take (length xs) (laid b 0 xs) ≡ xs
unfolding laid
take_laid b xs h =
    ap (take (length xs)) (sets-eq xs b 0 (omega arith))
    ∙ take-append_seam xs (drop (0 + length xs) b)

-- ---- Wrote

pub wrote_none : (b : List ℕ) (i : ℕ) → i ≤ length b → Wrote b i [] i b
wrote_none b i h = record { after = omega arith; bytes = sym (laid_none b i); within = h }

pub wrote_one : (b : List ℕ) (i x : ℕ) → i < length b → Wrote b i (x ∷ []) (i + 1) (set b i x)
wrote_one b i x h = record { after = refl; bytes = sym (laid_one b i x); within = omega arith }

pub wrote_length : {b : List ℕ} {i : ℕ} {xs : List ℕ} {j : ℕ} {u : List ℕ} → Wrote b i xs j u → length u ≡ length b
wrote_length {b} {i} {xs} {j} {u} v = ap length v.bytes ∙ length_laid b i xs

-- one piece after the other
pub wrote_then : {b : List ℕ} {i : ℕ} {xs : List ℕ} {j : ℕ} {u ys : List ℕ} {k : ℕ} {t : List ℕ} → Wrote b i xs j u → Wrote u j ys k t
    → Wrote b i (xs ++ ys) k t
wrote_then {b} {i} {xs} {j} {u} {ys} {k} {t} v w = record {
  after = omega (arith, v.after, w.after, length-append xs ys);
  bytes =
      w.bytes
      ∙ ap (λ (l : List ℕ). laid l j ys) v.bytes
      ∙ ap (λ (m : ℕ). laid (laid b i xs) m ys) v.after
      ∙ sym (laid_append b i xs ys);
  within = omega (arith, w.within, wrote_length v);
}

-- there is room for the next piece, of n bytes
pub wrote_room : {b : List ℕ} {i : ℕ} {xs : List ℕ} {j : ℕ} {u : List ℕ} → Wrote b i xs j u → (n : ℕ) → i + (length xs + n) ≤ length b → j + n ≤ length u
wrote_room v n h = omega (arith, v.after, wrote_length v)

-- ---- the rest of what is to be laid

-- to lay ys from place j on in u is to lay xs from place i on in b, and there is room for it
pub record Rest (b : List ℕ) (i : ℕ) (xs : List ℕ) (u : List ℕ) (j : ℕ) (ys : List ℕ) : Type 0 where
  pub after : j + length ys ≡ i + length xs
  pub bytes : laid u j ys ≡ laid b i xs
  pub sized : length u ≡ length b
  pub room : i + length xs ≤ length b

pub rest_start : (b : List ℕ) (i : ℕ) (xs ys : List ℕ) → ys ≡ xs → i + length xs ≤ length b → Rest b i xs b i ys
rest_start b i xs ys e h = record { after = ap (λ (l : List ℕ). i + length l) e; bytes = ap (laid b i) e; sized = refl; room = h }

module _ {b : List ℕ} {i : ℕ} {xs u : List ℕ} {j : ℕ} {ys : List ℕ} (r : Rest b i xs u j ys) where
  -- there is room for the next piece
  pub rest_room : (ps zs : List ℕ) → ys ≡ ps ++ zs → j + length ps ≤ length u
  rest_room ps zs e = omega (arith, r.after, r.sized, r.room, ap length e, length-append ps zs)

  -- a piece more is laid
  pub rest_step : {ps : List ℕ} {k : ℕ} {t : List ℕ} (zs : List ℕ) → ys ≡ ps ++ zs → Wrote u j ps k t → Rest b i xs t k zs
  rest_step {ps} {k} {t} zs e w = record {
    after = omega (arith, w.after, r.after, ap length e, length-append ps zs);
    bytes =
        ap (λ (l : List ℕ). laid l k zs) w.bytes
        ∙ ap (λ (m : ℕ). laid (laid u j ps) m zs) w.after
        ∙ sym (laid_append u j ps zs)
        ∙ sym (ap (laid u j) e)
        ∙ r.bytes;
    sized = wrote_length w ∙ r.sized;
    room = r.room;
  }

  -- nothing is left
  pub rest_done : ys ≡ [] → Wrote b i xs j u
  rest_done e = record {
    after = omega (arith, r.after, ap length e);
    bytes = sym (laid_none u j) ∙ sym (ap (laid u j) e) ∙ r.bytes;
    within = omega (arith, r.after, r.room, ap length e);
  }
