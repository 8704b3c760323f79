-- The stop states of a script, word by word. Nothing here has to be believed.
use Rattle.std.specs.Prelude.{◌≡◌, refl, List, [], ◌∷◌, ◌++◌, ℕ, zero, suc, ◌+◌, ◌*◌, ◌-◌, ◌<◌, ◌≤◌, length, set, replicate, take, drop}
use Rattle.std.proofs.Common.{sym, ap, ◌∙◌, arith, add-one, lt-ltb, le-ltb}
use Rattle.std.proofs.lemmas.List.Edits.{sets-eq}
use Rattle.lines.specs.LayoutLayout.{blank}
use Rattle.lines.specs.Checks.{unless}
use Rattle.replies.specs.Calls.{most_stops}
use Rattle.format.specs.Bytes.{u32_at, words_at}
use Rattle.format.specs.Bytes.Laws.{length_words, words_more}
use Rattle.lines.specs.Laid.{laid, Wrote}
use Rattle.lines.specs.Laid.Laws.{laid_append, laid_one, laid_none}
use Rattle.lines.specs.Lines.{spaced_all, refusal_line, stops_line}
use Rattle.lines.specs.Spread.{line_one}
use Rattle.replies.specs.Replies.{stop_words, stops_call}

-- the list's words before the first state is held, and after some
unfoldable pub counted : ℕ → List ℕ
counted n = set (replicate 65 0) 0 n

abbrev pub Held : List ℕ → ℕ → ℕ → ℕ → List ℕ → Type 0
Held s p n i t = t ≡ laid (counted n) 1 (words_at s p i)

pub held_start : (s : List ℕ) (p n : ℕ) (t : List ℕ) → t ≡ replicate 65 0 → Held s p n 0 (set t 0 n)
unfolding counted words_at
held_start s p n t e = ap (λ (l : List ℕ). set l 0 n) e ∙ sym (laid_none (counted n) 1)

pub held_more : (s : List ℕ) (p n i : ℕ) (t : List ℕ) → Held s p n i t → Held s p n (i + 1) (set t (1 + i) (u32_at s (p + 4 * i)))
held_more s p n i t h =
    ap (λ (l : List ℕ). set l (1 + i) (u32_at s (p + 4 * i))) h
    ∙ sym (laid_one (laid (counted n) 1 (words_at s p i)) (1 + i) (u32_at s (p + 4 * i)))
    ∙ ap (λ (k : ℕ). laid (laid (counted n) 1 (words_at s p i)) (1 + k) (u32_at s (p + 4 * i) ∷ [])) (sym (length_words s p i))
    ∙ sym (laid_append (counted n) 1 (words_at s p i) (u32_at s (p + 4 * i) ∷ []))
    ∙ ap (laid (counted n) 1) (sym (words_more s p i) ∙ ap (words_at s p) (sym (add-one i)))

drop_zeros : (k m : ℕ) → drop {A = ℕ} k (replicate m 0) ≡ replicate (m - k) 0
drop_zeros zero m = ap (λ (n : ℕ). replicate {A = ℕ} n 0) (let e : m ≡ m - 0 = omega arith in e)
drop_zeros (suc k) zero = ap (λ (n : ℕ). replicate {A = ℕ} n 0) (let e : 0 ≡ 0 - suc k = omega arith in e)
drop_zeros (suc k) (suc m) = drop_zeros k m ∙ ap (λ (n : ℕ). replicate {A = ℕ} n 0) (let e : m - k ≡ suc m - suc k = omega arith in e)

-- all of them
pub held_all : (s : List ℕ) (p n : ℕ) (t : List ℕ) → n ≤ most_stops → Held s p n n t → t ≡ stop_words (words_at s p n)
unfolding counted laid blank
held_all s p n t h e =
    let xs = words_at s p n in
    let l : length xs ≡ n = length_words s p n in
    let c : set (replicate 65 0) 0 n ≡ n ∷ replicate 64 0 = refl in
    let d : 1 + length xs ≡ suc (length xs) = omega arith in
    e
    ∙ sets-eq xs (set (replicate 65 0) 0 n) 1 (omega (arith, ap length c))
    ∙ ap (λ (y : List ℕ). (take 1 y ++ xs) ++ drop (1 + length xs) y) c
    ∙ ap (λ (k : ℕ). n ∷ xs ++ drop k (n ∷ replicate 64 0)) d
    ∙ ap (λ (y : List ℕ). n ∷ xs ++ y) (drop_zeros (length xs) 64)
    ∙ ap (λ (k : ℕ). k ∷ xs ++ replicate (64 - length xs) 0) (sym l)

-- ---- the call

module _ (b : List ℕ) (r : ℕ) (u t xs : List ℕ) where
  pub too_many : most_stops < length xs → Wrote b 0 (refusal_line 10) r u → Wrote b 0 (stops_call t xs).0 r u × (t ≡ (stops_call t xs).1)
  unfolding stops_call unless
  too_many h v = rw (lt-ltb most_stops (length xs) h, unless) (v, refl)

  pub held_call : (n : ℕ) (t' : List ℕ) → length xs ≡ n → n ≤ most_stops → t' ≡ stop_words xs → Wrote b 0 (83 ∷ spaced_all (n ∷ []) ++ 10 ∷ []) r u
      → Wrote b 0 (stops_call t xs).0 r u × (t' ≡ (stops_call t xs).1)
  unfolding stops_call unless stops_line
  held_call n t' l h e v = rw (le-ltb most_stops (length xs) (omega arith), unless) (rw (line_one 83 n, ← l) at v, e)
