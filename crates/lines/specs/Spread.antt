-- Numbers laid one after the other, of 11 bytes at most each. Nothing here has to be believed.
use Rattle.std.specs.Prelude.{◌≡◌, refl, List, [], ◌∷◌, ◌++◌, ℕ, ◌+◌, ◌*◌, ◌<◌, ◌≤◌, length, get_or, take}
use Rattle.std.proofs.Common.{sym, ap, ◌∙◌, append_assoc, arith, add-one, length-append, take-suc, take_all, length-take-le}
use Rattle.lines.specs.Decimal.Laws.{word_digits}
use Rattle.lines.specs.Laid.{Wrote}
use Rattle.lines.specs.Laid.Laws.{wrote_none, wrote_then, wrote_length}
use Rattle.lines.specs.Lines.{spaced, spaced_all, number_line, numbers_line}

pub record Spread (b : List ℕ) (i : ℕ) (xs : List ℕ) (j : ℕ) (u : List ℕ) : Type 0 where
  pub wrote : Wrote b i (spaced_all xs) j u
  pub few : length (spaced_all xs) ≤ 11 * length xs

append_none : (xs : List ℕ) → xs ++ [] ≡ xs
append_none [] = refl
append_none (x ∷ xs) = ap (λ (l : List ℕ). x ∷ l) (append_none xs)

all_append : (xs : List ℕ) (x : ℕ) → spaced_all (xs ++ x ∷ []) ≡ spaced_all xs ++ spaced x
unfolding spaced_all
all_append [] x = append_none (spaced x)
all_append (y ∷ xs) x = ap (λ (l : List ℕ). spaced y ++ l) (all_append xs x) ∙ sym (append_assoc (spaced y) (spaced_all xs) (spaced x))

pub spread_none : (b : List ℕ) (i : ℕ) → i ≤ length b → Spread b i [] i b
unfolding spaced_all
spread_none b i h = record { wrote = wrote_none b i h; few = omega arith }

pub spread_more : (xs : List ℕ) (k : ℕ) {b : List ℕ} {i j : ℕ} {u : List ℕ} {x l : ℕ} {t : List ℕ} → k < length xs → Spread b i (take k xs) j u → x ≡ get_or xs k 0
    → x < 4294967296 → Wrote u j (spaced x) l t → Spread b i (take (k + 1) xs) l t
spread_more xs k {b} {i} {j} {u} {x} {l} {t} h v e f w =
    let q : take (k + 1) xs ≡ take k xs ++ x ∷ [] = rw add-one (take-suc xs k 0 h ∙ ap (λ (y : ℕ). take k xs ++ y ∷ []) (sym e)) in
    let s : spaced_all (take (k + 1) xs) ≡ spaced_all (take k xs) ++ spaced x = ap spaced_all q ∙ all_append (take k xs) x in
    record {
      wrote = rw s (wrote_then v.wrote w);
      few = omega (
        arith,
        v.few,
        word_digits x f,
        ap length s,
        length-append (spaced_all (take k xs)) (spaced x),
        length-take-le k xs (omega arith),
        length-take-le (k + 1) xs (omega arith),
      );
    }

pub spread_room : (xs : List ℕ) (k : ℕ) {b : List ℕ} {i j : ℕ} {u : List ℕ} → k < length xs → i + 11 * length xs ≤ length b → Spread b i (take k xs) j u → j + 11 ≤ length u
spread_room xs k {b} {i} {j} {u} h r v =
    omega (arith, v.few, v.wrote.after, wrote_length v.wrote, length-take-le k xs (omega arith))

pub spread_all : (xs : List ℕ) (k : ℕ) {b : List ℕ} {i j : ℕ} {u : List ℕ} → length xs ≤ k → Spread b i (take k xs) j u → Spread b i xs j u
spread_all xs k {b} {i} {j} {u} h v = rw (take_all k xs h) at v

-- ---- lines of a letter and no number, one and two

pub line_none : (x : ℕ) → x ∷ spaced_all [] ++ 10 ∷ [] ≡ x ∷ 10 ∷ []
unfolding spaced_all
line_none x = refl

pub line_one : (x n : ℕ) → x ∷ spaced_all (n ∷ []) ++ 10 ∷ [] ≡ number_line x n
unfolding spaced_all
line_one x n = ap (λ (l : List ℕ). x ∷ l ++ 10 ∷ []) (append_none (spaced n))

pub line_two : (x n k : ℕ) → x ∷ spaced_all (n ∷ k ∷ []) ++ 10 ∷ [] ≡ numbers_line x n k
unfolding spaced_all
line_two x n k = ap (λ (l : List ℕ). x ∷ l ++ 10 ∷ []) (ap (λ (l : List ℕ). spaced n ++ l) (append_none (spaced k)))
