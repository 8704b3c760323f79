-- Bytes laid one after the other. Nothing here has to be believed: numbers are in `Spread` of `lines`.
use Rattle.std.specs.Prelude.{◌≡◌, List, [], ◌∷◌, ◌++◌, ℕ, ◌+◌, ◌<◌, ◌≤◌, length, get_or, take}
use Rattle.std.proofs.Common.{sym, ap, ◌∙◌, arith, add-one, take-suc, take_all, length-take-le}
use Rattle.lines.specs.Laid.{Wrote}
use Rattle.lines.specs.Laid.Laws.{wrote_then, wrote_length}

pub bytes_more : (xs : List ℕ) (k : ℕ) {b : List ℕ} {i j : ℕ} {u : List ℕ} {x l : ℕ} {t : List ℕ} → k < length xs → Wrote b i (take k xs) j u → x ≡ get_or xs k 0
    → Wrote u j (x ∷ []) l t → Wrote b i (take (k + 1) xs) l t
bytes_more xs k {b} {i} {j} {u} {x} {l} {t} h v e w =
    let q : take (k + 1) xs ≡ take k xs ++ x ∷ [] = rw add-one (take-suc xs k 0 h ∙ ap (λ (y : ℕ). take k xs ++ y ∷ []) (sym e)) in
    rw q (wrote_then v w)

pub bytes_room : (xs : List ℕ) (k : ℕ) {b : List ℕ} {i j : ℕ} {u : List ℕ} → k < length xs → i + length xs ≤ length b → Wrote b i (take k xs) j u → j < length u
bytes_room xs k {b} {i} {j} {u} h r v = omega (arith, v.after, wrote_length v, length-take-le k xs (omega arith))

pub bytes_all : (xs : List ℕ) (k : ℕ) {b : List ℕ} {i j : ℕ} {u : List ℕ} → length xs ≤ k → Wrote b i (take k xs) j u → Wrote b i xs j u
bytes_all xs k {b} {i} {j} {u} h v = rw (take_all k xs h) at v
