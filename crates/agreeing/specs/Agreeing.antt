-- Bytes of a recorded answer compared with bytes laid out. Nothing here has to be believed.
use Rattle.std.specs.Prelude.{◌≡◌, refl, Bool, true, false, List, [], ◌∷◌, ◌++◌, ℕ, ◌+◌, ◌-◌, ◌<◌, ◌≤◌, eqb, length, get_or, take, drop}
use Rattle.std.specs.Bool.{Decides}
use Rattle.std.specs.Cmp.Lexicographic.{pointwise}
use Rattle.std.specs.List.{starts_with}
use Rattle.std.proofs.Common.{sym, ap, ◌∙◌, arith, add-one, length-append, length-take, length-drop, take-suc, get_or-take, get_or-drop, take-add, take_all, drop_at, length-take-le}
use Rattle.std.proofs.lemmas.Bool.Decides.{Decides-eqb}
use Rattle.std.proofs.lemmas.List.{take-append-drop, take_rest}
use Rattle.std.proofs.lemmas.Slice.Eq.{slice_eq-Decides}
use Rattle.lines.specs.Check.{Tells}
use Rattle.lines.specs.Laid.{Wrote}
use Rattle.lines.specs.Laid.Laws.{take_laid}

-- a test that was answered
pub affirmed : {P : Type 0} (b : Bool) → b ≡ true → Tells P b → P
affirmed b e t = rw e at t

pub denied : {P : Type 0} (b : Bool) → b ≡ false → Tells P b → P → ⊥
denied b e t = rw e at t

-- a test that decides it, by way of another sentence
pub told_by : {P Q : Type 0} (r : Bool) → Decides r P → (P → Q) → (Q → P) → Tells Q r
told_by true d f g = f (d.0 refl)
told_by false d f g = λ q. let e : false ≡ true = d.1 (g q) in absurd (let z : ◌≡◌ {A = ℕ} 0 1 = cc in omega arith)

-- ---- bytes compared

pub agrees_tells : (a u : List ℕ) (at m : ℕ) (r : Bool) → m ≤ length u → r ≡ starts_with eqb (take (length a - at) (drop at a)) (take m u)
    → Tells (take m (drop at a) ≡ take m u) r
agrees_tells a u at m r h e =
    told_by r (slice_eq-Decides Decides-eqb (take m u) (take m (drop at a)) r (rw (take_rest a at, length-take-le m u h) at e)) sym sym

-- ---- bytes compared one by one

module _ (a u : List ℕ) (at m : ℕ) where
  pub agree_short : m ≤ length u → length a - at < m → take m (drop at a) ≡ take m u → ⊥
  agree_short hu ha e =
      omega (arith, ap length e, length-take m (drop at a), length-drop at a, length-take-le m u hu)

  pub agree_more : (i : ℕ) → m ≤ length u → m ≤ length a - at → i < m → get_or a (at + i) 0 ≡ get_or u i 0 → take i (drop at a) ≡ take i u
      → take (i + 1) (drop at a) ≡ take (i + 1) u
  agree_more i hu ha h g e =
      let d : i < length (drop at a) = omega (arith, length-drop at a) in
      rw add-one (take-suc (drop at a) i 0 d
      ∙ ap (λ (l : List ℕ). l ++ get_or (drop at a) i 0 ∷ []) e
      ∙ ap (λ (x : ℕ). take i u ++ x ∷ []) (get_or-drop at a i 0 ∙ g)
      ∙ sym (take-suc u i 0 (omega arith)))

  pub agree_not : (i : ℕ) → i < m → (get_or a (at + i) 0 ≡ get_or u i 0 → ⊥) → take m (drop at a) ≡ take m u → ⊥
  agree_not i h differs e =
      differs (sym (get_or-drop at a i 0) ∙ sym (get_or-take m (drop at a) i 0 h) ∙ ap (λ (l : List ℕ). get_or l i 0) e ∙ get_or-take m u i 0 h)

-- what follows the first n bytes
pub follows : (a : List ℕ) (n : ℕ) → n ≤ length a → (ys : List ℕ) → a ≡ take n a ++ ys → drop n a ≡ ys
follows a n h ys e = ap (drop n) e ∙ drop_at (take n a) ys n (length-take-le n a h)

-- ---- the last line

module _ (a : List ℕ) (n : ℕ) (h : n ≤ length a) (xs b : List ℕ) (m : ℕ) (u : List ℕ) (v : Wrote b 0 xs m u) where
  last_is : take m u ≡ xs
  last_is =
      let l : m ≡ length xs = v.after ∙ omega arith in
      ap (λ (k : ℕ). take k u) l ∙ ap (take (length xs)) v.bytes ∙ take_laid b xs (omega (arith, v.within))

  -- it is what follows
  pub last_tells : (r : Bool) → r ≡ pointwise eqb (take (length a - n) (drop n a)) (take m u) → Tells (a ≡ take n a ++ xs) r
  last_tells r e =
      told_by r (slice_eq-Decides Decides-eqb (drop n a) (take m u) r (rw (take_rest a n) at e))
      (λ same. sym (take-append-drop n a) ∙ ap (λ (l : List ℕ). take n a ++ l) (same ∙ last_is))
      (λ x. follows a n h xs x ∙ sym last_is)

  pub last_not : (take m (drop n a) ≡ take m u → ⊥) → a ≡ take n a ++ xs → ⊥
  last_not differs x =
      let l : m ≡ length xs = v.after ∙ omega arith in
      differs (ap (λ (k : ℕ). take k (drop n a)) l ∙ ap (take (length xs)) (follows a n h xs x) ∙ take_all (length xs) xs (omega arith) ∙ sym last_is)

  pub last_same : take m (drop n a) ≡ take m u → n + m ≡ length a → a ≡ take n a ++ xs
  last_same same l =
      sym (take_all (n + m) a (omega arith)) ∙ take-add n m a ∙ ap (λ (y : List ℕ). take n a ++ y) (same ∙ last_is)

  pub last_longer : (n + m ≡ length a → ⊥) → a ≡ take n a ++ xs → ⊥
  last_longer differs x =
      differs (omega (arith, v.after, ap length x, length-append (take n a) xs, length-take-le n a h))
