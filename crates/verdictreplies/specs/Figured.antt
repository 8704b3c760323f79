-- The figures of the set: what is laid out and left, from what the parts leave. Nothing here has to be believed.
use Rattle.std.specs.Prelude.{◌≡◌, Bool, ℕ, ◌+◌, ◌-◌, ◌<◌, ◌≤◌, min, length, get_or, take, drop}
use Rattle.std.proofs.Math.Path.{refl}
use Rattle.std.proofs.Common.{sym, ap, ◌∙◌, arith, length-drop, take_all}
use mathlib.Core.List.{List, [], ◌∷◌}
use Rattle.words.specs.Numbers.{below?}
use Rattle.words.specs.Refusals.{number}
use Rattle.words.specs.declared.refusals.Refusal.{Refusal}
use Rattle.lines.specs.Answers.{Answer}
use Rattle.figures.specs.VerdictsCalls.{VerdictLeft, verdict_left, refused, summary}
use Rattle.figures.specs.Calls.{figures_call}
use Rattle.figures.specs.Replies.{summary_of}
use Rattle.figures.specs.declared.answers.Figures.{Figures}
use Rattle.lines.specs.Decimal.Laws.{word_digits}
use Rattle.lines.specs.Laid.{Wrote}
use Rattle.lines.specs.Laid.Laws.{wrote_then, wrote_length}
use Rattle.lines.specs.Lines.{line_bytes, spaced, alternative_bytes, verdict_bytes, refusal_line, figures_line}
use Rattle.replies.specs.Replies.{Lent, lent, held_stops, verdict_line_of, on_verdict}
use Rattle.replies.specs.Replies.Laws.{Answered}

-- a call on the verdict, which leaves x
pub record Told (b : List ℕ) (x : VerdictLeft) (r : ℕ) (u z : List ℕ) : Type 0 where
  pub wrote : Wrote b 0 (verdict_line_of x.reply) r u
  pub scratch : z ≡ x.scratch

pub on_verdict_lem : (b : List ℕ) (x : VerdictLeft) (r : ℕ) (u w v t z : List ℕ) (l : Lent) → Told b x r u z → w ≡ l.store → v ≡ l.set → t ≡ l.stops
    → Answered b (on_verdict l x) r u (lent w v t z)
on_verdict_lem b x r u w v t z l p e f g = record { wrote = p.wrote; words = rw (p.scratch, e, f, g) }

-- ---- a piece of the line, of 11 bytes at most

pub record Piece (b : List ℕ) (i : ℕ) (xs : List ℕ) (j : ℕ) (u : List ℕ) : Type 0 where
  pub wrote : Wrote b i xs j u
  pub few : length xs ≤ 11

pub piece_number : (b : List ℕ) (i n j : ℕ) (u : List ℕ) → n < 4294967296 → Wrote b i (spaced n) j u → Piece b i (spaced n) j u
piece_number b i n j u h v = record { wrote = v; few = omega (arith, word_digits n h) }

pub number_room : (b : List ℕ) (i n : ℕ) → n < 4294967296 → i + 11 ≤ length b → i + length (spaced n) ≤ length b
number_room b i n h l = omega (arith, word_digits n h)

-- ---- the line, piece by piece

-- the bytes laid so far, at most k of them
pub record Upto (b : List ℕ) (k j : ℕ) (u : List ℕ) : Type 0 where
  pub place : j ≤ k
  pub sized : length u ≡ length b

pub line_start : {b : List ℕ} {x j : ℕ} {u : List ℕ} → Wrote b 0 (x ∷ []) j u → Upto b 1 j u
line_start v = record { place = omega (arith, v.after); sized = wrote_length v }

pub line_more : {b : List ℕ} {k j : ℕ} {u : List ℕ} {xs : List ℕ} {i : ℕ} {t : List ℕ} → Upto b k j u → Piece u j xs i t → Upto b (k + 11) i t
line_more v p = record { place = omega (arith, v.place, p.wrote.after, p.few); sized = wrote_length p.wrote ∙ v.sized }

pub line_room : {b : List ℕ} {k j : ℕ} {u : List ℕ} → Upto b k j u → length b ≡ line_bytes → k ≤ 39000 → j + 11 ≤ length u
line_room v l h = omega (arith, v.place, v.sized)

pub figures_line_lem : (b : List ℕ) (n : ℕ) (x y : Answer) (t : Bool) {j₁ : ℕ} {u₁ : List ℕ} {j₂ : ℕ} {u₂ : List ℕ} {j₃ : ℕ} {u₃ : List ℕ} {j₄ : ℕ} {u₄ : List ℕ}
    {j₅ : ℕ} {u₅ : List ℕ} {j₆ : ℕ} {u₆ : List ℕ} → Wrote b 0 (86 ∷ []) j₁ u₁ → Piece u₁ j₁ (spaced n) j₂ u₂ → Piece u₂ j₂ (alternative_bytes x) j₃ u₃
    → Piece u₃ j₃ (alternative_bytes y) j₄ u₄ → Piece u₄ j₄ (verdict_bytes t) j₅ u₅ → Wrote u₅ j₅ (10 ∷ []) j₆ u₆ → Wrote b 0 (figures_line n x y t) j₆ u₆
unfolding figures_line
figures_line_lem b n x y t v₁ v₂ v₃ v₄ v₅ v₆ =
    wrote_then (wrote_then (wrote_then (wrote_then (wrote_then v₁ v₂.wrote) v₃.wrote) v₄.wrote) v₅.wrote) v₆

-- ---- the states held

-- words whose first says how many of the others there are
pub held_words : (t s : List ℕ) (e : ℕ) → e ≡ min (1 + get_or t 0 0) (length t) → s ≡ take (e - 1) (drop 1 t) → s ≡ take (get_or t 0 0) (drop 1 t)
held_words t s e q h =
    below? (get_or t 0 0) (length t)
    (λ l. let f : e - 1 ≡ get_or t 0 0 = omega arith in h ∙ ap (λ (n : ℕ). take n (drop 1 t)) f)
    (λ l.
    let f : length (drop 1 t) ≤ e - 1 = omega (arith, length-drop 1 t) in
    let g : length (drop 1 t) ≤ get_or t 0 0 = omega (arith, length-drop 1 t) in
    h ∙ take_all (e - 1) (drop 1 t) f ∙ sym (take_all (get_or t 0 0) (drop 1 t) g))

-- words whose first says how many of the others there are
module _ (t : List ℕ) where
  pub held_all : length t ≤ get_or t 0 0 → take (length t - 1) (drop 1 t) ≡ take (get_or t 0 0) (drop 1 t)
  held_all h =
      take_all (length t - 1) (drop 1 t) (omega (arith, length-drop 1 t)) ∙ sym (take_all (get_or t 0 0) (drop 1 t) (omega (arith, length-drop 1 t)))

  pub held_some : take (1 + get_or t 0 0 - 1) (drop 1 t) ≡ take (get_or t 0 0) (drop 1 t)
  held_some = let e : 1 + get_or t 0 0 - 1 ≡ get_or t 0 0 = omega arith in ap (λ (n : ℕ). take n (drop 1 t)) e

-- of the stop states
pub held_stops_lem : (t s : List ℕ) → s ≡ take (get_or t 0 0) (drop 1 t) → s ≡ held_stops t
unfolding held_stops
held_stops_lem t s e = e

-- ---- the call, with states that are those held

module _ (b w v y s t : List ℕ) (r : ℕ) (u z : List ℕ) (h : s ≡ held_stops t) where
  pub told_all : (f : Figures) → verdict_left (summary (summary_of f)) z [] ≡ figures_call w v y s → Wrote b 0 (verdict_line_of (summary (summary_of f))) r u
      → Told b (figures_call w v y (held_stops t)) r u z
  told_all f c p = rw (← h, ← c) (record { wrote = p; scratch = refl })

  pub told_refused : (f : Refusal) → verdict_left (refused (number f)) z [] ≡ figures_call w v y s → Wrote b 0 (refusal_line (number f)) r u
      → Told b (figures_call w v y (held_stops t)) r u z
  unfolding verdict_line_of
  told_refused f c p = rw (← h, ← c) (record { wrote = p; scratch = refl })
