-- The reason's line and call, from what the parts leave. Nothing here has to be believed.
use Rattle.std.specs.Prelude.{◌≡◌, refl, List, [], ◌∷◌, ℕ, ◌+◌, ◌-◌, ◌*◌, ◌≤◌, length, take, drop, Result, Err}
use Rattle.std.proofs.Common.{◌∙◌, sym, arith, append_assoc}
use borrow.Rule.Slice.PartMut.{put_mid, Post-is}
use Rattle.std.proofs.lemmas.List.Edits.{sets-eq}
use Rattle.lines.specs.LayoutLayout.{blank}
use Rattle.lines.specs.Reason.{one, clash}
use Rattle.reasons.specs.Outputs.{alts_length}
use Rattle.reasons.specs.VerdictsCalls.{verdict_left}
use Rattle.reasons.specs.Calls.{why_call}
use Rattle.reasons.specs.Replies.{told}
use Rattle.reasons.specs.declared.answers.Reason.{Reason}
use Rattle.words.specs.Refusals.{number}
use Rattle.words.specs.declared.refusals.Refusal.{Refusal}
use Rattle.lines.specs.Laid.{laid, Wrote}
use Rattle.lines.specs.Laid.Laws.{wrote_then, wrote_length}
use Rattle.lines.specs.Lines.{line_bytes, spaced, reason_line, refusal_line}
use Rattle.verdictreplies.specs.Replies.{held_stops, verdict_line_of}
use Rattle.verdictreplies.specs.Figured.{Told, Piece, Upto}
use Rattle.lines.specs.Spread.{Spread}

-- the bytes of `W one` and of `W clash`
abbrev pub lone : List ℕ
lone = 87 ∷ 32 ∷ 111 ∷ 110 ∷ 101 ∷ []

abbrev pub clashing : List ℕ
clashing = 87 ∷ 32 ∷ 99 ∷ 108 ∷ 97 ∷ 115 ∷ 104 ∷ []

pub word_start : {b xs : List ℕ} {j : ℕ} {u : List ℕ} → Wrote b 0 xs j u → length xs ≤ 7 → Upto b 7 j u
word_start v h = record { place = omega (arith, v.after); sized = wrote_length v }

pub numbers_more : {b : List ℕ} {k j : ℕ} {u xs : List ℕ} {i : ℕ} {t : List ℕ} → Upto b k j u → Spread u j xs i t → length xs ≤ 256 → Upto b (k + 2816) i t
numbers_more v p h = record { place = omega (arith, v.place, p.wrote.after, p.few); sized = wrote_length p.wrote ∙ v.sized }

pub numbers_room : {b : List ℕ} {k j : ℕ} {u : List ℕ} (n : ℕ) → Upto b k j u → length b ≡ line_bytes → k ≤ 36000 → n ≤ 256 → j + 11 * n ≤ length u
numbers_room n v l h m = omega (arith, v.place, v.sized)

module _ (b : List ℕ) (s k : ℕ) {j₁ : ℕ} {u₁ : List ℕ} {j₂ : ℕ} {u₂ : List ℕ} {j₃ : ℕ} {u₃ : List ℕ} where
  pub one_line : {j₄ : ℕ} {u₄ : List ℕ} → Wrote b 0 lone j₁ u₁ → Piece u₁ j₁ (spaced s) j₂ u₂ → Piece u₂ j₂ (spaced k) j₃ u₃ → Wrote u₃ j₃ (10 ∷ []) j₄ u₄
      → Wrote b 0 (reason_line (one s k)) j₄ u₄
  unfolding reason_line
  one_line v₁ v₂ v₃ v₄ = wrote_then (wrote_then (wrote_then v₁ v₂.wrote) v₃.wrote) v₄

  pub clash_line : (xs : List ℕ) {j₄ : ℕ} {u₄ : List ℕ} {j₅ : ℕ} {u₅ : List ℕ} → Wrote b 0 clashing j₁ u₁ → Piece u₁ j₁ (spaced s) j₂ u₂
      → Piece u₂ j₂ (spaced k) j₃ u₃ → Spread u₃ j₃ xs j₄ u₄ → Wrote u₄ j₄ (10 ∷ []) j₅ u₅ → Wrote b 0 (reason_line (clash s k xs)) j₅ u₅
  unfolding reason_line
  clash_line xs v₁ v₂ v₃ v₄ v₅ = wrote_then (wrote_then (wrote_then (wrote_then v₁ v₂.wrote) v₃.wrote) v₄.wrote) v₅

-- ---- the call, with states that are those held and an output of zeros

module _ (b w v y s t o p : List ℕ) (r : ℕ) (u z : List ℕ) (h : s ≡ held_stops t) (e : o ≡ blank alts_length) where
  pub why_told : (a : Result Reason Refusal) → verdict_left (told a p) z p ≡ why_call w v y s o → Wrote b 0 (verdict_line_of (told a p)) r u
      → Told b (why_call w v y (held_stops t) (blank alts_length)) r u z
  why_told a c q = rw (← h, ← e, ← c) (record { wrote = q; scratch = refl })

  pub why_refused : (f : Refusal) → verdict_left (told (Err f) p) z p ≡ why_call w v y s o → Wrote b 0 (refusal_line (number f)) r u
      → Told b (why_call w v y (held_stops t) (blank alts_length)) r u z
  unfolding verdict_line_of
  why_refused f c q = why_told (Err f) c q

-- ---- bytes copied into their place

pub wrote_bytes : (b xs ys : List ℕ) (i : ℕ) → i + length xs ≤ length b → ys ≡ xs → Wrote b i xs (i + length xs) (put_mid i (i + length xs - i) b ys)
unfolding laid
wrote_bytes b xs ys i h e = record {
  after = refl;
  bytes = rw (e, Post-is i (i + length xs) b (omega arith)) (sym (append_assoc (take i b) xs (drop (i + length xs) b)) ∙ sym (sets-eq xs b i h));
  within = h;
}
