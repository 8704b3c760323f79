-- What a step leaves, from what its parts leave. Nothing here has to be believed.
use Rattle.std.specs.Prelude.{◌≡◌, List, [], ℕ, ◌<◌, ◌≤◌, length}
use Rattle.std.proofs.Common.{sym, ◌∙◌, arith, lt-ltb, le-ltb}
use Rattle.std.proofs.Math.Path.{ap}
use Rattle.format.specs.Format.{Reading, found, ended, malformed, read_at, Record as Call}
use Rattle.lines.specs.Laid.{laid, Wrote}
use Rattle.lines.specs.Lines.{refusal_line}
use Rattle.replies.specs.Replies.{Lent, lent, Printed, wiped, call_of}
use Rattle.replies.specs.Replies.Laws.{Answered}
use Rattle.steps.specs.declared.run.Ran.TheVariants.{Next, Over}
use Rattle.steps.specs.Steps.{most_bytes, ends, reading_step, step_of, Stepped, goes}
use Rattle.steps.specs.Steps.Laws.{step_forward}
use Rattle.steps.specs.Answers.{Behind, behind, laid_out}

-- ---- a step

module _ (s : List ℕ) (i : ℕ) (l : Lent) where
  pub step_long : most_bytes < length s → step_of s i l ≡ ends (refusal_line 9) l
  unfolding step_of
  step_long h = rw (lt-ltb most_bytes (length s) h, step_of)

  step_read : length s ≤ most_bytes → (x : Reading) → x ≡ read_at s i → step_of s i l ≡ reading_step l x
  unfolding step_of
  step_read h x e = (rw (le-ltb most_bytes (length s) h, step_of)) ∙ ap (reading_step l) (sym e)

  module _ (h : length s ≤ most_bytes) where
    pub step_ended : ended ≡ read_at s i → step_of s i l ≡ ends [] l
    unfolding reading_step
    step_ended e = step_read h ended e

    pub step_malformed : malformed ≡ read_at s i → step_of s i l ≡ ends (refusal_line 9) l
    unfolding reading_step
    step_malformed e = step_read h malformed e

    pub step_found : (x : Call) (j : ℕ) → found x j ≡ read_at s i → step_of s i l ≡ record { after = goes j; printed = call_of l x }
    unfolding reading_step
    step_found x j e = step_read h (found x j) e

-- ---- what is laid out, from what was written

module _ (b : List ℕ) (n : ℕ) (u : List ℕ) (t : Stepped) where
  pub ran_over : (e : List ℕ) (l : Lent) (y : List ℕ) → Wrote b 0 e n u → y ≡ wiped l.scratch → t ≡ ends e l
      → behind (Over n) u (lent l.store l.set l.stops y) ≡ laid_out b t
  ran_over e l y v p q =
      let with : List ℕ → Lent = λ x. lent l.store l.set l.stops x in
      rw q (ap (λ (m : ℕ). behind (Over m) u (with y)) (v.after ∙ omega arith)
      ∙ ap (λ (x : List ℕ). behind (Over (length e)) x (with y)) v.bytes
      ∙ ap (λ (x : List ℕ). behind (Over (length e)) (laid b 0 e) (with x)) p)

  pub ran_next : (l : Lent) (j : ℕ) (x : Printed) → Answered b x n u l → t ≡ record { after = goes j; printed = x } → behind (Next n j) u l ≡ laid_out b t
  ran_next l j x v q =
      let m : n ≡ length x.reply = v.wrote.after ∙ omega arith in
      rw q (ap (λ (k : ℕ). behind (Next k j) u l) m
      ∙ ap (λ (y : List ℕ). behind (Next (length x.reply) j) y l) v.wrote.bytes
      ∙ ap (behind (Next (length x.reply) j) (laid b 0 x.reply)) v.words)

-- a script goes on past its place
pub ran_forward : (s : List ℕ) (i : ℕ) (l : Lent) (b : List ℕ) (n j : ℕ) (u : List ℕ) (m : Lent) → behind (Next n j) u m ≡ laid_out b (step_of s i l)
    → (i < j) × (j ≤ length s)
ran_forward s i l b n j u m e = step_forward s i l j (sym (ap (λ (x : Behind). x.after) e))
