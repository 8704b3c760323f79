-- The figures are the four calls' answers, and are refused exactly when the verdict is; any two answers are equal. Nothing here has to be believed.
use Rattle.std.specs.Prelude.{◌≡◌, refl, ◌↔◌, ℕ, length, Result, Ok, Err}
use Rattle.std.proofs.Math.Path.{sym, ap}
use Rattle.std.proofs.Common.{◌∙◌, arith, eq-eqb}
use mathlib.Core.List.{List, []}
use Rattle.std.proofs.Math.ListN.{get_or}
use Rattle.words.specs.Refusals.{number}
use Rattle.store.specs.Calls.{zeros, refused as storeRefused}
use Rattle.store.proofs.Told.{number_tells}
use Rattle.store.specs.Checks.Laws.{Clear, passed_clear, clear_passed}
use Rattle.setcheck.specs.Config.{Config}
use Rattle.setcheck.specs.Words.{set_of}
use Rattle.setcheck.specs.Calls.{lent_checks}
use Rattle.grouping.specs.Answers.{unique_alt, single_viable_alt, verdict}
use Rattle.verdicts.specs.Outputs.{subsets_length, padded, subsets_words}
use Rattle.deciding.specs.OneAlt.Laws.{one_tells}
use Rattle.verdicts.specs.Calls.{Summary, VerdictReply, refused, says, alternative, written, summary, VerdictLeft, verdict_left, read_refusal, read_checks, read_call, too_many_stops}
use Rattle.verdicts.specs.Calls.{conflicting_alt_subsets_call, unique_alt_call, single_viable_alt_call, verdict_call}
use Rattle.verdicts.specs.Refused.{refusal_reply, ask_refuses, Refuses, verdict_refuses}
use Rattle.figures.specs.Calls.{figures_of, figures_call}
use Rattle.figures.specs.Replies.{summary_of, told}
use Rattle.figures.specs.declared.answers.Figures.{Figures}
use Rattle.words.specs.declared.refusals.Refusal.{Refusal}

summary_no : (f : Summary) (k : ℕ) → summary f ≡ refused k → ⊥
summary_no f k e = let q : ◌≡◌ {A = ℕ} 0 1 = cc in omega arith

module _ (w v z stops : List ℕ) where
  abbrev cs : List Config
  cs = (set_of v).configs

  -- ---- refused exactly when the verdict is, and leaving the same

  pub figures_refuses : Refuses (figures_call w v z stops) (read_checks 0 (too_many_stops stops) w v z []) z []
  unfolding figures_call
  figures_refuses = ask_refuses 0 (too_many_stops stops) w v z [] _ [] (summary_no _)

  pub refused_alike : (k : ℕ) → ((figures_call w v z stops).reply ≡ refused k) ↔ ((verdict_call w v z stops).reply ≡ refused k)
  refused_alike k =
      let f = (figures_refuses k).0 in
      let g = (verdict_refuses w v z stops k).0 in
      (λ e. g.1 (f.0 e), λ e. f.1 (g.0 e))

  -- ---- else each figure is the answer of its own call

  pub record AsFour (f : Summary) : Type 0 where
    pub subsets : (o : List ℕ) → length o ≡ subsets_length → get_or (conflicting_alt_subsets_call w v z o).output 0 0 ≡ f.subsets
    pub unique : (unique_alt_call w v z).reply ≡ alternative f.unique
    pub viable : (single_viable_alt_call w v z).reply ≡ alternative f.viable
    pub verdict : (verdict_call w v z stops).reply ≡ says f.verdict

  module _ (f : Summary) (e : (figures_call w v z stops).reply ≡ summary f) where
    passed : Clear (read_checks 0 (too_many_stops stops) w v z [])
    unfolding figures_call read_call
    passed =
        passed_clear (read_refusal z []) (verdict_left (summary (figures_of stops cs)) zeros []) (λ l. l.reply ≡ summary f)
        (λ n g. summary_no f n (sym g ∙ refusal_reply z [] n)) (read_checks 0 (too_many_stops stops) w v z []) e

    lent : Clear (read_checks 0 [] w v z [])
    unfolding lent_checks
    lent = (passed.0, (passed.1.0, (passed.1.1.0, tt)))

    -- f is what the definition says
    is_figures : f ≡ figures_of stops cs
    unfolding figures_call read_call
    is_figures =
        let r : summary (figures_of stops cs) ≡ summary f =
        sym (ap (λ (l : VerdictLeft). l.reply) (clear_passed (read_refusal z []) (verdict_left (summary (figures_of stops cs)) zeros []) (read_checks 0 (too_many_stops stops) w v z []) passed)) ∙ e in
        cc

    -- a call without more checks answers
    answers : (r : VerdictReply) → (read_call 0 [] w v z [] r []).reply ≡ r
    unfolding read_call
    answers r = ap (λ (l : VerdictLeft). l.reply) (clear_passed (read_refusal z []) (verdict_left r zeros []) (read_checks 0 [] w v z []) lent)

    pub as_four : AsFour f
    unfolding unique_alt_call single_viable_alt_call verdict_call conflicting_alt_subsets_call read_call lent_checks subsets_words padded
    as_four = record {
      subsets = λ o l.
          ap (λ (x : VerdictLeft). get_or x.output 0 0)
          (clear_passed (read_refusal z o) (verdict_left written zeros (subsets_words cs)) (read_checks subsets_length [] w v z o) (rw (eq-eqb (length o) subsets_length l) lent))
          ∙ ap (λ (x : Summary). x.subsets) (sym is_figures);
      unique = answers (alternative (unique_alt cs)) ∙ ap (λ (x : Summary). alternative x.unique) (sym is_figures);
      viable = answers (alternative (single_viable_alt cs)) ∙ ap (λ (x : Summary). alternative x.viable) (sym is_figures);
      verdict =
          ap (λ (l : VerdictLeft). l.reply)
          (clear_passed (read_refusal z []) (verdict_left (says (Rattle.grouping.specs.Answers.verdict stops cs)) zeros []) (read_checks 0 (too_many_stops stops) w v z []) passed)
          ∙ ap (λ (x : Summary). says x.verdict) (sym is_figures);
    }

-- ---- a reply tells the answer

told_tells : (a b : Result Figures Refusal) → told a ≡ told b → a ≡ b
told_tells (Ok f) (Ok g) e =
    let s : summary_of f ≡ summary_of g = cc in
    let n : f.subsets ≡ g.subsets = ap (λ (x : Summary). x.subsets) s in
    let u : f.unique ≡ g.unique = one_tells f.unique g.unique (ap (λ (x : Summary). x.unique) s) in
    let v : f.viable ≡ g.viable = one_tells f.viable g.viable (ap (λ (x : Summary). x.viable) s) in
    let d : f.verdict ≡ g.verdict = ap (λ (x : Summary). x.verdict) s in
    let q : f ≡ g = rw (n, u, v, d) refl in
    ap Ok q
told_tells (Ok f) (Err g) e = cc
told_tells (Err f) (Ok g) e = cc
told_tells (Err f) (Err g) e = let n : number f ≡ number g = cc in ap Err (number_tells f g (ap storeRefused n))

-- two outcomes that satisfy the call's equation for the same input are equal: answer and every word
pub figures_determined : (l : VerdictLeft) (u x p q : List ℕ) (a b : Result Figures Refusal) → verdict_left (told a) u p ≡ l → verdict_left (told b) x q ≡ l → (a ≡ b) × (u ≡ x) × (p ≡ q)
figures_determined l u x p q a b d e =
    let f = d ∙ sym e in
    (told_tells a b (ap (λ (m : VerdictLeft). m.reply) f), ap (λ (m : VerdictLeft). m.scratch) f, ap (λ (m : VerdictLeft). m.output) f)
