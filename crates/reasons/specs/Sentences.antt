-- Request A6's sentences, of the call: the reason given is true of the set, no earlier reason held, and the two together force the verdict.
-- Refused exactly when that is due, and leaving all as it was. Nothing here has to be believed.
use Rattle.std.specs.Prelude.{◌≡◌, refl, Bool, true, false, not, ◌&&◌, List, [], ℕ, eqb, length}
use Rattle.std.proofs.Common.{sym, ◌∙◌, arith}
use Rattle.std.proofs.Math.Path.{ap}
use Rattle.store.specs.Calls.{zeros}
use Rattle.store.specs.Checks.Laws.{Clear, passed_clear, clear_passed}
use Rattle.groups.specs.Config.{Config}
use Rattle.groups.specs.Words.{set_of}
use Rattle.groups.specs.Calls.{lent_lengths, lent_checks}
use Rattle.groups.specs.Answers as Answers
use Rattle.groups.specs.Reason.{Reason, reason, Holds, NoEarlier}
use Rattle.groups.specs.Reason as Reasons
use Rattle.groups.proofs.ReasonLaws.{reason_holds, reason_first, reason_forces}
use Rattle.outputs.specs.Outputs.{alts_length}
use Rattle.verdicts.specs.Calls.{refused, says, because, VerdictLeft, verdict_left, read_refusal, read_checks, read_call, too_many_stops, verdict_call}
use Rattle.verdicts.specs.Refused.{refusal_reply, ask_refuses, Refuses}
use Rattle.reasons.specs.Calls.{reason_words, why_call}

because_no : (r : Reason) (k : ℕ) → because r ≡ refused k → ⊥
because_no r k e = let q : ◌≡◌ {A = ℕ} 0 1 = cc in omega arith

-- lengths that are right with the output are right without it
no_output : (a b : Bool) → not (a && b) ≡ false → not (a && true) ≡ false
no_output true b e = refl
no_output false b e = e

module _ (w v z stops o : List ℕ) where
  abbrev cs : List Config
  cs = (set_of v).configs

  -- refused exactly when that is due: as the verdict is, and for an output that has not 257 words
  pub why_refuses : Refuses (why_call w v z stops o) (read_checks alts_length (too_many_stops stops) w v z o) z o
  unfolding why_call
  why_refuses = ask_refuses alts_length (too_many_stops stops) w v z o _ _ (because_no _)

  module _ (r : Reason) (e : (why_call w v z stops o).reply ≡ because r) where
    passed : Clear (read_checks alts_length (too_many_stops stops) w v z o)
    unfolding why_call read_call
    passed =
        passed_clear (read_refusal z o) (verdict_left (because (reason stops cs)) zeros (reason_words (reason stops cs))) (λ l. l.reply ≡ because r)
        (λ n g. because_no r n (sym g ∙ refusal_reply z o n)) (read_checks alts_length (too_many_stops stops) w v z o) e

    goes : why_call w v z stops o ≡ verdict_left (because (reason stops cs)) zeros (reason_words (reason stops cs))
    unfolding why_call read_call
    goes = clear_passed (read_refusal z o) _ (read_checks alts_length (too_many_stops stops) w v z o) passed

    is_reason : r ≡ reason stops cs
    is_reason = let q : because (reason stops cs) ≡ because r = sym (ap (λ (l : VerdictLeft). l.reply) goes) ∙ e in cc

    -- The reason given is true of the set.
    pub why_holds : Holds stops cs r
    why_holds = rw is_reason (reason_holds stops cs)

    -- No earlier reason held.
    pub why_first : NoEarlier stops cs r
    why_first = rw is_reason (reason_first stops cs)

    -- The words written are the alternatives of the clash, or zeros.
    pub why_words : (why_call w v z stops o).output ≡ reason_words r
    why_words = ap (λ (l : VerdictLeft). l.output) goes ∙ ap reason_words (sym is_reason)

    -- The two together force the verdict.
    pub why_verdict : (verdict_call w v z stops).reply ≡ says (Reasons.says r)
    unfolding verdict_call read_call lent_checks
    why_verdict =
        ap (λ (l : VerdictLeft). l.reply)
        (clear_passed (read_refusal z []) (verdict_left (says (Answers.verdict stops cs)) zeros []) (read_checks 0 (too_many_stops stops) w v z [])
        (no_output (lent_lengths w v z) (eqb (length o) alts_length) passed.0, passed.1))
        ∙ ap says (reason_forces stops cs r why_holds why_first)
