-- Over records as over the words of a sound set with those configs; and any two answers are equal. Nothing here has to be believed.
use Rattle.std.specs.Prelude.{◌≡◌, ℕ, Option, Result}
use Rattle.std.proofs.Common.{sym, ◌∙◌}
use Rattle.std.proofs.Math.Path.{ap}
use Rattle.std.proofs.Math.Bool.{and-true}
use mathlib.Core.List.{List, [], map}
use Rattle.sets.specs.StoreCalls.{zeros}
use Rattle.sets.specs.Checks.Laws.{clear_passed}
use Rattle.sets.specs.Config.{Config}
use Rattle.sets.specs.Words.{set_of}
use Rattle.sets.specs.Calls.{lent_lengths, lent_checks}
use Rattle.sets.proofs.Refusals.{SoundLent, lent_clear}
use Rattle.setcheck.specs.Configs.{config_of}
use Rattle.setcheck.specs.declared.config.AtnConfig.{AtnConfig}
use Rattle.deciding.specs.Answers.{unique_alt}
use Rattle.deciding.specs.OneAlt.{one_alt}
use Rattle.deciding.specs.OneAlt.Laws.{one_tells}
use Rattle.words.specs.declared.names.Alternative.{Alternative}
use Rattle.verdicts.specs.Calls.{VerdictReply, alternative, VerdictLeft, verdict_left, read_refusal, read_call, unique_alt_call}
use Rattle.verdicts.specs.Replies.{alt_found}
use Rattle.words.specs.declared.refusals.Refusal.{Refusal}

module _ (w v z : List ℕ) (s : SoundLent w v z) (cs : List AtnConfig) (same : map config_of cs ≡ (set_of v).configs) (r : Option Alternative)
    (e : one_alt r ≡ unique_alt (map config_of cs)) where
  -- a call whose lent words are sound answers
  answered : (x : VerdictReply) → read_call 0 [] w v z [] x [] ≡ verdict_left x zeros []
  unfolding read_call lent_checks
  answered x = rw (and-true (lent_lengths w v z)) (clear_passed (read_refusal z []) (verdict_left x zeros []) (lent_checks (lent_lengths w v z) w v []) (lent_clear w v z s))

  -- what the call over words replies
  pub as_words : (unique_alt_call w v z).reply ≡ alternative (one_alt r)
  unfolding unique_alt_call
  as_words = ap (λ (l : VerdictLeft). l.reply) (answered _) ∙ ap (λ (l : List Config). alternative (unique_alt l)) (sym same) ∙ ap alternative (sym e)

  -- and so what its code answers
  pub same_answer : (f : Result (Option Alternative) Refusal) (u o : List ℕ) → verdict_left (alt_found f) u o ≡ unique_alt_call w v z → alt_found f ≡ alternative (one_alt r)
  same_answer f u o d = ap (λ (l : VerdictLeft). l.reply) d ∙ as_words

-- two answers that satisfy the contract for the same records are equal
pub records_determined : (cs : List AtnConfig) (a b : Option Alternative) → one_alt a ≡ unique_alt (map config_of cs) → one_alt b ≡ unique_alt (map config_of cs) → a ≡ b
records_determined cs a b d e = one_tells a b (d ∙ sym e)
