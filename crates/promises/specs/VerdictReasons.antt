-- Promised: why this verdict (request A6). "Prove that the reason given is true of the set, that no earlier reason held, and that the two together force
-- the verdict." Nothing here has to be believed but what the statements say.
use Rattle.std.specs.Prelude.{◌≡◌, List, ℕ}
use Rattle.sets.specs.Config.{Config}
use Rattle.sets.specs.Words.{set_of}
use Rattle.groups.specs.Reason as Reasons
use Rattle.groups.specs.Reason.{Reason, Holds, NoEarlier}
use Rattle.groups.proofs.ReasonLaws.{reason_forces, reason_unique}
use Rattle.groups.specs.Answers.{verdict}
use Rattle.readers.specs.VerdictsCalls.{because, says, verdict_call}
use Rattle.readers.specs.ReasonsCalls.{reason_words, why_call}
use Rattle.readers.specs.Sentences.{why_holds, why_first, why_verdict, why_words}

-- w, v, z and o are the words lent as store, set, scratch and output; r is the reason answered
module _ (w v z stops o : List ℕ) (r : Reason) (e : (why_call w v z stops o).reply ≡ because r) where
  -- "the reason given is true of the set"
  pub true_of_the_set : Holds stops (set_of v).configs r
  true_of_the_set = why_holds w v z stops o r e

  -- "no earlier reason held"
  pub none_earlier : NoEarlier stops (set_of v).configs r
  none_earlier = why_first w v z stops o r e

  -- so the verdict's own call says what goes with the reason
  pub with_the_verdict : (verdict_call w v z stops).reply ≡ says (Reasons.says r)
  with_the_verdict = why_verdict w v z stops o r e

  -- the alternatives of a clash are written, rising, and before them their count; else zeros
  pub written : (why_call w v z stops o).output ≡ reason_words r
  written = why_words w v z stops o r e

-- "the two together force the verdict": of any reason that is true of the set and before which none held; and there is only one such
pub forces : (stops : List ℕ) (cs : List Config) (r : Reason) → Holds stops cs r → NoEarlier stops cs r → verdict stops cs ≡ Reasons.says r
forces = reason_forces

pub no_choice : (stops : List ℕ) (cs : List Config) (r q : Reason) → Holds stops cs r → NoEarlier stops cs r → Holds stops cs q → NoEarlier stops cs q → r ≡ q
no_choice = reason_unique
