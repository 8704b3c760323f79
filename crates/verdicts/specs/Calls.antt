-- To believe: the calls on a set's subsets as functions of what came in, document 01's refusals in its order of checking.
-- w is the store's words, v the set's, z the scratch's, o the output's. Store and set are lent to read, and stay.
use Rattle.std.specs.Prelude.{Bool, true, false, ◌&&◌, List, [], ◌∷◌, ℕ, eqb, ltb, length}
use Rattle.store.specs.Calls.{zeros}
use Rattle.sets.specs.Words.{set_of}
use Rattle.store.specs.Checks.{Check, given, unless}
use Rattle.sets.specs.Calls.{lent_lengths, lent_checks}
use Rattle.groups.specs.Answers.{Answer, all_subsets_conflict, all_subsets_equal, single_viable_alt, unique_alt, verdict}
use Rattle.groups.specs.Reason.{Reason}
use Rattle.outputs.specs.Outputs.{subsets_length, alts_length, subsets_words, alts_words}

-- the number of subsets, the unique and the viable alternative, the verdict
pub record Summary : Type 0 where
  pub subsets : ℕ
  pub unique : Answer
  pub viable : Answer
  pub verdict : Bool

-- a refusal with its number; yes or no; an alternative, or none; words written; a summary; the reason of a verdict
pub data VerdictReply : Type 0 where
  refused : ℕ → VerdictReply
  says : Bool → VerdictReply
  alternative : Answer → VerdictReply
  written : VerdictReply
  summary : Summary → VerdictReply
  because : Reason → VerdictReply

-- the reply, and every word afterwards of what a call may write
pub record VerdictLeft : Type 0 where
  pub reply : VerdictReply
  pub scratch : List ℕ
  pub output : List ℕ

abbrev pub verdict_left : VerdictReply → List ℕ → List ℕ → VerdictLeft
verdict_left r z o = record { reply = r; scratch = z; output = o }

-- "Store, set and outputs stay as on entry; scratch is 0 (untouched on 2)"
unfoldable pub read_refusal : List ℕ → List ℕ → ℕ → VerdictLeft
read_refusal z o n = elim (eqb n 2) [ true ↦ verdict_left (refused n) z o | false ↦ verdict_left (refused n) zeros o ]

-- checks 2, with n words of output, 1 and 3, then those in `more`
abbrev pub read_checks : ℕ → List Check → List ℕ → List ℕ → List ℕ → List ℕ → List Check
read_checks n more w v z o = lent_checks (lent_lengths w v z && eqb (length o) n) w v more

-- then the reply r and the output p
unfoldable pub read_call : ℕ → List Check → List ℕ → List ℕ → List ℕ → List ℕ → VerdictReply → List ℕ → VerdictLeft
read_call n more w v z o r p = unless (read_checks n more w v z o) (read_refusal z o) (verdict_left r zeros p)

-- ---- the calls

unfoldable pub conflicting_alt_subsets_call : List ℕ → List ℕ → List ℕ → List ℕ → VerdictLeft
conflicting_alt_subsets_call w v z o = read_call subsets_length [] w v z o written (subsets_words (set_of v).configs)

unfoldable pub conflicting_alts_call : List ℕ → List ℕ → List ℕ → List ℕ → VerdictLeft
conflicting_alts_call w v z o = read_call alts_length [] w v z o written (alts_words (set_of v).configs)

unfoldable pub unique_alt_call : List ℕ → List ℕ → List ℕ → VerdictLeft
unique_alt_call w v z = read_call 0 [] w v z [] (alternative (unique_alt (set_of v).configs)) []

unfoldable pub single_viable_alt_call : List ℕ → List ℕ → List ℕ → VerdictLeft
single_viable_alt_call w v z = read_call 0 [] w v z [] (alternative (single_viable_alt (set_of v).configs)) []

unfoldable pub all_subsets_conflict_call : List ℕ → List ℕ → List ℕ → VerdictLeft
all_subsets_conflict_call w v z = read_call 0 [] w v z [] (says (all_subsets_conflict (set_of v).configs)) []

unfoldable pub all_subsets_equal_call : List ℕ → List ℕ → List ℕ → VerdictLeft
all_subsets_equal_call w v z = read_call 0 [] w v z [] (says (all_subsets_equal (set_of v).configs)) []

abbrev pub most_stops : ℕ
most_stops = 64

-- 10: more than 64 stop states
abbrev pub too_many_stops : List ℕ → List Check
too_many_stops stops = given 10 (ltb most_stops (length stops)) ∷ []

unfoldable pub verdict_call : List ℕ → List ℕ → List ℕ → List ℕ → VerdictLeft
verdict_call w v z stops = read_call 0 (too_many_stops stops) w v z [] (says (verdict stops (set_of v).configs)) []
