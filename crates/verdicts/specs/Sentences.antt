-- Document 01's sentences on subsets, alternatives and the verdict, of calls that are not refused. Nothing here has to be believed.
use Rattle.std.specs.Prelude.{◌≡◌, ◌↔◌, Bool, true, ◌&&◌, ℕ, ◌≤◌, ltb, length}
use Rattle.std.proofs.Math.Path.{refl, ap}
use Rattle.std.proofs.Common.{sym, ◌∙◌, eq-eqb, le-ltb}
use Rattle.std.proofs.Math.Bool.{and-true}
use mathlib.Core.List.{List, [], ◌∷◌, flat_map}
use Rattle.std.proofs.Math.Dec.{eqb}
use Rattle.store.specs.Calls.{zeros}
use Rattle.sets.specs.Config.{Config}
use Rattle.sets.specs.Words.{set_of}
use Rattle.store.specs.Checks.{Check, given, unless}
use Rattle.store.specs.Checks.Laws.{Clear, clear_goes}
use Rattle.sets.specs.Calls.{lent_lengths, lent_checks}
use Rattle.sets.proofs.Refusals.{SoundLent, lent_clear}
use Rattle.groups.specs.Lists.{All}
use Rattle.groups.specs.Groups.{groups}
use Rattle.groups.specs.Answers.{Answer, only, conflicting_alts, all_subsets_conflict, all_subsets_equal, single_viable_alt, unique_alt, verdict}
use Rattle.groups.specs.Sentences.{Subsets, Many, ConflictUnion, AllEqual, Viable, Unique, VerdictYes}
use Rattle.groups.proofs.Rules.{subsets}
use Rattle.groups.proofs.Conflicts.{conflict_exact, conflicting_union}
use Rattle.groups.proofs.Equal.{equal_exact}
use Rattle.groups.proofs.Single.{unique_says, viable_says}
use Rattle.groups.proofs.Decided.{verdict_exact}
use Rattle.outputs.specs.Outputs.{subsets_length, alts_length, padded, group_words, subsets_words, alts_words}
use Rattle.verdicts.specs.Calls.{VerdictReply, says, alternative, VerdictLeft, verdict_left, read_refusal, read_call, most_stops}
use Rattle.verdicts.specs.Calls.{conflicting_alt_subsets_call, conflicting_alts_call, unique_alt_call, single_viable_alt_call, all_subsets_conflict_call, all_subsets_equal_call, verdict_call}

module _ (w v z : List ℕ) (s : SoundLent w v z) where
  abbrev cs : List Config
  cs = (set_of v).configs

  -- a call whose lent words are sound answers
  pub answered : (n : ℕ) (o : List ℕ) → length o ≡ n → (more : List Check) → Clear more → (r : VerdictReply) (p : List ℕ) → read_call n more w v z o r p ≡ verdict_left r zeros p
  unfolding read_call lent_checks unless
  answered n o e more c r p =
      let plain : (lent_lengths w v z && eqb (length o) n) ≡ lent_lengths w v z = rw (eq-eqb (length o) n e) (and-true (lent_lengths w v z)) in
      rw plain (clear_goes (read_refusal z o) (verdict_left r zeros p) (lent_checks (lent_lengths w v z) w v []) more (lent_clear w v z s)
      ∙ rest more c)
    where
      rest : (ms : List Check) → Clear ms → unless ms (read_refusal z o) (verdict_left r zeros p) ≡ verdict_left r zeros p
      rest [] d = refl
      rest (m ∷ ms) d = rw d.0 (rest ms d.1)

  -- ---- what a reply says

  says_exact : (b : Bool) (P : Type 0) → (b ≡ true) ↔ P → (l : VerdictLeft) → l ≡ verdict_left (says b) zeros [] → (l.reply ≡ says true) ↔ P
  says_exact b P d l e =
      let r : l.reply ≡ says b = ap (λ (x : VerdictLeft). x.reply) e in
      (λ q. d.0 (same b (sym r ∙ q)), λ p. r ∙ ap says (d.1 p))
    where
      same : (x : Bool) → says x ≡ says true → x ≡ true
      same x q = cc

  only_exact : (a : Answer) (P : ℕ → Type 0) → ((k : ℕ) → (a ≡ only k) ↔ P k) → (l : VerdictLeft)
      → l ≡ verdict_left (alternative a) zeros [] → (k : ℕ) → (l.reply ≡ alternative (only k)) ↔ P k
  only_exact a P d l e k =
      let r : l.reply ≡ alternative a = ap (λ (x : VerdictLeft). x.reply) e in
      (λ q. (d k).0 (same a (only k) (sym r ∙ q)), λ p. r ∙ ap alternative ((d k).1 p))
    where
      same : (x y : Answer) → alternative x ≡ alternative y → x ≡ y
      same x y q = cc

  -- `unique_alt` answers a exactly if every config has alternative a, and there is one
  pub unique_answers : (a : ℕ) → ((unique_alt_call w v z).reply ≡ alternative (only a)) ↔ Unique cs a
  unfolding unique_alt_call
  unique_answers = only_exact (unique_alt cs) (Unique cs) (unique_says cs) (unique_alt_call w v z) (answered 0 [] refl [] tt _ [])

  -- `single_viable_alt` answers a exactly if a is the smallest alternative of every subset, and there is one
  pub viable_answers : (a : ℕ) → ((single_viable_alt_call w v z).reply ≡ alternative (only a)) ↔ Viable (groups cs) a
  unfolding single_viable_alt_call
  viable_answers = only_exact (single_viable_alt cs) (Viable (groups cs)) (viable_says cs) (single_viable_alt_call w v z) (answered 0 [] refl [] tt _ [])

  -- `all_subsets_conflict` says yes exactly if every subset has two or more alternatives
  pub conflict_answers : ((all_subsets_conflict_call w v z).reply ≡ says true) ↔ All Many (groups cs)
  unfolding all_subsets_conflict_call
  conflict_answers = says_exact (all_subsets_conflict cs) (All Many (groups cs)) (conflict_exact cs) (all_subsets_conflict_call w v z) (answered 0 [] refl [] tt _ [])

  -- `all_subsets_equal` says yes exactly if any two subsets have the same alternatives
  pub equal_answers : ((all_subsets_equal_call w v z).reply ≡ says true) ↔ AllEqual (groups cs)
  unfolding all_subsets_equal_call
  equal_answers = says_exact (all_subsets_equal cs) (AllEqual (groups cs)) (equal_exact cs) (all_subsets_equal_call w v z) (answered 0 [] refl [] tt _ [])

  -- the verdict is document 01's
  pub verdict_answers : (stops : List ℕ) → length stops ≤ most_stops → ((verdict_call w v z stops).reply ≡ says true) ↔ VerdictYes stops cs
  unfolding verdict_call
  verdict_answers stops h =
      says_exact (verdict stops cs) (VerdictYes stops cs) (verdict_exact stops cs) (verdict_call w v z stops)
      (answered 0 [] refl (given 10 (ltb most_stops (length stops)) ∷ []) (le-ltb most_stops (length stops) h, tt) _ [])

  -- the subsets that are written are document 01's, and no others are
  pub subsets_written : (o : List ℕ) → length o ≡ subsets_length
      → Subsets cs (groups cs) × ((conflicting_alt_subsets_call w v z o).output ≡ padded subsets_length (length (groups cs) ∷ flat_map group_words (groups cs)))
  unfolding conflicting_alt_subsets_call subsets_words
  subsets_written o e = (subsets cs, ap (λ (l : VerdictLeft). l.output) (answered subsets_length o e [] tt _ _))

  -- and so are the alternatives of those with two or more
  pub alts_written : (o : List ℕ) → length o ≡ alts_length
      → ConflictUnion (groups cs) (conflicting_alts cs) × ((conflicting_alts_call w v z o).output ≡ padded alts_length (length (conflicting_alts cs) ∷ conflicting_alts cs))
  unfolding conflicting_alts_call alts_words
  alts_written o e = (conflicting_union cs, ap (λ (l : VerdictLeft). l.output) (answered alts_length o e [] tt _ _))
