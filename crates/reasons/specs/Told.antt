-- What each outcome of the walk comes to: the reason, and the words of its alternatives. Nothing here has to be believed.
use Rattle.std.specs.Prelude.{◌≡◌, refl, true, false, List, [], ◌∷◌, ℕ, ◌<◌, length, get_or, take, drop, replicate, Some, None}
use Rattle.std.proofs.Common.{sym, ap, ap₂, ◌∙◌, arith, take_at}
use Rattle.store.specs.Layout.{blank}
use Rattle.groups.specs.Config.{Config}
use Rattle.groups.specs.Layout.{config_at, config_count, most_configs, set_words_length}
use Rattle.groups.specs.Groups.{subset}
use Rattle.groups.specs.Answers.{stopped}
use Rattle.groups.specs.Reason.{Reason, stop, none, one, clash, reason}
use Rattle.groups.proofs.ReasonLaws.{reason_stop}
use Rattle.grouping.specs.Clash.{configs_of}
use Rattle.grouping.specs.Led.{Lent}
use Rattle.grouping.specs.FirstMarked.{FirstPicked}
use Rattle.grouping.specs.declared.inner.traits.Alike.TheVariants.{State, Place}
use Rattle.grouping.specs.declared.inner.marks.Picks.TheVariants.{Rivals}
use Rattle.outputs.specs.Outputs.{alts_length, padded}
use Rattle.outputs.specs.Members.{alts_at}
use Rattle.verdicts.specs.Calls.{VerdictReply, because}
use Rattle.reasons.specs.Calls.{clashing, reason_words}
use Rattle.reasons.specs.Because.{clash_first, clash_none, lone_first, lone_none, because_none, because_one, because_clash}

pub few : {v z : List ℕ} {i : ℕ} → Lent v z → i < config_count v → (length v ≡ set_words_length) × (i < most_configs)
few l h = (l.sized, omega (arith, l.few))

pub cleared : (o u : List ℕ) → length o ≡ alts_length → u ≡ replicate (length o) 0 → u ≡ blank alts_length
unfolding blank
cleared o u l e = e ∙ ap (λ (n : ℕ). replicate n 0) l

-- the words that tell no alternatives
none_written : blank alts_length ≡ padded alts_length (0 ∷ [])
unfolding padded blank
none_written = refl

-- and those that tell some
pub read_back : (xs : List ℕ) (o : List ℕ) → o ≡ padded alts_length (length xs ∷ xs) → take (get_or o 0 0) (drop 1 o) ≡ xs
unfolding padded
read_back xs o e = rw e (take_at xs _ (length xs) refl)

module _ (stops v o : List ℕ) where
  abbrev cs : List Config
  cs = configs_of v

  -- the reply and the words of a reason
  abbrev pub Tells : VerdictReply → Type 0
  Tells r = (r ≡ because (reason stops cs)) × (o ≡ reason_words (reason stops cs))

  tells : (r : Reason) → r ≡ reason stops cs → o ≡ reason_words r → Tells (because r)
  tells r e q = (ap because e, q ∙ ap reason_words e)

  module _ (zero : o ≡ blank alts_length) where
    pub tells_stop : stopped stops cs ≡ true → Tells (because stop)
    unfolding reason_words clashing
    tells_stop e = tells stop (sym (reason_stop stops cs e)) (zero ∙ none_written)

    pub tells_none : stopped stops cs ≡ false → FirstPicked v Place Rivals true None → Tells (because none)
    unfolding reason_words clashing
    tells_none go c = tells none (because_none stops cs go (clash_none v c)) (zero ∙ none_written)

    pub tells_one : stopped stops cs ≡ false → (i : ℕ) → FirstPicked v Place Rivals true (Some i) → (j : ℕ) → FirstPicked v State Rivals false (Some j) → (s a : ℕ)
        → s ≡ (config_at v j).state → a ≡ (config_at v j).alternative → Tells (because (one s a))
    unfolding reason_words clashing subset
    tells_one go i c j l s a e f =
        tells (one s a) (ap₂ one e f ∙ because_one stops cs go _ _ _ (clash_first v i c) (config_at v j) (lone_first v j l)) (zero ∙ none_written)

  pub tells_clash : stopped stops cs ≡ false → (i : ℕ) → FirstPicked v Place Rivals true (Some i) → FirstPicked v State Rivals false None
      → o ≡ padded alts_length (length (alts_at v i) ∷ alts_at v i)
      → (s k : ℕ) → s ≡ (config_at v i).state → k ≡ (config_at v i).context → Tells (because (clash s k (take (get_or o 0 0) (drop 1 o))))
  unfolding reason_words clashing subset
  tells_clash go i c n q s k e f =
      let back = read_back (alts_at v i) o q in
      tells (clash s k (take (get_or o 0 0) (drop 1 o)))
      ((rw (e, f, back)) ∙ because_clash stops cs go _ _ _ (clash_first v i c) (lone_none v n))
      (rw back q)
