-- What a call on a set may rely on once lengths, store and set are checked. Nothing here has to be believed.
use Rattle.std.proofs.Math.Path.{◌≡◌, ap}
use Rattle.std.specs.Prelude.{refl, Bool, true, false, ◌&&◌, List, [], ℕ, eqb, length, replicate, Result, Ok, Err}
use Rattle.std.proofs.Common.{sym, ◌∙◌, eq-eqb, ne_eqb}
use Rattle.std.proofs.Math.Bool.{and-false}
use native.Mathlib.Omega.{arith}
use Rattle.words.specs.Refusals.{number}
use Rattle.words.specs.declared.refusals.Refusal.{Refusal}
use Rattle.words.specs.declared.refusals.Refusal.TheVariants.{WrongLength, UnsoundSet}
use Rattle.layout.specs.Layout.{store_words, scratch_words, count as contexts}
use Rattle.layout.specs.Decode.{store_of}
use Rattle.layout.specs.Decode.Laws.{store_length}
use Rattle.store.specs.Decide.{sound}
use Rattle.store.specs.Grow.{index_frame}
use Rattle.store.specs.Check.{Ready}
use Rattle.store.specs.Calls.{none, Left, zeros, refused as notSet, leaves}
use Rattle.store.specs.Nested.{if_lengths, if_sound, checked}
use Rattle.store.specs.Admit.{Opened, cleared}
use Rattle.words.specs.Bools.{bool?}
use Rattle.sets.specs.Layout.{set_words_length, config_count}
use Rattle.sets.specs.Words.{SoundSet}
use Rattle.sets.proofs.Sound.{true_sound_set, sound_set_false}
use Rattle.store.specs.Checks.Laws.{Due, Clear}
use Rattle.sets.specs.Calls.{refused, set_left, refusal, lent_lengths, lent_checks}
use Rattle.setcheck.specs.Keys.{Keyed}
use Rattle.setcheck.specs.Judged.{SetVerdict}

-- store and set are sound, and the scratch has the store's index and the chains of the set's keys
pub record ReadySet (w v u : List ℕ) : Type 0 where
  pub store : Ready w u
  pub sized : length v ≡ set_words_length
  pub sound : SoundSet (contexts w) v
  pub keys : Keyed v (config_count v) u

abbrev pub OpenedSet : List ℕ → List ℕ → List ℕ → Result Unit Refusal → List ℕ → Type 0
OpenedSet w v z (Ok _) u = ReadySet w v u × Clear (lent_checks (lent_lengths w v z) w v [])
OpenedSet w v z (Err f) u = Due (number f) (lent_checks (lent_lengths w v z) w v []) × (refusal w v z (number f) ≡ set_left (refused (number f)) w v u)

-- ---- what the check of the store says of lengths and soundness

abbrev store_lengths : List ℕ → List ℕ → Bool
store_lengths w z = eqb (length w) store_words && eqb (length z) scratch_words

module _ (w z : List ℕ) (go : Left) where
  checked_short : store_lengths w z ≡ false → checked w z go ≡ leaves (notSet 2) w z
  unfolding checked if_lengths
  checked_short e = rw (e, if_lengths)

  checked_unsound : store_lengths w z ≡ true → sound w ≡ false → checked w z go ≡ leaves (notSet 1) w zeros
  unfolding checked if_lengths if_sound
  checked_unsound e f = rw (e, if_lengths) (rw (f, if_sound))

  checked_goes : store_lengths w z ≡ true → sound w ≡ true → checked w z go ≡ go
  unfolding checked if_lengths if_sound
  checked_goes e f = rw (e, if_lengths) (rw (f, if_sound))

module _ (w z u : List ℕ) where
  -- an outcome that is no refusal
  other : Left
  other = leaves none w zeros

  abbrev Outcome : ℕ → List ℕ → Left
  Outcome n x = leaves (notSet n) w x

  outcomes : (n m : ℕ) (x y : List ℕ) → Outcome n x ≡ Outcome m y → (n ≡ m) × (x ≡ y)
  outcomes n m x y e = let q : notSet n ≡ notSet m = ap (λ (l : Left). l.reply) e in (cc, ap (λ (l : Left). l.scratch) e)

  not_other : (n : ℕ) (x : List ℕ) → Outcome n x ≡ other → ⊥
  unfolding other
  not_other n x e = let q : notSet n ≡ none = ap (λ (l : Left). l.reply) e in let k : ◌≡◌ {A = ℕ} 0 1 = cc in omega arith

  pub ready_lengths : Opened {A = Unit} w z (Ok tt) u → (store_lengths w z ≡ true) × (sound w ≡ true)
  ready_lengths o =
      bool? (store_lengths w z)
      (λ e. bool? (sound w) (λ f. (e, f)) (λ f. absurd (not_other 1 zeros (sym (checked_unsound w z other e f) ∙ o.1 other))))
      (λ e. absurd (not_other 2 z (sym (checked_short w z other e) ∙ o.1 other)))

  -- a refusal of the store: 2 with the scratch as it was, or 1 with the scratch cleared
  pub refused_lengths {ℓ} : {X : Type ℓ} (f : Refusal) → Opened {A = Unit} w z (Err f) u
      → (store_lengths w z ≡ false → number f ≡ 2 → u ≡ z → X)
      → (store_lengths w z ≡ true → sound w ≡ false → number f ≡ 1 → u ≡ zeros → X)
      → X
  refused_lengths f o short unsound =
      bool? (store_lengths w z)
      (λ e. bool? (sound w)
      (λ g. absurd (not_other (number f) u (sym (o other) ∙ checked_goes w z other e g)))
      (λ g. let r = outcomes 1 (number f) zeros u (sym (checked_unsound w z other e g) ∙ o other) in unsound e g (sym r.0) (sym r.1)))
      (λ e. let r = outcomes 2 (number f) z u (sym (checked_short w z other e) ∙ o other) in short e (sym r.0) (sym r.1))

-- ---- the set's length beside them

module _ (w v z : List ℕ) where
  pub short_set : (length v ≡ set_words_length → ⊥) → OpenedSet w v z (Err WrongLength) z
  unfolding lent_checks lent_lengths refusal
  short_set n = (rw (ne_eqb (length v) set_words_length n, and-false (eqb (length w) store_words)), refl)

  -- a wrong length beside it, told before the set is opened
  pub short_lent_store : (length w ≡ store_words → ⊥) → OpenedSet w v z (Err WrongLength) z
  unfolding lent_checks lent_lengths refusal
  short_lent_store n = (rw (ne_eqb (length w) store_words n), refl)

  pub short_lent_scratch : (length z ≡ scratch_words → ⊥) → OpenedSet w v z (Err WrongLength) z
  unfolding lent_checks lent_lengths refusal
  short_lent_scratch n =
      (rw (ne_eqb (length z) scratch_words n, and-false (eqb (length v) set_words_length), and-false (eqb (length w) store_words)), refl)

  module _ (l : length v ≡ set_words_length) where
    lent_lengths_lem : lent_lengths w v z ≡ store_lengths w z
    unfolding lent_lengths
    lent_lengths_lem = rw (eq-eqb (length v) set_words_length l)

    pub refused_store : (f : Refusal) (u : List ℕ) → Opened {A = Unit} w z (Err f) u → OpenedSet w v z (Err f) u
    unfolding lent_checks refusal
    refused_store f u o =
        refused_lengths w z u f o
        (λ e n q. rw (n, q, lent_lengths_lem, e) (refl, refl))
        (λ e g n q. rw (n, q, lent_lengths_lem, e, g) ((refl, refl), refl))

    module _ (y u : List ℕ) (o : Opened {A = Unit} w z (Ok tt) y) where
      pub unsound_set : SetVerdict v y (contexts w) false u → (x : List ℕ) → x ≡ replicate (length u) 0 → OpenedSet w v z (Err UnsoundSet) x
      unfolding lent_checks refusal
      unsound_set s x e =
          let r = ready_lengths w z y o in
          rw (lent_lengths_lem, r.0, r.1, sound_set_false (contexts w) v s.0, e, cleared u s.1) ((refl, (refl, refl)), refl)

      pub ready_set : SetVerdict v y (contexts w) true u → OpenedSet w v z (Ok tt) u
      unfolding lent_checks
      ready_set s =
          let r = ready_lengths w z y o in
          let live = o.0 in (
            record {
              store = record {
                sized = live.sized;
                sound = live.sound;
                records = live.records;
                index = index_frame (store_of w) y u (rw (store_length w (contexts w)) live.sound.counted.1) s.1 s.3 live.index;
              };
              sized = l;
              sound = s.0;
              keys = s.2;
            },
            rw (lent_lengths_lem, r.0, r.1, true_sound_set (contexts w) v l s.0) (refl, (refl, (refl, tt))),
          )
