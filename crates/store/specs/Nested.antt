-- The checks of a call one inside the other, as code goes through them, and that the list of checks says the same. Nothing here has to be believed.
use Rattle.std.specs.Prelude.{◌≡◌, true, false, not, ◌&&◌, List, [], ◌∷◌, ℕ, ltb, length}
use Rattle.std.proofs.Common.{ap, ◌∙◌}
use Rattle.std.proofs.Math.Dec.{eqb}
use Rattle.words.specs.Bools.{bool?}
use Rattle.layout.specs.Store.{Store}
use Rattle.layout.specs.Layout.{store_words, scratch_words, count as contexts}
use Rattle.layout.specs.Decode.{store_of}
use Rattle.encoding.specs.Decide.{sound, fits}
use Rattle.store.specs.Checks.{Check, given, unless}
use Rattle.store.specs.Calls.{Reply, refused, Left, leaves, kept, refusal, wrong_length, unsound_store, unknown_context, no_room, gives, asked}

unfoldable pub if_lengths : List ℕ → List ℕ → Left → Left
if_lengths w z go = elim (eqb (length w) store_words && eqb (length z) scratch_words) [ true ↦ go | false ↦ leaves (refused 2) w z ]

unfoldable pub if_sound : List ℕ → Left → Left
if_sound w go = elim (sound w) [ true ↦ go | false ↦ kept (refused 1) w ]

unfoldable pub if_known : List ℕ → ℕ → Left → Left
if_known w c go = elim (ltb c (contexts w)) [ true ↦ go | false ↦ kept (refused 4) w ]

unfoldable pub grown : List ℕ → ℕ × Store → Left
grown w x = elim (fits x.1) [ true ↦ gives (store_of w) x | false ↦ kept (refused 6) w ]

-- lengths and soundness
unfoldable pub checked : List ℕ → List ℕ → Left → Left
checked w z go = if_lengths w z (if_sound w go)

-- ---- one check of the list

module _ (w z : List ℕ) (cs : List Check) (go : Left) where
  lengths_nested : unless (wrong_length w z ∷ cs) (refusal w z) go ≡ if_lengths w z (unless cs (refusal w z) go)
  unfolding unless refusal if_lengths
  lengths_nested =
      bool? (eqb (length w) store_words && eqb (length z) scratch_words)
      (λ e. rw (e, unless, if_lengths))
      (λ e. rw (e, unless, if_lengths))

  sound_nested : unless (unsound_store w ∷ cs) (refusal w z) go ≡ if_sound w (unless cs (refusal w z) go)
  unfolding unless refusal if_sound
  sound_nested = bool? (sound w) (λ e. rw (e, unless, if_sound)) (λ e. rw (e, unless, if_sound))

  pub known_nested : (c : ℕ) → unless (unknown_context w c ∷ cs) (refusal w z) go ≡ if_known w c (unless cs (refusal w z) go)
  unfolding unless refusal if_known
  known_nested c = bool? (ltb c (contexts w)) (λ e. rw (e, unless, if_known)) (λ e. rw (e, unless, if_known))

  pub both_known_nested : (a b : ℕ)
      → unless (given 4 (not (ltb a (contexts w) && ltb b (contexts w))) ∷ cs) (refusal w z) go ≡ if_known w a (if_known w b (unless cs (refusal w z) go))
  unfolding unless refusal if_known
  both_known_nested a b =
      bool? (ltb a (contexts w))
      (λ e. bool? (ltb b (contexts w)) (λ f. rw (e, f, unless, if_known, if_known)) (λ f. rw (e, f, unless, if_known, if_known)))
      (λ e. rw (e, unless, if_known))

pub checked_nested : (w z : List ℕ) (cs : List Check) (go : Left)
    → unless (wrong_length w z ∷ unsound_store w ∷ cs) (refusal w z) go ≡ checked w z (unless cs (refusal w z) go)
unfolding checked
checked_nested w z cs go = lengths_nested w z (unsound_store w ∷ cs) go ∙ ap (if_lengths w z) (sound_nested w z cs go)

pub room_nested : (w z : List ℕ) (x : ℕ × Store) → unless (no_room x.1 ∷ []) (refusal w z) (gives (store_of w) x) ≡ grown w x
unfolding unless refusal grown
room_nested w z x = bool? (fits x.1) (λ e. rw (e, unless, grown)) (λ e. rw (e, unless, grown))

-- ---- a call that only reads

pub asked_nested : (w z : List ℕ) (c : ℕ) (r : Reply) → asked w z c r ≡ checked w z (if_known w c (kept r w))
unfolding asked unless
asked_nested w z c r = checked_nested w z (unknown_context w c ∷ []) (kept r w) ∙ ap (checked w z) (known_nested w z [] (kept r w) c)
