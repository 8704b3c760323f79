-- What a call may rely on once lengths, soundness and a context's number are checked. Nothing here has to be believed.
use Rattle.std.specs.Prelude.{◌≡◌, List, ℕ, ◌<◌, ◌≤◌, eqb, length, replicate, Result, Ok, Err}
use Rattle.std.proofs.Common.{sym, ap, ◌∙◌}
use Rattle.std.proofs.Math.Bool.{and-false}
use borrow.Author.Tests.{eq-eqb, ne_eqb, lt-ltb, le-ltb}
use Rattle.words.specs.Refusals.{number}
use Rattle.words.specs.declared.refusals.Refusal.{Refusal}
use Rattle.words.specs.declared.refusals.Refusal.TheVariants.{WrongLength, UnknownContext}
use Rattle.layout.specs.Layout.{store_words, scratch_words, blank, count}
use Rattle.layout.specs.Sound.{SoundWords}
use Rattle.encoding.proofs.DecideLaws.{sound_false, true_sound}
use Rattle.storecheck.specs.Check.{Ready}
use Rattle.store.specs.Calls.{refused, Left, leaves, zeros, kept}
use Rattle.store.specs.Nested.{if_lengths, if_sound, if_known, checked}

-- the store is ready, and the call goes on; or it is refused, and this is what it leaves
abbrev pub Opened : {A : Type 0} → List ℕ → List ℕ → Result A Refusal → List ℕ → Type 0
Opened w z (Ok _) u = Ready w u × ((go : Left) → checked w z go ≡ go)
Opened w z (Err f) u = (go : Left) → checked w z go ≡ leaves (refused (number f)) w u

-- and the context is known
abbrev pub Admits : List ℕ → List ℕ → ℕ → Result Unit Refusal → List ℕ → Type 0
Admits w z c (Ok _) u = Ready w u × (c < count w) × ((go : Left) → checked w z (if_known w c go) ≡ go)
Admits w z c (Err f) u = (go : Left) → checked w z (if_known w c go) ≡ leaves (refused (number f)) w u

-- ---- the checks, decided

module _ (w z : List ℕ) (go : Left) where
  pub short_store : (length w ≡ store_words → ⊥) → checked w z go ≡ leaves (refused 2) w z
  unfolding checked if_lengths
  short_store n = rw (ne_eqb (length w) store_words n, if_lengths)

  pub short_scratch : (length z ≡ scratch_words → ⊥) → checked w z go ≡ leaves (refused 2) w z
  unfolding checked if_lengths
  short_scratch n = rw (ne_eqb (length z) scratch_words n, and-false (eqb (length w) store_words), if_lengths)

  module _ (lw : length w ≡ store_words) (lz : length z ≡ scratch_words) where
    pub unsound : (SoundWords w → ⊥) → checked w z go ≡ kept (refused 1) w
    unfolding checked if_lengths if_sound
    unsound n = rw (eq-eqb (length w) store_words lw, eq-eqb (length z) scratch_words lz, if_lengths, sound_false w lw n, if_sound)

    pub sound_goes : SoundWords w → checked w z go ≡ go
    unfolding checked if_lengths if_sound
    sound_goes v = rw (eq-eqb (length w) store_words lw, eq-eqb (length z) scratch_words lz, if_lengths, true_sound w lw v, if_sound)

module _ (w : List ℕ) (c : ℕ) (go : Left) where
  pub known_goes : c < count w → if_known w c go ≡ go
  unfolding if_known
  known_goes h = rw (lt-ltb c (count w) h, if_known)

  pub unknown : count w ≤ c → if_known w c go ≡ kept (refused 4) w
  unfolding if_known
  unknown h = rw (le-ltb c (count w) h, if_known)

-- a cleared scratch
pub cleared : (z : List ℕ) → length z ≡ scratch_words → replicate (length z) 0 ≡ zeros
unfolding zeros blank
cleared z l = ap (λ (n : ℕ). replicate n 0) l

-- ---- a wrong length, told before the call asks

module _ (w z : List ℕ) (c : ℕ) where
  pub store_refused : (length w ≡ store_words → ⊥) → Admits w z c (Err WrongLength) z
  store_refused n = λ go. short_store w z (if_known w c go) n

  pub scratch_refused : (length z ≡ scratch_words → ⊥) → Admits w z c (Err WrongLength) z
  scratch_refused n = λ go. short_scratch w z (if_known w c go) n

-- ---- a refusal that `open` gave, and those of a context's number

pub refused_first : {A : Type 0} (w z u : List ℕ) (c : ℕ) (r : Result A Refusal) (f : Refusal) → r ≡ Err f → Opened w z r u → Admits w z c (Err f) u
refused_first w z u c r f e o = λ go. (rw e at o) (if_known w c go)

module _ {A : Type 0} (w z u : List ℕ) (c : ℕ) (r : Result A Refusal) (t : A) (e : r ≡ Ok t) (o : Opened w z r u) where
  pub opened_ready : Ready w u
  opened_ready = (rw e at o).0

  pub admits_known : c < count w → Admits w z c (Ok tt) u
  admits_known h = (opened_ready, h, λ go. (rw e at o).1 (if_known w c go) ∙ known_goes w c go h)

  pub admits_unknown : count w ≤ c → (y : List ℕ) → y ≡ zeros → Admits w z c (Err UnknownContext) y
  admits_unknown h y q = λ go. (rw e at o).1 (if_known w c go) ∙ unknown w c go h ∙ ap (λ (x : List ℕ). leaves (refused 4) w x) (sym q)
