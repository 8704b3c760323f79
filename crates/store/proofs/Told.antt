-- A reply tells its answer: a refusal's number is no other refusal's. Nothing here has to be believed.
use Rattle.std.specs.Prelude.{◌≡◌, refl, ◌↔◌, true, List, [], ◌∷◌, ℕ, length, get_or}
use Rattle.std.proofs.Common.{sym, ap, ◌∙◌}
use Rattle.words.specs.declared.refusals.Refusal.{Refusal}
use Rattle.words.specs.declared.refusals.Refusal.TheVariants.{WrongLength, UnsoundStore, UnsoundSet, TooManyStops, ReadOnlySet, UnknownContext, StateOutOfRange, FullSet, FullStore, TooMuchWork}
use Rattle.words.specs.declared.refusals.Refusal.TheVariants.{MalformedRecord}
use Rattle.words.specs.Refusals.{number}
use Rattle.layout.specs.Store.{dollar}
use Rattle.layout.specs.Encode.{words_of}
use Rattle.encoding.specs.Good.Laws.{fresh_good}
use Rattle.encoding.specs.Decide.{sound}
use Rattle.encoding.proofs.DecideLaws.{words_sound}
use Rattle.words.specs.Numbers.{two, never}
use Rattle.layout.specs.Layout.{store_words}
use Rattle.store.proofs.FreshWords.{fresh_words, fresh_refused}
use Rattle.store.specs.Calls.{Reply, refused, done, fresh_call}
use Rattle.store.specs.Renewed.{renewed}
use Rattle.std.specs.Prelude.{Result, Ok, Err}

-- by number from 0 on; 0 and 11 are none's
refusals : List Refusal
refusals =
    WrongLength ∷ UnsoundStore ∷ WrongLength ∷ UnsoundSet ∷ UnknownContext ∷ StateOutOfRange ∷ FullStore ∷ ReadOnlySet ∷ FullSet
    ∷ MalformedRecord ∷ TooManyStops ∷ WrongLength ∷ TooMuchWork ∷ []

by_number : (f : Refusal) → get_or refusals (number f) WrongLength ≡ f
unfolding refusals
by_number WrongLength = refl
by_number UnsoundStore = refl
by_number UnsoundSet = refl
by_number TooManyStops = refl
by_number ReadOnlySet = refl
by_number UnknownContext = refl
by_number StateOutOfRange = refl
by_number FullSet = refl
by_number FullStore = refl
by_number TooMuchWork = refl
by_number MalformedRecord = refl

pub number_tells : (f g : Refusal) → refused (number f) ≡ refused (number g) → f ≡ g
number_tells f g e =
    let n : number f ≡ number g = cc in
    sym (by_number f) ∙ ap (λ (k : ℕ). get_or refusals k WrongLength) n ∙ by_number g

-- ---- a fresh store

-- two outcomes of `fresh` that satisfy its contract for the same words are equal
renewed_tells : (a b : Result Unit Refusal) → renewed a ≡ renewed b → a ≡ b
renewed_tells (Ok _) (Ok _) e = refl
renewed_tells (Ok _) (Err g) e = cc
renewed_tells (Err f) (Ok _) e = cc
renewed_tells (Err f) (Err g) e = ap Err (number_tells f g e)

pub fresh_determined : (w : List ℕ) (a b : Result Unit Refusal) (u v : List ℕ) → (renewed a, u) ≡ fresh_call w → (renewed b, v) ≡ fresh_call w → (a ≡ b) × (u ≡ v)
fresh_determined w a b u v p q =
    let e : ◌≡◌ {A = Reply × List ℕ} (renewed a, u) (renewed b, v) = p ∙ sym q in
    (renewed_tells a b (ap (λ (x : Reply × List ℕ). x.0) e), ap (λ (x : Reply × List ℕ). x.1) e)

-- its words are sound
pub fresh_sound : sound (words_of (dollar ∷ [])) ≡ true
fresh_sound = words_sound (dollar ∷ []) fresh_good

-- 2 exactly when the length is wrong, no other number, and then every word as it was
pub fresh_refused_exactly : (w : List ℕ) (n : ℕ) → ((fresh_call w).0 ≡ refused n) ↔ ((n ≡ 2) × (length w ≡ store_words → ⊥))
fresh_refused_exactly w n =
    two (length w) store_words
    (λ e. (λ q. absurd (never_both (ap (λ (x : Reply × List ℕ). x.0) (fresh_words w e) ∙ q)), λ r. absurd (r.1 e)))
    (λ d. let f = ap (λ (x : Reply × List ℕ). x.0) (fresh_refused w d) in (λ q. (number_is (f ∙ q), d), λ r. sym f ∙ ap refused (sym r.0)))
  where
    never_both : done ≡ refused n → ⊥
    never_both e = never (cc)

    number_is : refused 2 ≡ refused n → n ≡ 2
    number_is e = cc

pub fresh_refused_leaves : (w : List ℕ) → (length w ≡ store_words → ⊥) → fresh_call w ≡ (refused 2, w)
fresh_refused_leaves w n = sym (fresh_refused w n)
