-- The test decides soundness. Nothing here has to be believed.
use Rattle.std.specs.Prelude.{◌≡◌, refl, Bool, true, false, List, [], ◌∷◌, ℕ, suc, eqb, ltb, leb, length}
use Rattle.std.proofs.Common.{sym, subst, arith, eqb-true, eq-eqb, ltb-true, lt-ltb, leb-true, le-leb}
use Rattle.std.proofs.lemmas.Bool.{false≢true}
use Rattle.arena.specs.Store.{Node, end, dollar, push, Store, Found, at, nowhere, find}
use Rattle.arena.proofs.Soundness.{Rise, Full, Sound}
use Rattle.arena.specs.Kinds.{size}
use Rattle.words.specs.Bools.{and_left, and_right, both_true, is_false}
use Rattle.arena.proofs.Below.{NodeBelow, StoreBelow}
use Rattle.layout.specs.Layout.{store_words, most_contexts, stop}
use Rattle.layout.specs.Decode.{store_of}
use Rattle.layout.specs.Sound.{SoundWords}
use Rattle.layout.specs.Encode.{words_of}
use Rattle.layout.specs.Ceilings.{Fits}
use Rattle.encoding.specs.Good.{GoodStore}
use Rattle.encoding.specs.Written.{words_length}
use Rattle.encoding.specs.Encoded.{encoded}
use Rattle.encoding.specs.Decoded.{decoded}
use Rattle.encoding.specs.Decide.{same_words, rises, sound_store, fits, sound}

-- ---- each test decides what it says

pub same_words_lem : (w u : List ℕ) → same_words w u ≡ true → w ≡ u
unfolding same_words
same_words_lem [] [] e = refl
same_words_lem [] (y ∷ u) e = absurd (false≢true e)
same_words_lem (x ∷ w) [] e = absurd (false≢true e)
same_words_lem (x ∷ w) (y ∷ u) e = rw (eqb-true x y (and_left _ _ e), same_words_lem w u (and_right (eqb x y) _ e))

pub words_same : (w : List ℕ) → same_words w w ≡ true
unfolding same_words
words_same [] = refl
words_same (x ∷ w) = both_true (eqb x x) _ (eq-eqb x x refl) (words_same w)

rises_true : (lo c : ℕ) (n : Node) → rises lo c n ≡ true → Rise lo c n × NodeBelow stop n
unfolding rises
rises_true lo c end e = (tt, tt)
rises_true lo c dollar e = (tt, tt)
rises_true lo c (push r p n) e =
    let f = and_right (leb lo r) _ e in
    let g = and_right (ltb r stop) _ f in
    let rest = rises_true (suc r) c n (and_right (ltb p c) _ g) in
    ((leb-true lo r (and_left _ _ e), ltb-true p c (and_left _ _ g), rest.0), (ltb-true r stop (and_left _ _ f), rest.1))

true_rises : (lo c : ℕ) (n : Node) → Rise lo c n → NodeBelow stop n → rises lo c n ≡ true
unfolding rises
true_rises lo c end v b = refl
true_rises lo c dollar v b = refl
true_rises lo c (push r p n) v b =
    both_true (leb lo r) _ (le-leb lo r v.0)
    (both_true (ltb r stop) _ (lt-ltb r stop b.0) (both_true (ltb p c) _ (lt-ltb p c v.1) (true_rises (suc r) c n v.2 b.1)))

entry_true : (n : Node) → ltb 0 (size n) ≡ true → Full n
unfolding size
entry_true end e = false≢true e
entry_true dollar e = tt
entry_true (push r p n) e = tt

true_entry : (n : Node) → Full n → ltb 0 (size n) ≡ true
unfolding size
true_entry end h = absurd h
true_entry dollar h = refl
true_entry (push r p n) h = lt-ltb 0 (suc (size n)) (omega arith)

-- no older record is the same, and the older ones pass
nowhere_true : (f : Found) (b : Bool) → elim f [ at c ↦ false | nowhere ↦ b ] ≡ true → (f ≡ nowhere) × (b ≡ true)
nowhere_true (at c) b e = absurd (false≢true e)
nowhere_true nowhere b e = (refl, e)

true_nowhere : (f : Found) (b : Bool) → f ≡ nowhere → b ≡ true → elim f [ at c ↦ false | nowhere ↦ b ] ≡ true
true_nowhere f b e h = rw e h

pub sound_store_true : (s : Store) → sound_store s ≡ true → Sound s × StoreBelow stop s
unfolding sound_store
sound_store_true [] e = (tt, tt)
sound_store_true (n ∷ s) e =
    let f = and_right (rises 0 (length s) n) _ e in
    let g = nowhere_true (find n s) (sound_store s) (and_right (ltb 0 (size n)) _ f) in
    let rise = rises_true 0 (length s) n (and_left _ _ e) in
    let rest = sound_store_true s g.1 in
    ((rise.0, entry_true n (and_left _ _ f), g.0, rest.0), (rise.1, rest.1))

pub true_sound_store : (s : Store) → Sound s → StoreBelow stop s → sound_store s ≡ true
unfolding sound_store
true_sound_store [] v b = refl
true_sound_store (n ∷ s) v b =
    both_true (rises 0 (length s) n) _ (true_rises 0 (length s) n v.0 b.0)
    (both_true (ltb 0 (size n)) _ (true_entry n v.1) (true_nowhere (find n s) (sound_store s) v.2 (true_sound_store s v.3 b.1)))

pub fits_true : (s : Store) → fits s ≡ true → Fits s
unfolding fits
fits_true s e = (leb-true _ _ (and_left _ _ e), leb-true _ _ (and_right (leb (length s) most_contexts) _ e))

pub true_fits : (s : Store) → Fits s → fits s ≡ true
unfolding fits
true_fits s v = both_true (leb (length s) most_contexts) _ (le-leb _ _ v.0) (le-leb _ _ v.1)

-- ---- the test decides soundness of words

pub sound_true : (w : List ℕ) → length w ≡ store_words → sound w ≡ true → SoundWords w
unfolding sound
sound_true w l e =
    let s : Store = store_of w in
    let f = and_right (sound_store s) _ e in
    let g = and_right (ltb 0 (length s)) _ f in
    let v = sound_store_true s (and_left _ _ e) in
    let good : GoodStore s = record { sound = v.0; below = v.1; some = ltb-true 0 (length s) (and_left _ _ f); fits = fits_true s (and_left _ _ g) } in
    subst SoundWords (sym (same_words_lem w (words_of s) (and_right (fits s) _ g))) (encoded s good)

pub true_sound : (w : List ℕ) → length w ≡ store_words → SoundWords w → sound w ≡ true
unfolding sound
true_sound w l v =
    let s : Store = store_of w in
    let d = decoded w l v in
    both_true (sound_store s) _ (true_sound_store s d.0.sound d.0.below)
    (both_true (ltb 0 (length s)) _ (lt-ltb 0 (length s) d.0.some)
    (both_true (fits s) _ (true_fits s d.0.fits) (subst (λ (u : List ℕ). same_words w u ≡ true) d.1 (words_same w))))

-- the words of a good store pass
pub words_sound : (s : Store) → GoodStore s → sound (words_of s) ≡ true
words_sound s g = true_sound (words_of s) (words_length s) (encoded s g)

pub sound_false : (w : List ℕ) → length w ≡ store_words → (SoundWords w → ⊥) → sound w ≡ false
sound_false w l n = is_false (sound w) (λ e. n (sound_true w l e))

pub fits_false : (s : Store) → (Fits s → ⊥) → fits s ≡ false
fits_false s n = is_false (fits s) (λ e. n (fits_true s e))
