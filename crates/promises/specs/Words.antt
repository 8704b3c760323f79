-- Words that pass the test hold a sound store, and what the layers ask of lent words. Nothing here has to be believed.
use Rattle.std.specs.Prelude.{◌≡◌, ◌↔◌, Bool, true, not, ◌&&◌, List, [], ◌∷◌, ℕ, ◌<◌, length}
use Rattle.std.proofs.Math.Path.{refl}
use Rattle.std.proofs.Common.{sym, ap, ◌∙◌, eq-eqb, lt-ltb}
use Rattle.std.proofs.lemmas.Bool.{not-true}
use Rattle.arena.proofs.Soundness.{Sound}
use Rattle.encoding.specs.Layout.{store_words, scratch_words, count as contexts}
use Rattle.encoding.specs.Sound.{SoundWords}
use Rattle.encoding.specs.Decode.{store_of}
use Rattle.encoding.specs.Decode.Laws.{store_length}
use Rattle.encoding.specs.Good.{GoodStore}
use Rattle.encoding.specs.Decoded.{decoded}
use Rattle.encoding.specs.Decide.{sound}
use Rattle.encoding.proofs.DecideLaws.{sound_true}
use Rattle.store.specs.Asks.{Known}
use Rattle.stacks.specs.Bools.{bool?, never_both, and_left, and_right, both_true}
use Rattle.stacks.specs.Numbers.{never}
use Rattle.store.specs.Checks.{Check, unless}
use Rattle.store.specs.Checks.Laws.{clear_of, clear_passed}
use Rattle.store.specs.Calls.{Reply, zeros, kept, refusal, asked, wrong_length, unsound_store, unknown_context}
use Rattle.sets.specs.Layout.{set_words_length}
use Rattle.sets.specs.Words.{SoundSet}
use Rattle.sets.specs.Config.{Config}
use Rattle.sets.specs.Calls.{SetReply, refused, done, SetLeft, set_left, set_left_after, lent_lengths, lent_checks, close_call}
use Rattle.sets.specs.Calls.{refusal as setRefusal}
use Rattle.sets.proofs.Refusals.{SoundLent, refusal_reply}

pub good : (w : List ℕ) → length w ≡ store_words → sound w ≡ true → GoodStore (store_of w)
good w l s = (decoded w l (sound_true w l s)).0

pub store_sound : (w : List ℕ) → length w ≡ store_words → sound w ≡ true → Sound (store_of w)
store_sound w l s = (good w l s).sound

pub known : (w : List ℕ) (c : ℕ) → c < contexts w → c < length (store_of w)
known w c h = rw (store_length w (contexts w)) h

pub asks : (w : List ℕ) → length w ≡ store_words → sound w ≡ true → (c : ℕ) → c < contexts w → Known w c
asks w l s c h = record { sized = l; sound = sound_true w l s; below = h }

pub lent : (w v z : List ℕ) → length w ≡ store_words → length v ≡ set_words_length → length z ≡ scratch_words → SoundWords w → SoundSet (contexts w) v
    → SoundLent w v z
lent w v z lw lv lz s t = record { store_length = lw; set_length = lv; scratch_length = lz; store_sound = s; set_sound = t }

-- a query on a known context of sound words answers
pub answers : (w z : List ℕ) (c : ℕ) (r : Reply) → length w ≡ store_words → length z ≡ scratch_words → sound w ≡ true → c < contexts w
    → asked w z c r ≡ kept r w
unfolding asked
answers w z c r lw lz s h =
    clear_passed (refusal w z) (kept r w) (wrong_length w z ∷ unsound_store w ∷ unknown_context w c ∷ [])
    (rw (eq-eqb (length w) store_words lw, eq-eqb (length z) scratch_words lz), (rw s, (rw (lt-ltb c (contexts w) h), tt)))

-- ---- an accepted call on a set leaves what it leaves where no reason holds

module _ (w v z : List ℕ) where
  same_left : (g : SetLeft) (r : SetReply) (w' v' : List ℕ) → g.reply ≡ r → g.store ≡ w' → g.set ≡ v' → g.scratch ≡ zeros → g.merges ≡ 0 → g.made ≡ 0
      → g ≡ set_left r w' v' zeros
  same_left g r w' v' a b c d e f =
      rw (← a, ← b, ← c, ← d)
      (ap (λ (n : ℕ). set_left_after n g.made g.reply g.store g.set g.scratch) e
      ∙ ap (λ (n : ℕ). set_left_after 0 n g.reply g.store g.set g.scratch) f)

  accepted : (cs : List Check) (go : SetLeft) (r : SetReply) (w' v' : List ℕ) → ((n : ℕ) → r ≡ refused n → ⊥) → go.scratch ≡ zeros → go.merges ≡ 0 → go.made ≡ 0
      → (unless cs (setRefusal w v z) go).reply ≡ r → (unless cs (setRefusal w v z) go).store ≡ w' → (unless cs (setRefusal w v z) go).set ≡ v'
      → unless cs (setRefusal w v z) go ≡ set_left r w' v' zeros
  accepted cs go r w' v' none k m f a b c =
      let e = (clear_of (setRefusal w v z) go (λ n x. x.reply ≡ refused n) (refusal_reply w v z) cs (λ n g. none n (sym a ∙ g))).1 in
      e ∙ same_left go r w' v' (ap (λ (x : SetLeft). x.reply) (sym e) ∙ a) (ap (λ (x : SetLeft). x.store) (sym e) ∙ b) (ap (λ (x : SetLeft). x.set) (sym e) ∙ c) k m f

  pub close_leaves : (w' v' : List ℕ) → ((close_call w v z).reply ≡ done) × ((close_call w v z).store ≡ w') × ((close_call w v z).set ≡ v')
      → close_call w v z ≡ set_left done w' v' zeros
  unfolding close_call
  close_leaves w' v' ok = accepted (lent_checks (lent_lengths w v z) w v []) _ done w' v' (λ n e. never (cc)) refl refl refl ok.0 ok.1 ok.2

-- ---- a check in words

-- of a test that must not fail
pub fails : (b : Bool) (P : Type 0) → (b ≡ true → P) → (P → b ≡ true) → (not b ≡ true) ↔ (P → ⊥)
fails b P so back = (λ e p. never_both (back p) (not-true b e), λ n. bool? b (λ t. absurd (n (so t))) (λ f. ap not f))

-- of two tests
pub two_hold : (a b : Bool) (P Q : Type 0) → (a ≡ true → P) → (P → a ≡ true) → (b ≡ true → Q) → (Q → b ≡ true)
    → ((a && b) ≡ true → P × Q) × (P × Q → (a && b) ≡ true)
two_hold a b P Q f g h k = (λ e. (f (and_left a b e), h (and_right a b e)), λ q. both_true a b (g q.0) (k q.1))
