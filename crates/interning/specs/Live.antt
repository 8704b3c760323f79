-- A store that a call works on: its words are those of the store that they hold, and the scratch has their index. Nothing here has to be believed.
use Rattle.std.specs.Prelude.{◌≡◌, List, ℕ, ◌≤◌, length, get_or}
use Rattle.std.proofs.Common.{sym, ap, ◌∙◌, subst, arith}
use Rattle.arena.specs.Store.{Store}
use Rattle.layout.specs.Layout.{store_words, count, used}
use Rattle.layout.specs.Decode.{store_of}
use Rattle.layout.specs.Decode.Laws.{store_length}
use Rattle.layout.specs.Encode.{words_of}
use Rattle.layout.specs.Sound.{SoundWords}
use Rattle.encoding.specs.Good.{GoodStore}
use Rattle.encoding.specs.Reads.{kind_most, array_entries, array_fits}
use Rattle.encoding.specs.Written.{words_length, words_used}
use Rattle.encoding.specs.Encoded.{encoded, store_of_words}
use Rattle.encoding.specs.Decoded.{decoded}
use Rattle.index.specs.Index.{Indexed}
use Rattle.index.specs.Records.{Records, Stacked}
use Rattle.store.specs.Check.{Ready}

pub record Live (w z : List ℕ) : Type 0 where
  pub good : GoodStore (store_of w)
  pub words : w ≡ words_of (store_of w)
  pub index : Indexed (store_of w) z

-- entries on the stack, over such a store
pub record Pushed (w z : List ℕ) (at n : ℕ) : Type 0 where
  pub live : Live w z
  pub stacked : Stacked z at n (length (store_of w))

-- above the index the scratch is as it was
abbrev pub SameAbove : List ℕ → List ℕ → Type 0
SameAbove z u = (i : ℕ) → 2048 ≤ i → get_or u i 0 ≡ get_or z i 0

-- the call has grown the store to x: its number, its words, its index
pub record GrewTo (z u : List ℕ) (w : List ℕ) (x : ℕ × Store) (c : ℕ) : Type 0 where
  pub number : c ≡ x.0
  pub store : store_of w ≡ x.1
  pub live : Live w u
  pub above : SameAbove z u

-- ---- what such a store gives

module _ {w z : List ℕ} (v : Live w z) where
  pub live_length : length w ≡ store_words
  live_length = ap length v.words ∙ words_length (store_of w)

  pub live_sound : SoundWords w
  live_sound = subst SoundWords (sym v.words) (encoded (store_of w) v.good)

  pub live_count : count w ≡ length (store_of w)
  live_count = sym (store_length w (count w))

  pub live_used : used w ≡ Rattle.arena.specs.Room.pool (store_of w)
  live_used = ap used v.words ∙ words_used (store_of w) v.good.fits

  pub live_records : Records w (count w)
  live_records = record {
    sized = live_length;
    few = rw live_count v.good.fits.0;
    kinds = λ i h. kind_most w live_sound i h;
    long = λ i h k. live_sound.long i h k;
    within = λ i h k. omega (arith, array_fits w live_sound i h k, live_sound.counted.2);
    entries = λ i h k. array_entries w live_sound i h k;
    sound = v.good.sound;
  }

-- a checked store is live
pub ready_live : (w z : List ℕ) → Ready w z → Live w z
ready_live w z v = let d = decoded w v.sized v.sound in record { good = d.0; words = d.1; index = v.index }

-- the words of a good store, with its index, are live
pub words_live : (w z : List ℕ) (s : Store) → GoodStore s → w ≡ words_of s → Indexed s z → (store_of w ≡ s) × Live w z
words_live w z s g e i =
    let o : store_of w ≡ s = ap store_of e ∙ store_of_words s g in
    (o, record { good = rw o g; words = rw o e; index = rw o i })
