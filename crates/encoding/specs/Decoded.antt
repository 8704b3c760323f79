-- Sound words hold a good store, and are the words of that store: with `encoded`, sound words are exactly those of a good store.
-- Nothing here has to be believed.
use Rattle.std.specs.Prelude.{◌≡◌, refl, ◌↔◌, List, length}
use Rattle.std.proofs.Common.{sym, ap, ◌∙◌, subst, arith}
use Prim.Native.Nat.{ℕ, zero, suc, ◌<◌, ◌≤◌}
use Rattle.arena.specs.Store.{Node, end, dollar, push, Store, nowhere, find}
use Rattle.arena.proofs.Soundness.{Rise, Full, Sound}
use Rattle.arena.proofs.Trees.{find?, find_at}
use Rattle.arena.specs.Kinds.{size}
use Rattle.arena.specs.Room.{pool}
use Rattle.arena.proofs.Below.{NodeBelow, StoreBelow}
use Rattle.layout.specs.Layout.{store_words, stop, count, kind, first, second, parent, state}
use Rattle.layout.specs.Listing.Laws.{listing_rise, listing_below, listing_full}
use Rattle.layout.specs.Decode.{node_in, store_in, store_of}
use Rattle.layout.specs.Decode.Laws.{store_length, store_node, node_zero, node_one, node_many}
use Rattle.layout.specs.Sound.{SoundWords}
use Rattle.layout.specs.Encode.{words_of}
use Rattle.encoding.specs.Reads.{kind_zero, kind?, single_reads, array_entries, node_many_size}
use Rattle.encoding.specs.Good.{GoodStore}
use Rattle.encoding.specs.Filled.{Filled, listing_filled}
use Rattle.encoding.specs.Held.{kind_word, first_word, second_word, in_pool, Recorded, Records, Held, held_unique}
use Rattle.encoding.specs.Written.{words_held}
use Rattle.encoding.specs.Encoded.{encoded}

-- ---- the store that sound words hold

module _ (w : List ℕ) (v : SoundWords w) where
  -- one record

  module _ (c : ℕ) (h : c < count w) where
    reads_rise : Rise 0 c (node_in w c)
    reads_rise =
        kind? w v c h
        (λ e. rw (node_zero w c e) tt)
        (λ e. rw (node_one w c e) (omega arith, (single_reads w v c h e).0, tt))
        (λ e. rw (node_many w c e) (listing_rise (state w) (parent w) 0 (first w c) (second w c) c (array_entries w v c h e) (λ l. omega arith)))

    reads_full : Full (node_in w c)
    reads_full =
        kind? w v c h
        (λ e. rw (node_zero w c e) tt)
        (λ e. rw (node_one w c e) tt)
        (λ e. rw (node_many w c e) (listing_full (state w) (parent w) (first w c) (second w c) (omega (arith, v.long c h e))))

    reads_below : NodeBelow stop (node_in w c)
    reads_below =
        kind? w v c h
        (λ e. rw (node_zero w c e) tt)
        (λ e. rw (node_one w c e) ((single_reads w v c h e).1, tt))
        (λ e. rw (node_many w c e) (listing_below (state w) (parent w) (first w c) (second w c) c (array_entries w v c h e)))

  reads_new : (c : ℕ) → c < count w → find (node_in w c) (store_in w c) ≡ nowhere
  reads_new c h =
      find? (node_in w c) (store_in w c)
      (λ d e.
      let k = find_at (node_in w c) (store_in w c) d e in
      let l : d < c = omega (arith, store_length w c) in
      absurd (v.differ d c l h (sym (store_node w c d l) ∙ k.1)))
      (λ e. e)

  -- the first records

  pub store_sound : (c : ℕ) → c ≤ count w → Sound (store_in w c)
  unfolding store_in
  store_sound zero h = tt
  store_sound (suc c) h = (rw (store_length w c) (reads_rise c h), reads_full c h, reads_new c h, store_sound c (omega arith))

  pub store_below : (c : ℕ) → c ≤ count w → StoreBelow stop (store_in w c)
  unfolding store_in
  store_below zero h = tt
  store_below (suc c) h = (reads_below c h, store_below c (omega arith))

  -- all of them

  pub decoded_good : GoodStore (store_of w)
  decoded_good =
      let n : length (store_of w) ≡ count w = store_length w (count w) in
      record {
        sound = store_sound (count w) (omega arith);
        below = store_below (count w) (omega arith);
        some = omega (arith, v.counted);
        fits = (omega (arith, v.counted), omega (arith, v.counted, v.all_used));
      }

-- ---- sound words hold it word by word

recorded_many : (w : List ℕ) (c i : ℕ) (n : Node) → 2 ≤ size n → kind w c ≡ 2 → first w c ≡ i → second w c ≡ size n → Filled (state w) (parent w) i n
    → Recorded w c i n
unfolding size kind_word first_word second_word in_pool
recorded_many w c i end h k a b f = absurd (omega arith)
recorded_many w c i dollar h k a b f = absurd (omega arith)
recorded_many w c i (push r p end) h k a b f = absurd (omega arith)
recorded_many w c i (push r p dollar) h k a b f = record { kinds = k; firsts = a; seconds = b; entries = f }
recorded_many w c i (push r p (push q o n)) h k a b f = record { kinds = k; firsts = a; seconds = b; entries = f }

recorded_zero : (w : List ℕ) (c i : ℕ) → kind w c ≡ 0 → first w c ≡ 0 → second w c ≡ 0 → Recorded w c i dollar
unfolding kind_word first_word second_word in_pool
recorded_zero w c i k a b = record { kinds = k; firsts = a; seconds = b; entries = tt }

recorded_one : (w : List ℕ) (c i : ℕ) → kind w c ≡ 1 → Recorded w c i (push (second w c) (first w c) end)
unfolding kind_word first_word second_word in_pool
recorded_one w c i k = record { kinds = k; firsts = refl; seconds = refl; entries = tt }

module _ (w : List ℕ) (v : SoundWords w) where
  reads_recorded : (c : ℕ) → c < count w → Recorded w c (pool (store_in w c)) (node_in w c)
  reads_recorded c h =
      kind? w v c h
      (λ e. let z : c ≡ 0 = kind_zero w v c h e in
      rw (node_zero w c e) (recorded_zero w c (pool (store_in w c)) e (ap (first w) z ∙ v.root.1) (ap (second w) z ∙ v.root.2)))
      (λ e. rw (node_one w c e) (recorded_one w c (pool (store_in w c)) e))
      (λ e.
      let k = array_entries w v c h e in
      let q : size (node_in w c) ≡ second w c = node_many_size w c e k in
      recorded_many w c (pool (store_in w c)) (node_in w c) (omega (arith, v.long c h e)) e (v.filled c h e) (sym q)
      (rw (node_many w c e, ← v.filled c h e) (listing_filled (state w) (parent w) (first w c) (second w c) c k)))

  reads_records : (c : ℕ) → c ≤ count w → Records w (store_in w c)
  unfolding store_in
  reads_records zero h = tt
  reads_records (suc c) h = (rw (store_length w c) (reads_recorded c h), reads_records c (omega arith))

  pub sound_held : length w ≡ store_words → Held w (store_of w)
  sound_held l =
      let n : length (store_of w) ≡ count w = store_length w (count w) in
      record {
        long = l;
        counts = sym n;
        uses = v.all_used;
        records = reads_records (count w) (omega arith);
        no_records = λ j a b. v.unused_records j (omega arith) b;
        no_parents = λ i a b. v.unused_parents i (omega arith) b;
        no_states = λ i a b. v.unused_states i (omega arith) b;
      }

-- Sound words are the words of the store that they hold, and that store is good.
pub decoded : (w : List ℕ) → length w ≡ store_words → SoundWords w → GoodStore (store_of w) × (w ≡ words_of (store_of w))
decoded w l v =
    let g : GoodStore (store_of w) = decoded_good w v in
    (g, held_unique w (words_of (store_of w)) (store_of w) (sound_held w v l) (words_held (store_of w) g.fits))

-- Words are sound exactly if they are the words of a good store.
pub sound_exactly : (w : List ℕ) → length w ≡ store_words → SoundWords w ↔ ((s : Store) × GoodStore s × (w ≡ words_of s))
sound_exactly w l = (
  λ v. let d = decoded w l v in (store_of w, d.0, d.1),
  λ h. subst SoundWords (sym h.2) (encoded h.0 h.1),
)
