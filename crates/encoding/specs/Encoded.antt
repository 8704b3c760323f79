-- The words of a good store are sound, and hold that store. Nothing here has to be believed.
use Rattle.std.specs.Prelude.{◌≡◌, refl, ◌⊎◌, List, [], ◌∷◌, ℕ, suc, ◌<◌, ◌≤◌, ◌+◌, length}
use Rattle.std.proofs.Common.{sym, ◌∙◌, ⊎_elim}
use Rattle.std.proofs.Math.Path.{ap}
use Rattle.std.proofs.Math.Logic.{inl, inr}
use native.Mathlib.Omega.{arith}
use Rattle.words.specs.Numbers.{two}
use Rattle.arena.specs.Store.{Node, end, dollar, push, Store, node_at}
use Rattle.arena.proofs.Soundness.{Rise, Full, Sound}
use Rattle.arena.proofs.Trees.{node_new, node_old, node_sound, nodes_differ}
use Rattle.arena.specs.Kinds.{size}
use Rattle.arena.specs.Room.{room, pool}
use Rattle.arena.proofs.Below.{NodeBelow, StoreBelow}
use Rattle.layout.specs.Layout.{stop, count, used, kind, first, second, parent, state}
use Rattle.layout.specs.Listing.Laws.{Entries}
use Rattle.layout.specs.Decode.{node_in, store_in, store_of}
use Rattle.layout.specs.Decode.Laws.{store_node, node_zero, node_one, node_many}
use Rattle.layout.specs.Sound.{SoundWords}
use Rattle.layout.specs.Encode.{words_of}
use Rattle.encoding.specs.Reads.{lengths, lengths_zero, lengths_one, lengths_two, Sized, zeroth, single, several, lengths_pool_of}
use Rattle.encoding.specs.Good.{GoodStore}
use Rattle.encoding.specs.Filled.{Filled, filled_listing, filled_entries}
use Rattle.encoding.specs.Held.{kind_word, first_word, second_word, in_pool, Recorded, Records, Held}
use Rattle.encoding.specs.Written.{words_held}

-- ---- a record that holds entries reads as these entries

many_node : (w : List ℕ) (c i : ℕ) (n : Node) → kind w c ≡ 2 → first w c ≡ i → second w c ≡ size n → Filled (state w) (parent w) i n → NodeBelow stop n
    → node_in w c ≡ n
many_node w c i n k a b f l = node_many w c k ∙ (rw (a, b) (filled_listing (state w) (parent w) i n f l))

pub recorded_node : (w : List ℕ) (c i : ℕ) (n : Node) → Recorded w c i n → Full n → NodeBelow stop n → node_in w c ≡ n
unfolding kind_word first_word second_word in_pool size
recorded_node w c i end r full b = absurd full
recorded_node w c i dollar r full b = node_zero w c r.kinds
recorded_node w c i (push q p end) r full b = node_one w c r.kinds ∙ (rw (r.firsts, r.seconds))
recorded_node w c i (push q p dollar) r full b = many_node w c i (push q p dollar) r.kinds r.firsts r.seconds r.entries b
recorded_node w c i (push q p (push t o n)) r full b = many_node w c i (push q p (push t o n)) r.kinds r.firsts r.seconds r.entries b

pub records_store : (w : List ℕ) (s : Store) → Records w s → Sound s → StoreBelow stop s → store_in w (length s) ≡ s
unfolding store_in
records_store w [] r v b = refl
records_store w (n ∷ s) r v b =
    rw (recorded_node w (length s) (pool s) n r.0 v.1 b.0, records_store w s r.1 v.3 b.1)

-- ---- where the pool entries of a record start

recorded_lengths : (w : List ℕ) (c i : ℕ) (n : Node) → Recorded w c i n → lengths w (suc c) ≡ lengths w c + room n
unfolding kind_word second_word size room
recorded_lengths w c i end r = lengths_zero w c r.kinds ∙ (omega arith)
recorded_lengths w c i dollar r = lengths_zero w c r.kinds ∙ (omega arith)
recorded_lengths w c i (push q p end) r = lengths_one w c r.kinds ∙ (omega arith)
recorded_lengths w c i (push q p dollar) r = lengths_two w c r.kinds ∙ (rw r.seconds)
recorded_lengths w c i (push q p (push t o n)) r = lengths_two w c r.kinds ∙ (rw r.seconds)

pub records_lengths : (w : List ℕ) (s : Store) → Records w s → lengths w (length s) ≡ pool s
unfolding lengths pool
records_lengths w [] r = refl
records_lengths w (n ∷ s) r = recorded_lengths w (length s) (pool s) n r.0 ∙ (rw (records_lengths w s r.1))

pub records_at : (w : List ℕ) (s : Store) → Records w s → (c : ℕ) → c < length s → Recorded w c (lengths w c) (node_at s c)
records_at w [] r c h = absurd (omega arith)
records_at w (n ∷ s) r c h =
    two c (length s)
    (λ e. rw (node_new n s c e, e, records_lengths w s r.1) r.0)
    (λ e. rw (node_old n s c (omega arith)) (records_at w s r.1 c (omega arith)))

pub node_below : (k : ℕ) (s : Store) → StoreBelow k s → (c : ℕ) → c < length s → NodeBelow k (node_at s c)
node_below k [] b c h = absurd (omega arith)
node_below k (n ∷ s) b c h =
    two c (length s)
    (λ e. rw (node_new n s c e) b.0)
    (λ e. rw (node_old n s c (omega arith)) (node_below k s b.1 c (omega arith)))

-- ---- what a record's words say

module _ (w : List ℕ) (c i : ℕ) where
  -- `$` alone: three zeros
  recorded_dollar : (n : Node) → Recorded w c i n → n ≡ dollar → (kind w c ≡ 0) × (first w c ≡ 0) × (second w c ≡ 0)
  unfolding kind_word first_word second_word
  recorded_dollar n r e = (r.kinds ∙ ap kind_word e, r.firsts ∙ ap (first_word i) e, r.seconds ∙ ap second_word e)

  -- any other list of entries: kind 1 or 2
  recorded_kinds : (n : Node) → Recorded w c i n → Full n → (n ≡ dollar → ⊥) → (kind w c ≡ 1) ⊎ (kind w c ≡ 2)
  unfolding kind_word
  recorded_kinds end r full k = absurd full
  recorded_kinds dollar r full k = absurd (k refl)
  recorded_kinds (push q p end) r full k = inl r.kinds
  recorded_kinds (push q p dollar) r full k = inr r.kinds
  recorded_kinds (push q p (push t o n)) r full k = inr r.kinds

  recorded_single : (n : Node) → Recorded w c i n → Rise 0 c n → NodeBelow stop n → kind w c ≡ 1 → (first w c < c) × (second w c < stop)
  unfolding kind_word first_word second_word
  recorded_single end r v b e = absurd (omega arith)
  recorded_single dollar r v b e = absurd (omega arith)
  recorded_single (push q p end) r v b e = (omega arith, omega arith)
  recorded_single (push q p dollar) r v b e = absurd (omega arith)
  recorded_single (push q p (push t o n)) r v b e = absurd (omega arith)

  -- two or more entries, in the pool from place i on
  record Array : Type 0 where
    long : 2 ≤ second w c
    starts : first w c ≡ i
    entries : Entries (state w) (parent w) (first w c) (second w c) c

  recorded_array : (n : Node) → Recorded w c i n → Rise 0 c n → NodeBelow stop n → kind w c ≡ 2 → Array
  unfolding kind_word first_word second_word in_pool size
  recorded_array end r v b e = absurd (omega arith)
  recorded_array dollar r v b e = absurd (omega arith)
  recorded_array (push q p end) r v b e = absurd (omega arith)
  recorded_array (push q p dollar) r v b e = record {
    long = omega arith;
    starts = r.firsts;
    entries = rw (r.firsts, r.seconds) (filled_entries (state w) (parent w) 0 c i (push q p dollar) r.entries v b (omega arith));
  }
  recorded_array (push q p (push t o n)) r v b e = record {
    long = omega arith;
    starts = r.firsts;
    entries = rw (r.firsts, r.seconds) (filled_entries (state w) (parent w) 0 c i (push q p (push t o n)) r.entries v b (omega arith));
  }

-- ---- words that hold a good store are sound

module _ (w : List ℕ) (s : Store) (v : Held w s) (g : GoodStore s) where
  pub held_store : store_of w ≡ s
  held_store = ap (store_in w) v.counts ∙ records_store w s v.records g.sound g.below

  at : (c : ℕ) → c < count w → Recorded w c (lengths w c) (node_at s c)
  at c h = records_at w s v.records c (omega (arith, v.counts))

  -- what the node of a record is
  record NodeGood (c : ℕ) : Type 0 where
    rise : Rise 0 c (node_at s c)
    full : Full (node_at s c)
    below : NodeBelow stop (node_at s c)

  good : (c : ℕ) → c < count w → NodeGood c
  good c h =
      let l : c < length s = omega (arith, v.counts) in
      record { rise = (node_sound s g.sound c l).0; full = (node_sound s g.sound c l).1; below = node_below stop s g.below c l }

  root_node : node_at s 0 ≡ dollar
  root_node = go (node_at s 0) (node_sound s g.sound 0 g.some)
    where
      go : (n : Node) → Rise 0 0 n × Full n → n ≡ dollar
      go end k = absurd k.1
      go dollar k = refl
      go (push r p n) k = absurd (omega arith)

  not_root : (c : ℕ) → 0 < c → c < count w → node_at s c ≡ dollar → ⊥
  not_root c h l e = omega (arith, nodes_differ s g.sound c 0 (omega (arith, v.counts)) g.some (e ∙ sym root_node))

  one : (c : ℕ) → c < count w → kind w c ≡ 1 → (first w c < c) × (second w c < stop)
  one c h e = recorded_single w c (lengths w c) (node_at s c) (at c h) (good c h).rise (good c h).below e

  many : (c : ℕ) → c < count w → kind w c ≡ 2 → Array w c (lengths w c)
  many c h e = recorded_array w c (lengths w c) (node_at s c) (at c h) (good c h).rise (good c h).below e

  kinds : (c : ℕ) → 0 < c → c < count w → (kind w c ≡ 1) ⊎ (kind w c ≡ 2)
  kinds c h l = recorded_kinds w c (lengths w c) (node_at s c) (at c l) (good c l).full (not_root c h l)

  root : (kind w 0 ≡ 0) × (first w 0 ≡ 0) × (second w 0 ≡ 0)
  root = recorded_dollar w 0 (lengths w 0) (node_at s 0) (at 0 (omega (arith, g.some, v.counts))) root_node

  sized : (c : ℕ) → c < count w → Sized w c
  sized c h =
      two c 0
      (λ z. zeroth (rw z root.0))
      (λ n. ⊎_elim (λ e. single e) (λ e. several e (many c h e).long (many c h e).entries) (kinds c (omega arith) h))

  reads_differ : (c d : ℕ) → c < d → d < count w → node_in w c ≡ node_in w d → ⊥
  reads_differ c d h l e =
      let is : (b : ℕ) → b < count w → node_at s b ≡ node_in w b =
      λ b k. ap (λ (u : Store). node_at u b) (sym held_store) ∙ store_node w (count w) b k in
      omega (arith, nodes_differ s g.sound c d (omega (arith, v.counts)) (omega (arith, v.counts)) (is c (omega arith) ∙ e ∙ sym (is d l)))

  pub held_sound : SoundWords w
  held_sound =
      let n : count w ≡ length s = v.counts in
      let u : used w ≡ pool s = v.uses in
      record {
        counted = (omega (arith, g.some), omega (arith, g.fits), omega (arith, g.fits));
        root = root;
        kinds = kinds;
        older = λ c h e. (one c h e).0;
        older_entries = λ c j h e l. (many c h e).entries.older (first w c + j) (omega arith) (omega arith);
        single = λ c h e. omega (arith, (one c h e).1);
        long = λ c h e. (many c h e).long;
        rise = λ c j h e l.
            let step : suc (first w c + j) ≡ first w c + suc j = omega arith in
            omega (arith, (many c h e).entries.rise (first w c + j) (omega arith) (omega arith), ap (state w) step);
        dollar = λ c j h e l. (many c h e).entries.dollar (first w c + j) (omega arith) (omega arith);
        fit = λ c j h e l. (many c h e).entries.fit (first w c + j) (omega arith) (omega arith);
        filled = λ c h e. (many c h e).starts ∙ lengths_pool_of w c (λ d l. sized d (omega arith));
        all_used = u ∙ ap pool (sym held_store);
        differ = reads_differ;
        unused_records = λ i h l. v.no_records i (omega arith) l;
        unused_parents = λ i h l. v.no_parents i (omega arith) l;
        unused_states = λ i h l. v.no_states i (omega arith) l;
      }

pub encoded : (s : Store) → GoodStore s → SoundWords (words_of s)
encoded s g = held_sound (words_of s) s (words_held s g.fits) g

pub store_of_words : (s : Store) → GoodStore s → store_of (words_of s) ≡ s
store_of_words s g = held_store (words_of s) s (words_held s g.fits) g

-- Two good stores of the same words are one store.
pub unique : (s u : Store) → GoodStore s → GoodStore u → words_of s ≡ words_of u → s ≡ u
unique s u g k e = sym (store_of_words s g) ∙ ap store_of e ∙ store_of_words u k
