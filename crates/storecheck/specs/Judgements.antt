-- From the judgements of the records to the verdict on the store, and back from soundness to each record. Nothing here has to be believed.
use Rattle.std.specs.Prelude.{◌≡◌, refl, ◌⊎◌, Bool, true, false, List, [], ℕ, suc, ◌<◌, ◌≤◌, ◌+◌, ◌*◌, ◌-◌, length}
use Rattle.std.proofs.Common.{sym, ◌∙◌, inl, inr}
use native.Mathlib.Omega.{arith}
use Rattle.words.specs.Numbers.{two}
use Rattle.words.specs.Hash.{hash_of, empty_words}
use Rattle.words.specs.Lent.{all_zero, cleared_range}
use Rattle.words.specs.Lent.Laws.{all_zero_at, all_zero_of}
use Rattle.arena.specs.Store.{dollar, find}
use Rattle.arena.proofs.Soundness.{Sound}
use Rattle.arena.proofs.Trees.{nodes_differ}
use Rattle.arena.specs.Room.{pool}
use Rattle.layout.specs.Layout.{store_words, scratch_words, count, used, kind, first, parent, state}
use Rattle.layout.specs.Decode.{node_in, store_in, store_of}
use Rattle.layout.specs.Decode.Laws.{store_length, store_node, node_zero}
use Rattle.layout.specs.Sound.{SoundWords}
use Rattle.recordcheck.specs.Reads.{lengths, lengths_zero, single_reads, array_entries, array_fits, kind?, Sized, zeroth, several, lengths_pool_of, first_lengths}
use Rattle.recordcheck.specs.Reads.{single as one}
use Rattle.recordcheck.specs.Decoded.{store_sound}
use Rattle.index.specs.Hash.{node_hash}
use Rattle.index.specs.Writes.{put_index}
use Rattle.index.specs.Grow.{index_empty, index_add}
use Rattle.recordcheck.specs.Check.{GoodRecord, single, array, Passed, Root, Unused, Ready, StoreJudged}
use Rattle.recordcheck.specs.Judge.{good_single, good_array}

-- ---- record 0

pub root_passed : (w z : List ℕ) (h : ℕ) → length w ≡ store_words → length z ≡ scratch_words → Root w → h ≡ hash_of empty_words
    → Passed w (put_index (cleared_range z 0 512) 0 h) 1 0
unfolding store_in lengths node_hash find
root_passed w z h lw lz r e =
    let n : node_in w 0 ≡ dollar = node_zero w 0 r.0 in
    record {
      records = record {
        sized = lw;
        few = omega arith;
        kinds = λ i l. let q : i ≡ 0 = omega arith in rw (q, r.0) (omega arith);
        long = λ i l k. let q : i ≡ 0 = omega arith in absurd (omega (arith, rw q at k, r.0));
        within = λ i l k. let q : i ≡ 0 = omega arith in absurd (omega (arith, rw q at k, r.0));
        entries = λ i l k. let q : i ≡ 0 = omega arith in absurd (omega (arith, rw q at k, r.0));
        sound = rw n (tt, tt, refl, tt);
      };
      index = rw n (index_add [] dollar (cleared_range z 0 512) h (omega arith) e (index_empty z lz));
      some = omega arith;
      root = r.0;
      filled = sym (lengths_zero w 0 r.0);
      within = omega arith;
      good = λ d a b. absurd (omega arith);
    }

-- ---- soundness gives each record

pub sound_record : (w : List ℕ) → SoundWords w → (c : ℕ) → 0 < c → c < count w → GoodRecord w c
unfolding store_in
sound_record w v c a h =
    let new : Sound (store_in w (suc c)) = store_sound w v (suc c) h in
    kind? w v c h
    (λ k. absurd (omega (arith, Rattle.recordcheck.specs.Reads.kind_zero w v c h k)))
    (λ k. let r = single_reads w v c h k in single k r.0 r.1 new.2)
    (λ k. array k (v.long c h k) (first_lengths w v c h k) (omega (arith, array_fits w v c h k, v.counted.2)) (array_entries w v c h k) new.2)

-- ---- the judgements give soundness

module _ (w z : List ℕ) (q : ℕ) (lw : length w ≡ store_words) (counts : (1 ≤ count w) × (count w ≤ 512) × (used w ≤ 2048)) (r : Root w)
    (p : Passed w z (count w) q) (full : q ≡ used w) (u : Unused w (count w) (used w)) where
  record_good : (c : ℕ) → c < count w → (kind w c ≡ 0 → ⊥) → GoodRecord w c
  record_good c h k = p.good c (two c 0 (λ e. absurd (k (rw e r.0))) (λ n. omega arith)) h

  single_good : (c : ℕ) → c < count w → (k : kind w c ≡ 1) → Rattle.recordcheck.specs.Judge.Single w c
  single_good c h k = good_single w c k (record_good c h (λ e. omega arith))

  array_good : (c : ℕ) → c < count w → (k : kind w c ≡ 2) → Rattle.recordcheck.specs.Judge.Array w c
  array_good c h k = good_array w c k (record_good c h (λ e. omega arith))

  differ : (c d : ℕ) → c < d → d < count w → node_in w c ≡ node_in w d → ⊥
  differ c d l h s =
      let e : c ≡ d = nodes_differ (store_of w) p.records.sound c d (omega (arith, store_length w (count w))) (omega (arith, store_length w (count w)))
      (store_node w (count w) c (omega arith) ∙ s ∙ sym (store_node w (count w) d h)) in
      omega arith

  one_or_two : (c : ℕ) → c < count w → GoodRecord w c → (kind w c ≡ 1) ⊎ (kind w c ≡ 2)
  one_or_two c h (single e a b f) = inl e
  one_or_two c h (array e a b d v f) = inr e

  sized : (c : ℕ) → c < count w → Sized w c
  sized c h = two c 0 (λ z. zeroth (rw z r.0)) (λ n. go (p.good c (omega arith) h))
    where
      go : GoodRecord w c → Sized w c
      go (single e a b f) = one e
      go (array e a b d v f) = several e a v

  in_pool_lem : (c : ℕ) → c ≤ count w → lengths w c ≡ pool (store_in w c)
  in_pool_lem c h = lengths_pool_of w c (λ d l. sized d (omega arith))

  pub sound_words : SoundWords w
  sound_words = record {
    counted = counts;
    root = r;
    kinds = λ c a h. one_or_two c h (p.good c a h);
    older = λ c h k. (single_good c h k).older;
    older_entries = λ c j h k l. (array_good c h k).entries.older (first w c + j) (omega arith) (omega arith);
    single = λ c h k. omega (arith, (single_good c h k).small);
    long = λ c h k. (array_good c h k).long;
    rise = λ c j h k l.
        let e : suc (first w c + j) ≡ first w c + suc j = omega arith in
        rw e at ((array_good c h k).entries.rise (first w c + j) (omega arith) (omega arith));
    dollar = λ c j h k l. (array_good c h k).entries.dollar (first w c + j) (omega arith) (omega arith);
    fit = λ c j h k l. (array_good c h k).entries.fit (first w c + j) (omega arith) (omega arith);
    filled = λ c h k. (array_good c h k).filled ∙ in_pool_lem c (omega arith);
    all_used = sym full ∙ p.filled ∙ in_pool_lem (count w) (omega arith);
    differ = differ;
    unused_records = u.records;
    unused_parents = u.parents;
    unused_states = u.states;
  }

  pub ready : Ready w z
  ready = record { sized = lw; sound = sound_words; records = p.records; index = p.index }

-- ---- what is left over

pub unused_of : (w : List ℕ) (c q : ℕ) → all_zero w (2 + 3 * c) 1538 ≡ true → all_zero w (1538 + q) 3586 ≡ true → all_zero w (3586 + q) 5634 ≡ true → Unused w c q
unfolding parent state
unused_of w c q a b d = record {
  records = λ i h k. all_zero_at w (2 + 3 * c) 1538 a i h k;
  parents = λ i h k. all_zero_at w (1538 + q) 3586 b (1538 + i) (omega arith) (omega arith);
  states = λ i h k. all_zero_at w (3586 + q) 5634 d (3586 + i) (omega arith) (omega arith);
}

module _ (w : List ℕ) (c q : ℕ) (u : Unused w c q) where
  pub zero_records : all_zero w (2 + 3 * c) 1538 ≡ true
  zero_records = all_zero_of w (2 + 3 * c) 1538 u.records

  pub zero_parents : all_zero w (1538 + q) 3586 ≡ true
  unfolding parent
  zero_parents = all_zero_of w (1538 + q) 3586 (λ j h k. let e : 1538 + (j - 1538) ≡ j = omega arith in rw e at (u.parents (j - 1538) (omega arith) (omega arith)))

  pub zero_states : all_zero w (3586 + q) 5634 ≡ true
  unfolding state
  zero_states = all_zero_of w (3586 + q) 5634 (λ j h k. let e : 3586 + (j - 3586) ≡ j = omega arith in rw e at (u.states (j - 3586) (omega arith) (omega arith)))

-- a sound store leaves no word over
pub sound_unused : (w : List ℕ) → SoundWords w → Unused w (count w) (used w)
sound_unused w v = record { records = v.unused_records; parents = v.unused_parents; states = v.unused_states }

-- a verdict whose answer is computed
pub judged_if : (w z : List ℕ) (b : Bool) → (b ≡ true → Ready w z) → (b ≡ false → SoundWords w → ⊥) → length z ≡ scratch_words → StoreJudged w b z
judged_if w z true is isnt l = is refl
judged_if w z false is isnt l = (isnt refl, l)
