-- From the tests of a record to its judgement, and from record to record. Nothing here has to be believed.
use Rattle.std.specs.Prelude.{◌≡◌, refl, Bool, true, false, List, ◌∷◌, ℕ, suc, ◌<◌, ◌≤◌, ◌+◌, ◌-◌, ◌*◌, length}
use Rattle.std.proofs.Common.{sym, ap, ◌∙◌, arith}
use Rattle.words.specs.Numbers.{two}
use Rattle.arena.specs.Store.{find, nowhere}
use Rattle.arena.proofs.Soundness.{Rise, Full}
use Rattle.layout.specs.Layout.{scratch_words, most_entries, stop, kind, first, second, parent, state}
use Rattle.layout.specs.Scratch.{stack_parent, stack_state}
use Rattle.layout.specs.Listing.Laws.{Entries, listing_rise, listing_full}
use Rattle.layout.specs.Decode.{node_in, store_in}
use Rattle.layout.specs.Decode.Laws.{store_length, node_one, node_many}
use Rattle.encoding.specs.Reads.{lengths, lengths_one, lengths_two}
use Rattle.index.specs.Records.{Records, Proper, stack_node}
use Rattle.index.specs.Index.{Indexed}
use Rattle.index.specs.Writes.{put_entry, Loaded}
use Rattle.index.specs.Grow.{index_frame, entry_length, entry_below, entry_parent_lem, entry_state_lem}
use Rattle.index.specs.Same.{single_node}
use Rattle.index.specs.Load.{loaded_node, loaded_stacked}
use Rattle.recordcheck.specs.Check.{GoodRecord, single, array, Passed, Fresh, FoundNew, Tells, EntryAt}

-- ---- a test whose answer is computed

pub tells_if : (P : Type 0) (b : Bool) → (b ≡ true → P) → (b ≡ false → P → ⊥) → Tells P b
tells_if P true is isnt = is refl
tells_if P false is isnt = isnt refl

-- ---- a list of pool entries, entry by entry

pub entries_of : (st pa : ℕ → ℕ) (from n c : ℕ) → ((j : ℕ) → st j ≤ stop) → ((i : ℕ) → i < n → EntryAt st pa from (from + i) c) → Entries st pa from n c
entries_of st pa from n c fit h = record {
  fit = λ j a b. fit j;
  older = λ j a b. (at j a b).older;
  rise = λ j a b. (at (suc j) (omega arith) b).rise j a refl;
  dollar = λ j a b. (at j a b).dollar;
}
  where
    at : (j : ℕ) → from ≤ j → j < from + n → EntryAt st pa from j c
    at j a b = let e : from + (j - from) ≡ j = omega arith in rw e at (h (j - from) (omega arith))

pub entry_of : (st pa : ℕ → ℕ) (from n c : ℕ) → Entries st pa from n c → (i : ℕ) → i < n → EntryAt st pa from (from + i) c
entry_of st pa from n c v i h = record {
  older = v.older (from + i) (omega arith) (omega arith);
  rise = λ j a e. rw (sym e) (v.rise j a (omega arith));
  dollar = v.dollar (from + i) (omega arith) (omega arith);
}

-- ---- what a good record is, by its kind

pub record Single (w : List ℕ) (c : ℕ) : Type 0 where
  pub older : first w c < c
  pub small : second w c < stop
  pub new : find (node_in w c) (store_in w c) ≡ nowhere

pub record Array (w : List ℕ) (c : ℕ) : Type 0 where
  pub long : 2 ≤ second w c
  pub filled : first w c ≡ lengths w c
  pub within : first w c + second w c ≤ most_entries
  pub entries : Entries (state w) (parent w) (first w c) (second w c) c
  pub new : find (node_in w c) (store_in w c) ≡ nowhere

pub good_single : (w : List ℕ) (c : ℕ) → kind w c ≡ 1 → GoodRecord w c → Single w c
good_single w c k (single e a b f) = record { older = a; small = b; new = f }
good_single w c k (array e a b d v f) = absurd (omega arith)

pub good_array : (w : List ℕ) (c : ℕ) → kind w c ≡ 2 → GoodRecord w c → Array w c
good_array w c k (single e a b f) = absurd (omega arith)
good_array w c k (array e a b d v f) = record { long = a; filled = b; within = d; entries = v; new = f }

pub good_kind : (w : List ℕ) (c : ℕ) → (kind w c ≡ 1 → ⊥) → (kind w c ≡ 2 → ⊥) → GoodRecord w c → ⊥
good_kind w c n m (single e a b f) = n e
good_kind w c n m (array e a b d v f) = m e

-- ---- one record more

-- a good record's entries are some, rise, and have older parents
good_rise : (w : List ℕ) (c : ℕ) → GoodRecord w c → Rise 0 c (node_in w c) × Full (node_in w c) × (find (node_in w c) (store_in w c) ≡ nowhere)
good_rise w c (single e a b f) = (rw (node_one w c e) (omega arith, a, tt), rw (node_one w c e) tt, f)
good_rise w c (array e a b d v f) = (
  rw (node_many w c e) (listing_rise (state w) (parent w) 0 (first w c) (second w c) c v (λ _. omega arith)),
  rw (node_many w c e) (listing_full (state w) (parent w) (first w c) (second w c) (omega arith)),
  f,
)

records_more : (w : List ℕ) (c : ℕ) → c < 512 → Records w c → GoodRecord w c → Records w (suc c)
unfolding store_in
records_more w c h r g = record {
  sized = r.sized;
  few = h;
  kinds = λ i l. two i c (λ e. rw e (most g)) (λ n. r.kinds i (omega arith));
  long = λ i l k. two i c (λ e. rw e (good_array w c (sym (ap (kind w) e) ∙ k) g).long) (λ n. r.long i (omega arith) k);
  within = λ i l k. two i c (λ e. rw e (good_array w c (sym (ap (kind w) e) ∙ k) g).within) (λ n. r.within i (omega arith) k);
  entries = λ i l k. two i c (λ e. rw e (good_array w c (sym (ap (kind w) e) ∙ k) g).entries) (λ n. r.entries i (omega arith) k);
  sound = let q = good_rise w c g in (rw (store_length w c) q.0, q.1, q.2, r.sound);
}
  where
    most : GoodRecord w c → kind w c ≤ 2
    most (single e a b f) = omega arith
    most (array e a b d v f) = omega arith

pub passed_more : (w z u : List ℕ) (c q p : ℕ) → c < 512 → Passed w z c q → GoodRecord w c → p ≡ lengths w (suc c) → p ≤ most_entries
    → Indexed (node_in w c ∷ store_in w c) u → Passed w u (suc c) p
unfolding store_in
passed_more w z u c q p h v g e l i = record {
  records = records_more w c h v.records g;
  index = i;
  some = omega arith;
  root = v.root;
  filled = e;
  within = l;
  good = λ d a b. two d c (λ k. rw k g) (λ n. v.good d a (omega arith));
}

-- ---- a singleton's one entry on the stack

module _ {w z : List ℕ} {c q : ℕ} (v : Passed w z c q) (h : c < 512) (k : kind w c ≡ 1) (a : first w c < c) (b : second w c < stop) where
  long_enough : 7936 + 2 * 0 + 1 < length z
  long_enough = omega (arith, v.index.sized)

  put_parent : stack_parent (put_entry z 0 (first w c) (second w c)) 0 ≡ first w c
  put_parent = entry_parent_lem z 0 (first w c) (second w c) long_enough

  put_state : stack_state (put_entry z 0 (first w c) (second w c)) 0 ≡ second w c
  put_state = entry_state_lem z 0 (first w c) (second w c) long_enough

  put_proper : Proper (put_entry z 0 (first w c) (second w c)) 0 1
  put_proper = record { some = omega arith; not_dollar = λ _. rw put_state b }

  pub single_put : stack_node (put_entry z 0 (first w c) (second w c)) 0 1 ≡ node_in w c
  single_put = single_node _ 0 put_proper ∙ (rw (put_state, put_parent)) ∙ sym (node_one w c k)

  pub single_fresh : Fresh w (put_entry z 0 (first w c) (second w c)) c 1
  single_fresh = record {
    records = v.records;
    few = h;
    index = index_frame (store_in w c) z _ (omega (arith, store_length w c)) (entry_length z 0 _ _ ∙ v.index.sized) (λ i l. entry_below z 0 _ _ i (omega arith)) v.index;
    stacked = record {
      sized = entry_length z 0 _ _ ∙ v.index.sized;
      room = omega arith;
      entries = record {
        fit = λ j x y. let e : j ≡ 0 = omega arith in rw (e, put_state) (omega arith);
        older = λ j x y. let e : j ≡ 0 = omega arith in rw (e, put_parent) a;
        rise = λ j x y. absurd (omega arith);
        dollar = λ j x y s. let e : j ≡ 0 = omega arith in absurd (omega (arith, sym put_state ∙ ap (stack_state _) (sym e) ∙ s));
      };
    };
    proper = put_proper;
  }

  pub single_good : (u : List ℕ) → FoundNew w (put_entry z 0 (first w c) (second w c)) c 1 true u → Passed w u (suc c) q
  single_good u f =
      passed_more w z u c q q h v (single k a b (rw single_put at f.0)) (v.filled ∙ sym (lengths_one w c k)) v.within (rw single_put at f.1)

  pub single_bad : (u : List ℕ) → FoundNew w (put_entry z 0 (first w c) (second w c)) c 1 false u → (GoodRecord w c → ⊥) × (length u ≡ scratch_words)
  single_bad u f = (λ g. f.0 (rw single_put (good_single w c k g).new), f.1)

-- ---- an array's entries on the stack

module _ {w z y : List ℕ} {c q : ℕ} (v : Passed w z c q) (h : c < 512) (k : kind w c ≡ 2) (f : first w c ≡ q) (l : 2 ≤ second w c) (m : q + second w c ≤ most_entries)
    (e : Entries (state w) (parent w) (first w c) (second w c) c) (d : Loaded w z (first w c) (second w c) 0 y) where
  pub array_put : stack_node y 0 (second w c) ≡ node_in w c
  array_put = loaded_node w z (first w c) (second w c) 0 y d ∙ sym (node_many w c k)

  pub array_fresh : Fresh w y c (second w c)
  array_fresh = record {
    records = v.records;
    few = h;
    index = index_frame (store_in w c) z y (omega (arith, store_length w c)) d.sized (λ i n. d.below i (omega arith)) v.index;
    stacked = loaded_stacked w z (first w c) (second w c) 0 y d c (omega arith) e;
    proper = record { some = omega arith; not_dollar = λ n. absurd (omega arith) };
  }

  pub array_good : (u : List ℕ) → FoundNew w y c (second w c) true u → Passed w u (suc c) (q + second w c)
  array_good u n =
      passed_more w z u c q (q + second w c) h v
      (array k l (f ∙ v.filled) (omega arith) e (rw array_put at n.0))
      (ap (λ (x : ℕ). x + second w c) v.filled ∙ sym (lengths_two w c k)) m (rw array_put at n.1)

  pub array_bad : (u : List ℕ) → FoundNew w y c (second w c) false u → (GoodRecord w c → ⊥) × (length u ≡ scratch_words)
  array_bad u n = (λ g. n.0 (rw array_put (good_array w c k g).new), n.1)

-- ---- the same, as the code has it: values read, and the scratch after each call

module _ {w z : List ℕ} {c q : ℕ} (v : Passed w z c q) (h : c < 512) where
  module _ (k : kind w c ≡ 1) {a b : ℕ} (ea : a ≡ first w c) (eb : b ≡ second w c) where
    pub single_not_older : c ≤ a → GoodRecord w c → ⊥
    single_not_older l g = omega (arith, (good_single w c k g).older)

    pub single_stop : b ≡ stop → GoodRecord w c → ⊥
    single_stop e g = omega (arith, (good_single w c k g).small)

    module _ (la : a < c) (lb : b < stop) (y : List ℕ) (e : y ≡ put_entry z 0 a b) where
      put_is : y ≡ put_entry z 0 (first w c) (second w c)
      put_is = e ∙ rw (ea, eb)

      less_first : first w c < c
      less_first = omega arith

      less_second : second w c < stop
      less_second = omega arith

      pub read_fresh : Fresh w y c 1
      read_fresh = rw put_is (single_fresh v h k less_first less_second)

      pub read_good : (u : List ℕ) → FoundNew w y c 1 true u → Passed w u (suc c) q
      read_good u f = single_good v h k less_first less_second u (rw put_is at f)

      pub read_bad : (u : List ℕ) → FoundNew w y c 1 false u → (GoodRecord w c → ⊥) × (length u ≡ scratch_words)
      read_bad u f = single_bad v h k less_first less_second u (rw put_is at f)

  module _ (k : kind w c ≡ 2) {a b : ℕ} (ea : a ≡ first w c) (eb : b ≡ second w c) where
    pub array_gap : (a ≡ q → ⊥) → GoodRecord w c → ⊥
    array_gap n g = n (ea ∙ (good_array w c k g).filled ∙ sym v.filled)

    pub array_short : b < 2 → GoodRecord w c → ⊥
    array_short l g = omega (arith, (good_array w c k g).long)

    pub array_past : a ≡ q → 2048 - q < b → GoodRecord w c → ⊥
    array_past e l g = omega (arith, (good_array w c k g).within, v.within)

    pub array_unsound : (Entries (state w) (parent w) a b c → ⊥) → GoodRecord w c → ⊥
    array_unsound n g = n (rw (ea, eb) (good_array w c k g).entries)

    module _ (f : a ≡ q) (l : 2 ≤ b) (m : q + b ≤ most_entries) (e : Entries (state w) (parent w) a b c) (y : List ℕ) (d : Loaded w z a b 0 y) where
      e' : Entries (state w) (parent w) (first w c) (second w c) c
      e' = rw (ea, eb) at e

      d' : Loaded w z (first w c) (second w c) 0 y
      d' = rw (ea, eb) at d

      pub many_fresh : Fresh w y c b
      many_fresh = rw eb (array_fresh v h k (omega arith) (omega arith) (omega arith) e' d')

      pub many_good : (u : List ℕ) → FoundNew w y c b true u → Passed w u (suc c) (q + b)
      many_good u n = rw eb (array_good v h k (omega arith) (omega arith) (omega arith) e' d' u (rw eb at n))

      pub many_bad : (u : List ℕ) → FoundNew w y c b false u → (GoodRecord w c → ⊥) × (length u ≡ scratch_words)
      many_bad u n = array_bad v h k (omega arith) (omega arith) (omega arith) e' d' u (rw eb at n)
