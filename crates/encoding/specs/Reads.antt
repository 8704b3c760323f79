-- What sound words say of one record: its kind, and the words that go with that kind. Nothing here has to be believed.
use Rattle.std.specs.Prelude.{◌≡◌, refl, ◌⊎◌, List, ℕ, zero, suc, ◌<◌, ◌≤◌, ◌+◌, ◌-◌}
use Rattle.std.proofs.Common.{sym, ap, ◌∙◌, inl, inr, arith}
use Rattle.words.specs.Numbers.{two}
use Rattle.layout.specs.Layout.{stop, count, used, kind, first, second, parent, state}
use Rattle.arena.specs.Kinds.{size}
use Rattle.arena.proofs.KindsLaws.{room_many}
use Rattle.arena.specs.Room.{room, pool}
use Rattle.layout.specs.Listing.Laws.{Entries, listing_size}
use Rattle.layout.specs.Decode.{node_in, store_in}
use Rattle.layout.specs.Decode.Laws.{node_zero, node_one, node_many}
use Rattle.layout.specs.Sound.{SoundWords}

-- ---- the pool entries of the first records

-- the pool entries of the arrays among the first c records
unfoldable pub lengths : List ℕ → ℕ → ℕ
lengths w zero = 0
lengths w (suc c) = lengths w c + array_length (kind w c) (second w c)
  where
    array_length : ℕ → ℕ → ℕ
    array_length zero b = 0
    array_length (suc zero) b = 0
    array_length (suc (suc k)) b = b

module _ (w : List ℕ) (c : ℕ) where
  pub lengths_zero : kind w c ≡ 0 → lengths w (suc c) ≡ lengths w c
  unfolding lengths
  lengths_zero e = rw e (omega arith)

  pub lengths_one : kind w c ≡ 1 → lengths w (suc c) ≡ lengths w c
  unfolding lengths
  lengths_one e = rw e (omega arith)

  pub lengths_two : kind w c ≡ 2 → lengths w (suc c) ≡ lengths w c + second w c
  unfolding lengths
  lengths_two e = rw e

pub lengths_up : (w : List ℕ) (c : ℕ) → lengths w c ≤ lengths w (suc c)
unfolding lengths
lengths_up w c = omega arith

pub lengths_le : (w : List ℕ) (c d : ℕ) → c ≤ d → lengths w c ≤ lengths w d
lengths_le w zero zero h = omega arith
lengths_le w (suc c) zero h = absurd (omega arith)
lengths_le w c (suc d) h =
    two c (suc d) (λ e. rw e (omega arith)) (λ n. omega (arith, lengths_le w c d (omega arith), lengths_up w d))

-- ---- a record of sound words

module _ (w : List ℕ) (v : SoundWords w) (c : ℕ) (h : c < count w) where
  -- context 0 alone has kind 0
  pub kind_zero : kind w c ≡ 0 → c ≡ 0
  kind_zero e =
      two c 0 (λ z. z) (λ n. absurd (go (v.kinds c (omega arith) h)))
    where
      go : (kind w c ≡ 1) ⊎ (kind w c ≡ 2) → ⊥
      go (inl k) = omega arith
      go (inr k) = omega arith

  -- the kind is 0, 1 or 2
  pub kind? {ℓ} : {X : Type ℓ} → (kind w c ≡ 0 → X) → (kind w c ≡ 1 → X) → (kind w c ≡ 2 → X) → X
  kind? {X = X} zeroth one many = two c 0 (λ z. zeroth (rw z v.root.0)) (λ n. go (v.kinds c (omega arith) h))
    where
      go : (kind w c ≡ 1) ⊎ (kind w c ≡ 2) → X
      go (inl k) = one k
      go (inr k) = many k

  pub kind_most : kind w c ≤ 2
  kind_most = kind? (λ e. omega arith) (λ e. omega arith) (λ e. omega arith)

  -- kind 1: the parent is older, and the state is no `$`
  pub single_reads : kind w c ≡ 1 → (first w c < c) × (second w c < stop)
  single_reads e = (v.older c h e, omega (arith, v.single c h e))

  -- kind 2: sound entries, within the part of the pool that is in use
  pub array_entries : kind w c ≡ 2 → Entries (state w) (parent w) (first w c) (second w c) c
  array_entries e =
      let at : (j : ℕ) → first w c ≤ j → first w c + (j - first w c) ≡ j = λ j a. omega arith in
      let after : (j : ℕ) → first w c ≤ j → first w c + suc (j - first w c) ≡ suc j = λ j a. omega arith in
      record {
        fit = λ j a b. omega (arith, v.fit c (j - first w c) h e (omega arith), ap (state w) (at j a));
        older = λ j a b. omega (arith, v.older_entries c (j - first w c) h e (omega arith), ap (parent w) (at j a));
        rise = λ j a b. omega (arith, v.rise c (j - first w c) h e (omega arith), ap (state w) (at j a), ap (state w) (after j a));
        dollar = λ j a b s. sym (ap (parent w) (at j a)) ∙ v.dollar c (j - first w c) h e (omega arith) (ap (state w) (at j a) ∙ s);
      }

-- ---- the pool entries of the first records, by the words and by the store

-- a record of kind 0, of kind 1, or of kind 2 with two or more sound entries
pub data Sized (w : List ℕ) (c : ℕ) : Type 0 where
  zeroth : kind w c ≡ 0 → Sized w c
  single : kind w c ≡ 1 → Sized w c
  several : kind w c ≡ 2 → 2 ≤ second w c → Entries (state w) (parent w) (first w c) (second w c) c → Sized w c

pub node_many_size : (w : List ℕ) (c : ℕ) → kind w c ≡ 2 → Entries (state w) (parent w) (first w c) (second w c) c → size (node_in w c) ≡ second w c
node_many_size w c e v = ap size (node_many w c e) ∙ listing_size (state w) (parent w) (first w c) (second w c) c v

sized_lengths : (w : List ℕ) (c : ℕ) → Sized w c → lengths w (suc c) ≡ lengths w c + room (node_in w c)
unfolding room
sized_lengths w c (zeroth e) = lengths_zero w c e ∙ (rw (node_zero w c e) (omega arith))
sized_lengths w c (single e) = lengths_one w c e ∙ (rw (node_one w c e) (omega arith))
sized_lengths w c (several e h v) =
    let q : size (node_in w c) ≡ second w c = node_many_size w c e v in
    lengths_two w c e ∙ ap (λ (k : ℕ). lengths w c + k) (sym (room_many (node_in w c) (omega arith) ∙ q))

pub lengths_pool_of : (w : List ℕ) (c : ℕ) → ((d : ℕ) → d < c → Sized w d) → lengths w c ≡ pool (store_in w c)
unfolding lengths store_in pool
lengths_pool_of w zero h = refl
lengths_pool_of w (suc c) h = sized_lengths w c (h c (omega arith)) ∙ (rw (lengths_pool_of w c (λ d l. h d (omega arith))))

module _ (w : List ℕ) (v : SoundWords w) where
  sound_sized : (c : ℕ) → c < count w → Sized w c
  sound_sized c h = kind? w v c h zeroth single (λ e. several e (v.long c h e) (array_entries w v c h e))

  lengths_pool : (c : ℕ) → c ≤ count w → lengths w c ≡ pool (store_in w c)
  lengths_pool c h = lengths_pool_of w c (λ d l. sound_sized d (omega arith))

  pub first_lengths : (c : ℕ) → c < count w → kind w c ≡ 2 → first w c ≡ lengths w c
  first_lengths c h e = v.filled c h e ∙ sym (lengths_pool c (omega arith))

  pub used_lengths : used w ≡ lengths w (count w)
  used_lengths = v.all_used ∙ sym (lengths_pool (count w) (omega arith))

  pub array_fits : (c : ℕ) → c < count w → kind w c ≡ 2 → first w c + second w c ≤ used w
  array_fits c h e = omega (arith, first_lengths c h e, used_lengths, lengths_two w c e, lengths_le w (suc c) (count w) h)
