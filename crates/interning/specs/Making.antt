-- Interning, case by case: found, made, no room, or the empty context. Nothing here has to be believed.
use Rattle.std.specs.Prelude.{◌≡◌, refl, true, List, ◌∷◌, ℕ, suc, ◌<◌, ◌≤◌, ◌+◌, ◌-◌, get_or}
use Rattle.std.proofs.Math.Path.{sym, ap}
use Rattle.std.proofs.Common.{◌∙◌, subst, arith, add-one}
use Rattle.std.proofs.Math.ListN.{length}
use Rattle.arena.specs.Store.{Node, end, push, Store, same, find, at, nowhere}
use Rattle.arena.proofs.Soundness.{Rise, Full}
use Rattle.arena.specs.Place.{intern}
use Rattle.arena.proofs.Placed.{intern_found, intern_made, intern_self}
use Rattle.arena.proofs.Trees.{same_true}
use Rattle.arena.specs.Kinds.{size}
use Rattle.arena.proofs.KindsLaws.{intern_end, intern_dollar}
use Rattle.arena.specs.Room.{room, pool}
use Rattle.layout.specs.Layout.{stop, count, used}
use Rattle.layout.specs.Scratch.{stack_parent, stack_state}
use Rattle.layout.specs.Listing.{listing}
use Rattle.layout.specs.Listing.Laws.{entries_le, listing_rise, listing_full, listing_below, listing_size, listing_stop}
use Rattle.layout.specs.Decode.{node_in, store_of}
use Rattle.layout.specs.Decode.Laws.{store_node}
use Rattle.layout.specs.Ceilings.{Fits}
use Rattle.layout.specs.Encode.{put_record, put_counts, fill, written}
use Rattle.encoding.specs.Good.{GoodStore}
use Rattle.encoding.specs.Good.Laws.{good_more, words_grown}
use Rattle.index.specs.Hash.{hash, node_hash, node_hash_agree, node_hash_below, bucket_of}
use Rattle.index.specs.Index.{Indexed, Sought}
use Rattle.index.specs.Records.{Records, Stacked, Proper, stack_node, hash_in}
use Rattle.index.specs.Writes.{put_index}
use Rattle.index.specs.Grow.{index_add, put_other, bucket_small}
use Rattle.index.specs.Same.{single_node}
use Rattle.index.specs.Walk.{hash_held}
use Rattle.interning.specs.Live.{Live, Pushed, GrewTo, SameAbove, live_count, live_used, live_records, words_live}
use Rattle.interning.specs.Write.{written_array, written_single}
use Rattle.arena.proofs.KindsLaws.{room_many}
use Rattle.interning.specs.Interned.{More, Missing}

-- nothing is made
pub grown_same : (w z : List ℕ) (x : ℕ × Store) (c : ℕ) → Live w z → x ≡ (c, store_of w) → GrewTo z z w x c × More w 0 w
grown_same w z x c v e = (
  record { number = sym (ap (λ (y : ℕ × Store). y.0) e); store = sym (ap (λ (y : ℕ × Store). y.1) e); live = v; above = λ i h. refl },
  omega arith,
)

-- ---- entries that are pushed

module _ {w z : List ℕ} {place n : ℕ} (v : Pushed w z place n) where
  pub pushed_512 : Stacked z place n 512
  pushed_512 = record {
    sized = v.stacked.sized;
    room = v.stacked.room;
    entries = entries_le (stack_state z) (stack_parent z) place n (length (store_of w)) 512 v.live.good.fits.0 v.stacked.entries;
  }

  pushed_rise : Rise 0 (length (store_of w)) (stack_node z place n)
  pushed_rise = listing_rise (stack_state z) (stack_parent z) 0 place n (length (store_of w)) v.stacked.entries (λ _. omega arith)

  pub pushed_hash : (h : ℕ) → h ≡ node_hash (hash_in z) (stack_node z place n) → h ≡ node_hash (hash (store_of w)) (stack_node z place n)
  pushed_hash h e =
      e ∙ node_hash_agree (hash_in z) (hash (store_of w)) 0 (length (store_of w)) (stack_node z place n) pushed_rise
      (λ p l. hash_held (store_of w) z v.live.index p l)

  pub pushed_sought : Proper z place n → (h : ℕ) → h ≡ node_hash (hash (store_of w)) (stack_node z place n) → Sought w z (count w) place n h
  pushed_sought p h e = record {
    records = live_records v.live;
    index = v.live.index;
    stacked = rw (live_count v.live) v.stacked;
    proper = p;
    hashed = e;
  }

  -- a context that is there can be compared with them
  pub pushed_beside : Proper z place n → (c : ℕ) → c < length (store_of w) → (Records w (count w) × (c < count w)) × (Stacked z place n (count w) × Proper z place n)
  pushed_beside p c h = ((live_records v.live, rw (live_count v.live) h), (rw (live_count v.live) v.stacked, p))

  -- they are its entries
  pub side_pushed : (c : ℕ) → c < length (store_of w) → same (stack_node z place n) (node_in w c) ≡ true
      → GrewTo z z w (intern (store_of w) (stack_node z place n)) c × More w 0 w
  side_pushed c h e =
      let is = same_true _ _ e ∙ sym (store_node w (count w) c (rw (live_count v.live) h)) in
      grown_same w z _ c v.live (ap (intern (store_of w)) is ∙ intern_self (store_of w) v.live.good.sound c h)

  pub missing_of : Proper z place n → (h : ℕ) → h ≡ node_hash (hash (store_of w)) (stack_node z place n) → find (stack_node z place n) (store_of w) ≡ nowhere → Missing w z place n h
  missing_of p h e m = record { pushed = v; proper = p; hashed = e; missing = m }

  pub none_pushed : n ≡ 0 → GrewTo z z w (intern (store_of w) (stack_node z place n)) 0 × More w 0 w
  unfolding listing
  none_pushed e = grown_same w z _ 0 v.live (rw e (intern_end (store_of w) v.live.good.sound v.live.good.some))

  pub dollar_pushed : (n ≡ 0 → ⊥) → stack_state z place ≡ stop → GrewTo z z w (intern (store_of w) (stack_node z place n)) 0 × More w 0 w
  dollar_pushed d e =
      let k : n ≡ suc (n - 1) = omega arith in
      grown_same w z _ 0 v.live (rw (k, listing_stop (stack_state z) (stack_parent z) place (n - 1) e) (intern_dollar (store_of w) v.live.good.sound v.live.good.some))

  pub proper_of : (n ≡ 0 → ⊥) → (stack_state z place ≡ stop → ⊥) → Proper z place n
  proper_of d e = record {
    some = omega arith;
    not_dollar = λ _. omega (arith, v.stacked.entries.fit place (omega arith) (omega arith));
  }

  pub found_pushed : Proper z place n → (c : ℕ) → find (stack_node z place n) (store_of w) ≡ at c → GrewTo z z w (intern (store_of w) (stack_node z place n)) c × More w 0 w
  found_pushed p c e =
      grown_same w z _ c v.live
      (intern_found (stack_node z place n) (store_of w) (listing_full (stack_state z) (stack_parent z) place n p.some) c e)

-- ---- a record's words by the counts that the code reads

single_eq : (w : List ℕ) (a b q d p r : ℕ) → a ≡ b → q ≡ d → put_counts (put_record w a 1 p r) (a + 1) q ≡ put_counts (put_record w b 1 p r) (suc b) d
single_eq w a b q d p r e f = rw (add-one a, e, f)

array_eq : (w : List ℕ) (a b q d n : ℕ) (k : Node) → a ≡ b → q ≡ d
    → put_counts (put_record (fill w q k) a 2 q n) (a + 1) (q + n) ≡ put_counts (put_record (fill w d k) b 2 d n) (suc b) (d + n)
array_eq w a b q d n k e f = rw (add-one a, e, f)

-- ---- entries that no record has

module _ {w z : List ℕ} {place n h : ℕ} (v : Missing w z place n h) where
  new_full : Full (stack_node z place n)
  new_full = listing_full (stack_state z) (stack_parent z) place n v.proper.some

  made_is : intern (store_of w) (stack_node z place n) ≡ (length (store_of w), stack_node z place n ∷ store_of w)
  made_is = intern_made (stack_node z place n) (store_of w) new_full v.missing

  new_size : size (stack_node z place n) ≡ n
  new_size = listing_size (stack_state z) (stack_parent z) place n (length (store_of w)) v.pushed.stacked.entries

  pub no_context : 512 ≤ count w → Fits (intern (store_of w) (stack_node z place n)).1 → ⊥
  no_context l f = let g : Fits (stack_node z place n ∷ store_of w) = rw made_is at f in omega (arith, live_count v.pushed.live, g.0)

  pub no_entries : 2 ≤ n → 2048 - used w < n → Fits (intern (store_of w) (stack_node z place n)).1 → ⊥
  unfolding pool
  no_entries k l f =
      let g : Fits (stack_node z place n ∷ store_of w) = rw made_is at f in
      let r : room (stack_node z place n) ≡ n = room_many (stack_node z place n) (rw new_size k) ∙ new_size in
      omega (arith, live_used v.pushed.live, g.1, r)

  -- the record is written and indexed
  made : (w' u : List ℕ) → Fits (stack_node z place n ∷ store_of w) → w' ≡ written w (store_of w) (stack_node z place n) → u ≡ put_index z (count w) h
      → GrewTo z u w' (intern (store_of w) (stack_node z place n)) (count w) × More w 1 w'
  made w' u f ew eu =
      let s = store_of w in
      let k = stack_node z place n in
      let e : Rattle.layout.specs.Listing.Laws.Entries (stack_state z) (stack_parent z) place n (length s) = v.pushed.stacked.entries in
      let g : GoodStore (k ∷ s) = good_more s k v.pushed.live.good (pushed_rise v.pushed) new_full (listing_below (stack_state z) (stack_parent z) place n (length s) e) v.missing f in
      let c : count w ≡ length s = live_count v.pushed.live in
      let i : Indexed (k ∷ s) u = rw eu (subst (λ (x : ℕ). Indexed (k ∷ s) (put_index z x h)) (sym c) (index_add s k z h (omega (arith, f.0)) v.hashed v.pushed.live.index)) in
      let o = words_live w' u (k ∷ s) g (ew ∙ ap (λ (x : List ℕ). written x s k) v.pushed.live.words ∙ sym (words_grown s k)) i in (
        record { number = c ∙ sym (ap (λ (y : ℕ × Store). y.0) made_is); store = o.0 ∙ sym (ap (λ (y : ℕ × Store). y.1) made_is); live = o.1; above = index_above u eu f },
        omega (arith, ap length o.0),
      )
    where
      index_above : (u : List ℕ) → u ≡ put_index z (count w) h → Fits (stack_node z place n ∷ store_of w) → SameAbove z u
      index_above u eu f j l =
          let c : count w ≡ length (store_of w) = live_count v.pushed.live in
          let b : bucket_of h < 512 = bucket_small h (rw v.hashed (node_hash_below (hash (store_of w)) (stack_node z place n))) in
          let k : count w < 512 = omega (arith, f.0) in
          ap (λ (x : List ℕ). get_or x j 0) eu ∙ put_other z (count w) h v.pushed.stacked.sized k b j (omega arith) (omega arith) (omega arith) (omega arith)

  -- as the code has it, for one entry
  pub made_single : n ≡ 1 → count w < 512 → (p r : ℕ) → p ≡ stack_parent z place → r ≡ stack_state z place → (w' u : List ℕ)
      → w' ≡ put_counts (put_record w (count w) 1 p r) (count w + 1) (used w) → u ≡ put_index z (count w) h
      → GrewTo z u w' (intern (store_of w) (stack_node z place n)) (count w) × More w 1 w'
  unfolding pool room
  made_single o l p r ep er w' u ew eu =
      let s = store_of w in
      let c : count w ≡ length s = live_count v.pushed.live in
      let d : used w ≡ pool s = live_used v.pushed.live in
      let k : stack_node z place n ≡ push r p end = rw o (single_node z place (rw o at v.proper) ∙ rw (ep, er)) in
      made w' u (omega (arith, live_count v.pushed.live), rw k (omega (arith, v.pushed.live.good.fits.1)))
      (ew ∙ single_eq w (count w) (length s) (used w) (pool s) p r c d ∙ sym (written_single w s r p) ∙ ap (written w s) (sym k)) eu

  -- and for several
  pub made_array : 2 ≤ n → count w < 512 → n ≤ 2048 - used w → (w' u : List ℕ)
      → w' ≡ put_counts (put_record (fill w (used w) (stack_node z place n)) (count w) 2 (used w) n) (count w + 1) (used w + n) → u ≡ put_index z (count w) h
      → GrewTo z u w' (intern (store_of w) (stack_node z place n)) (count w) × More w 1 w'
  unfolding pool
  made_array t l m w' u ew eu =
      let s = store_of w in
      let c : count w ≡ length s = live_count v.pushed.live in
      let d : used w ≡ pool s = live_used v.pushed.live in
      let r : room (stack_node z place n) ≡ n = room_many (stack_node z place n) (rw new_size t) ∙ new_size in
      made w' u (omega (arith, live_count v.pushed.live), omega (arith, v.pushed.live.good.fits.1))
      (ew ∙ array_eq w (count w) (length s) (used w) (pool s) n (stack_node z place n) c d ∙ sym (written_array w s (stack_node z place n) n new_size t)) eu

  -- with the counts that the code has read, and the words after each call
  module _ (cr ur : ℕ) (ec : cr ≡ count w) (eu : ur ≡ used w) (w' u : List ℕ) (ei : u ≡ put_index z cr h) where
    pub read_single : n ≡ 1 → cr < 512 → (p r : ℕ) → p ≡ stack_parent z place → r ≡ stack_state z place → (w₁ : List ℕ)
        → w₁ ≡ put_record w cr 1 p r → w' ≡ put_counts w₁ (cr + 1) ur
        → GrewTo z u w' (intern (store_of w) (stack_node z place n)) cr × More w 1 w'
    read_single o l p r ep er w₁ e₁ e₂ =
        let ew : w' ≡ put_counts (put_record w (count w) 1 p r) (count w + 1) (used w) = e₂ ∙ (rw (e₁, ec, eu)) in
        rw ec (made_single o (omega arith) p r ep er w' u ew (ei ∙ rw ec))

    pub read_array : 2 ≤ n → cr < 512 → n ≤ 2048 - ur → (w₁ w₂ : List ℕ)
        → w₁ ≡ fill w ur (stack_node z place n) → w₂ ≡ put_record w₁ cr 2 ur n → w' ≡ put_counts w₂ (cr + 1) (ur + n)
        → GrewTo z u w' (intern (store_of w) (stack_node z place n)) cr × More w 1 w'
    read_array t l m w₁ w₂ e₁ e₂ e₃ =
        let ew : w' ≡ put_counts (put_record (fill w (used w) (stack_node z place n)) (count w) 2 (used w) n) (count w + 1) (used w + n) = e₃ ∙ (rw (e₂, e₁, ec, eu)) in
        rw ec (made_array t (omega arith) (omega arith) w' u ew (ei ∙ rw ec))
