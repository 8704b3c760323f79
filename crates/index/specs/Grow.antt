-- The index of a store that grows: empty chains, one context more, and writes to the stack that leave it alone. Nothing here has to be believed.
use Rattle.std.specs.Prelude.{◌≡◌, refl, ◌≢◌, List, [], ◌∷◌, ℕ, ◌<◌, ◌≤◌, ◌+◌, ◌*◌, ◌/◌, ◌%◌, ◌^◌, get_or}
use Rattle.std.proofs.Common.{sym, ap, ◌∙◌, add-one}
use native.Mathlib.Omega.{arith}
use Rattle.std.proofs.Math.ListN.{length, set, length-set}
use Rattle.std.proofs.Math.Seq.{get_or-set_same, get_or-set_other}
use Rattle.words.specs.Numbers.{two}
use Rattle.words.specs.Lent.{cleared_range}
use Rattle.words.specs.Lent.Laws.{length_cleared_range, cleared_range_inside}
use Rattle.arena.specs.Store.{Node, Store}
use Rattle.layout.specs.Layout.{scratch_words}
use Rattle.layout.specs.Scratch.{head, link, low, high, stack_parent, stack_state}
use Rattle.index.specs.Hash.{hash, node_hash, node_hash_below, bucket_of, hash_new, hash_old}
use Rattle.index.specs.Older.{older_all, older_part}
use Rattle.index.specs.Chain.{newest, newest_here, newest_older}
use Rattle.index.specs.Index.{Indexed}
use Rattle.index.specs.Writes.{put_entry, put_index}

-- ---- no contexts

pub index_empty : (z : List ℕ) → length z ≡ scratch_words → Indexed [] (cleared_range z 0 512)
unfolding head newest
index_empty z l = record {
  sized = length_cleared_range z 0 512 (omega arith) (omega arith) ∙ l;
  heads = λ b h. cleared_range_inside z 0 512 (omega arith) (omega arith) b (omega arith) h;
  links = λ c h. absurd (omega arith);
  lows = λ c h. absurd (omega arith);
  highs = λ c h. absurd (omega arith);
}

-- ---- words below the stack are as they were

pub index_frame : (s : Store) (z u : List ℕ) → length s ≤ 512 → length u ≡ scratch_words → ((i : ℕ) → i < 2048 → get_or u i 0 ≡ get_or z i 0) → Indexed s z → Indexed s u
unfolding head link low high
index_frame s z u k l same v = record {
  sized = l;
  heads = λ b h. same b (omega arith) ∙ v.heads b h;
  links = λ c h. same (512 + c) (omega arith) ∙ v.links c h;
  lows = λ c h. same (1024 + c) (omega arith) ∙ v.lows c h;
  highs = λ c h. same (1536 + c) (omega arith) ∙ v.highs c h;
}

module _ (z : List ℕ) (e p r : ℕ) where
  pub entry_length : length (put_entry z e p r) ≡ length z
  unfolding put_entry
  entry_length = simp length-set

  pub entry_below : (i : ℕ) → i < 7936 + 2 * e → get_or (put_entry z e p r) i 0 ≡ get_or z i 0
  unfolding put_entry
  entry_below i h =
      let a : i ≢ 7936 + 2 * e + 1 = omega arith in
      let b : i ≢ 7936 + 2 * e = omega arith in
      rw (get_or-set_other, get_or-set_other)

  module _ (h : 7936 + 2 * e + 1 < length z) where
    pub entry_parent_lem : stack_parent (put_entry z e p r) e ≡ p
    unfolding put_entry stack_parent
    entry_parent_lem =
        let a : 7936 + 2 * e ≢ 7936 + 2 * e + 1 = omega arith in
        let b : 7936 + 2 * e < length z = omega arith in
        rw (get_or-set_other, get_or-set_same)

    pub entry_state_lem : stack_state (put_entry z e p r) e ≡ r
    unfolding put_entry stack_state
    entry_state_lem =
        let b : 7936 + 2 * e + 1 < length (set z (7936 + 2 * e) p) = simp length-set (omega arith) in
        rw get_or-set_same

  module _ (d : ℕ) (n : d ≡ e → ⊥) where
    pub other_parent : stack_parent (put_entry z e p r) d ≡ stack_parent z d
    unfolding put_entry stack_parent
    other_parent =
        let a : 7936 + 2 * d ≢ 7936 + 2 * e + 1 = omega arith in
        let b : 7936 + 2 * d ≢ 7936 + 2 * e = omega arith in
        rw (get_or-set_other, get_or-set_other)

    pub other_state : stack_state (put_entry z e p r) d ≡ stack_state z d
    unfolding put_entry stack_state
    other_state =
        let a : 7936 + 2 * d + 1 ≢ 7936 + 2 * e + 1 = omega arith in
        let b : 7936 + 2 * d + 1 ≢ 7936 + 2 * e = omega arith in
        rw (get_or-set_other, get_or-set_other)

-- ---- one context more

module _ (z : List ℕ) (c h : ℕ) (l : length z ≡ scratch_words) (k : c < 512) (b : bucket_of h < 512) where
  one : List ℕ
  one = set z (512 + c) (head z (bucket_of h))

  two_set : List ℕ
  unfolding one
  two_set = set one (bucket_of h) (c + 1)

  three_set : List ℕ
  unfolding two_set
  three_set = set two_set (1024 + c) (h % 2 ^ 32)

  pub put_length : length (put_index z c h) ≡ length z
  unfolding put_index
  put_length = simp length-set

  -- a word that is none of the four
  pub put_other : (i : ℕ) → i ≢ 512 + c → i ≢ bucket_of h → i ≢ 1024 + c → i ≢ 1536 + c → get_or (put_index z c h) i 0 ≡ get_or z i 0
  unfolding put_index
  put_other i p q r s = rw (get_or-set_other, get_or-set_other, get_or-set_other, get_or-set_other)

  put_high : high (put_index z c h) c ≡ h / 2 ^ 32
  unfolding put_index high three_set
  put_high = let i : 1536 + c < length three_set = simp length-set (omega arith) in rw get_or-set_same

  put_low : low (put_index z c h) c ≡ h % 2 ^ 32
  unfolding put_index low two_set
  put_low =
      let n : 1024 + c ≢ 1536 + c = omega arith in
      let i : 1024 + c < length two_set = simp length-set (omega arith) in
      rw (get_or-set_other, get_or-set_same)

  put_head : head (put_index z c h) (bucket_of h) ≡ c + 1
  unfolding put_index head one
  put_head =
      let n : bucket_of h ≢ 1536 + c = omega arith in
      let m : bucket_of h ≢ 1024 + c = omega arith in
      let i : bucket_of h < length one = simp length-set (omega arith) in
      rw (get_or-set_other, get_or-set_other, get_or-set_same)

  put_link : link (put_index z c h) c ≡ head z (bucket_of h)
  unfolding put_index link
  put_link =
      let n : 512 + c ≢ 1536 + c = omega arith in
      let m : 512 + c ≢ 1024 + c = omega arith in
      let o : 512 + c ≢ bucket_of h = omega arith in
      let i : 512 + c < length z = omega arith in
      rw (get_or-set_other, get_or-set_other, get_or-set_other, get_or-set_same)

  -- the words of other contexts and other chains are as they were
  module _ (d : ℕ) where
    other_head : (d ≡ bucket_of h → ⊥) → d < 512 → head (put_index z c h) d ≡ head z d
    unfolding head
    other_head j i = put_other d (omega arith) j (omega arith) (omega arith)

    other_link : d < c → link (put_index z c h) d ≡ link z d
    unfolding link
    other_link i = put_other (512 + d) (omega arith) (omega arith) (omega arith) (omega arith)

    other_low : d < c → low (put_index z c h) d ≡ low z d
    unfolding low
    other_low i = put_other (1024 + d) (omega arith) (omega arith) (omega arith) (omega arith)

    other_high : d < c → high (put_index z c h) d ≡ high z d
    unfolding high
    other_high i = put_other (1536 + d) (omega arith) (omega arith) (omega arith) (omega arith)

pub bucket_small : (h : ℕ) → h < 2 ^ 64 → bucket_of h < 512
unfolding bucket_of
bucket_small h k = omega arith

pub index_add : (s : Store) (n : Node) (z : List ℕ) (h : ℕ) → length s < 512 → h ≡ node_hash (hash s) n → Indexed s z → Indexed (n ∷ s) (put_index z (length s) h)
index_add s n z h k e v =
    let c : ℕ = length s in
    let b : bucket_of h < 512 = bucket_small h (rw e (node_hash_below (hash s) n)) in
    let l = v.sized in
    let at : hash (n ∷ s) c ≡ h = hash_new n s c refl ∙ sym e in
    record {
      sized = put_length z c h l k b ∙ l;
      heads = λ d i.
          two d (bucket_of h)
          (λ j. rw j (put_head z c h l k b ∙ add-one c ∙ sym (newest_here n s (bucket_of h) (ap bucket_of (sym e)))))
          (λ j. rw (newest_older n s d (λ q. j (sym q ∙ ap bucket_of (sym e)))) (other_head z c h l k b d j i ∙ v.heads d i));
      links = λ d i.
          two d c
          (λ j. rw (j, at, older_part n s c (omega arith), older_all s c (omega arith)) (put_link z c h l k b ∙ v.heads (bucket_of h) b))
          (λ j. rw (hash_old n s d (omega arith), older_part n s d (omega arith)) (other_link z c h l k b d (omega arith) ∙ v.links d (omega arith)));
      lows = λ d i. two d c (λ j. rw (j, at) (put_low z c h l k b)) (λ j. rw (hash_old n s d (omega arith)) (other_low z c h l k b d (omega arith) ∙ v.lows d (omega arith)));
      highs = λ d i. two d c (λ j. rw (j, at) (put_high z c h l k b)) (λ j. rw (hash_old n s d (omega arith)) (other_high z c h l k b d (omega arith) ∙ v.highs d (omega arith)));
    }
