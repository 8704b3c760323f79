-- What each write leaves, place by place: the word written, and every other word as it was. Nothing here has to be believed.
use Rattle.std.specs.Prelude.{◌≡◌, refl, ◌≢◌, List, ℕ, suc, ◌<◌, ◌≤◌, ◌+◌, ◌*◌, get_or, set}
use Rattle.std.proofs.Common.{◌∙◌}
use native.Mathlib.Omega.{arith}
use Rattle.std.proofs.Math.ListN.{length, length-set}
use Rattle.std.proofs.lemmas.List.{length-replicate, get_or-replicate}
use Rattle.std.proofs.Math.Seq.{get_or-set_same, get_or-set_other}
use Rattle.arena.specs.Store.{Node, end, dollar, push}
use Rattle.arena.specs.Kinds.{size}
use Rattle.layout.specs.Layout.{store_words, stop, blank, count, used, kind, first, second, parent, state}
use Rattle.layout.specs.Encode.{put_pool, fill, put_record, put_counts, put_node}
use Rattle.encoding.specs.Filled.{Filled}

-- ---- as many words as before

pub length_fill : (w : List ℕ) (i : ℕ) (n : Node) → length (fill w i n) ≡ length w
unfolding fill put_pool
length_fill w i end = refl
length_fill w i dollar = simp length-set
length_fill w i (push r p n) = length_fill (put_pool w i p r) (suc i) n ∙ simp length-set

pub length_put_record : (w : List ℕ) (c k a b : ℕ) → length (put_record w c k a b) ≡ length w
unfolding put_record
length_put_record w c k a b = simp length-set

pub length_put_counts : (w : List ℕ) (c i : ℕ) → length (put_counts w c i) ≡ length w
unfolding put_counts
length_put_counts w c i = simp length-set

pub length_put_node : (w : List ℕ) (c i : ℕ) (n : Node) → length (put_node w c i n) ≡ length w
unfolding put_node
length_put_node w c i end = refl
length_put_node w c i dollar = refl
length_put_node w c i (push r p end) = length_put_record w c 1 p r
length_put_node w c i (push r p dollar) = length_put_record _ c 2 i 2 ∙ length_fill w i (push r p dollar)
length_put_node w c i (push r p (push q o n)) = length_put_record _ c 2 i _ ∙ length_fill w i (push r p (push q o n))

pub length_blank : (n : ℕ) → length (blank n) ≡ n
unfolding blank
length_blank n = length-replicate {A = ℕ} n 0

-- a blank word is 0
pub get_or_blank : (n j : ℕ) → j < n → get_or (blank n) j 0 ≡ 0
unfolding blank
get_or_blank n j h = get_or-replicate {A = ℕ} n j 0 0 h

-- ---- the two counts

module _ (w : List ℕ) (c i : ℕ) where
  pub counts_other : (j : ℕ) → 2 ≤ j → get_or (put_counts w c i) j 0 ≡ get_or w j 0
  unfolding put_counts
  counts_other j h = get_or-set_other (set w 0 c) 1 j i 0 (omega arith) ∙ get_or-set_other w 0 j c 0 (omega arith)

  pub counts_count : length w ≡ store_words → count (put_counts w c i) ≡ c
  unfolding put_counts count
  counts_count l = get_or-set_other (set w 0 c) 1 0 i 0 (omega arith) ∙ get_or-set_same w 0 c 0 (omega arith)

  pub counts_used : length w ≡ store_words → used (put_counts w c i) ≡ i
  unfolding put_counts used
  counts_used l = get_or-set_same (set w 0 c) 1 i 0 (simp length-set (omega arith))

-- ---- the three words of a record

module _ (w : List ℕ) (c k a b : ℕ) where
  pub record_other : (j : ℕ) → j ≢ 2 + 3 * c → j ≢ 2 + 3 * c + 1 → j ≢ 2 + 3 * c + 2 → get_or (put_record w c k a b) j 0 ≡ get_or w j 0
  unfolding put_record
  record_other j p q r = rw (get_or-set_other, get_or-set_other, get_or-set_other)

  module _ (l : length w ≡ store_words) (h : c < 512) where
    pub record_kind : kind (put_record w c k a b) c ≡ k
    unfolding put_record kind
    record_kind =
        let p : 2 + 3 * c ≢ 2 + 3 * c + 1 = omega arith in
        let q : 2 + 3 * c ≢ 2 + 3 * c + 2 = omega arith in
        let r : 2 + 3 * c < length w = omega arith in
        rw (get_or-set_other, get_or-set_other, get_or-set_same)

    pub record_first : first (put_record w c k a b) c ≡ a
    unfolding put_record first
    record_first =
        let p : 2 + 3 * c + 1 ≢ 2 + 3 * c + 2 = omega arith in
        let q : 2 + 3 * c + 1 < length (set w (2 + 3 * c) k) = simp length-set (omega arith) in
        rw (get_or-set_other, get_or-set_same)

    pub record_second : second (put_record w c k a b) c ≡ b
    unfolding put_record second
    record_second =
        let p : 2 + 3 * c + 2 < length (set (set w (2 + 3 * c) k) (2 + 3 * c + 1) a) = simp length-set (omega arith) in
        rw get_or-set_same

-- ---- entries in the pool

-- the place j is none of the k pool entries from place i on
abbrev pub Outside : ℕ → ℕ → ℕ → Type 0
Outside i k j = (e : ℕ) → i ≤ e → e < i + k → (j ≢ 1538 + e) × (j ≢ 3586 + e)

pub fill_other : (w : List ℕ) (i : ℕ) (n : Node) (j : ℕ) → Outside i (size n) j → get_or (fill w i n) j 0 ≡ get_or w j 0
unfolding fill put_pool size
fill_other w i end j h = refl
fill_other w i dollar j h =
    let o = h i (omega arith) (omega arith) in
    get_or-set_other (set w (1538 + i) 0) (3586 + i) j stop 0 o.1 ∙ get_or-set_other w (1538 + i) j 0 0 o.0
fill_other w i (push r p n) j h =
    let o = h i (omega arith) (omega arith) in
    fill_other (put_pool w i p r) (suc i) n j (λ e a b. h e (omega arith) (omega arith))
    ∙ get_or-set_other (set w (1538 + i) p) (3586 + i) j r 0 o.1 ∙ get_or-set_other w (1538 + i) j p 0 o.0

module _ (w : List ℕ) (i p r : ℕ) (l : length w ≡ store_words) (h : i < 2048) where
  pool_state : state (put_pool w i p r) i ≡ r
  unfolding put_pool state
  pool_state = get_or-set_same (set w (1538 + i) p) (3586 + i) r 0 (simp length-set (omega arith))

  pool_parent : parent (put_pool w i p r) i ≡ p
  unfolding put_pool parent
  pool_parent = get_or-set_other (set w (1538 + i) p) (3586 + i) (1538 + i) r 0 (omega arith) ∙ get_or-set_same w (1538 + i) p 0 (omega arith)

module _ (w : List ℕ) (i : ℕ) (n : Node) (h : i + size n ≤ 2048) (j : ℕ) (l : j < i) where
  fill_state : state (fill w i n) j ≡ state w j
  unfolding state
  fill_state = fill_other w i n (3586 + j) (λ e a b. omega arith)

  fill_parent : parent (fill w i n) j ≡ parent w j
  unfolding parent
  fill_parent = fill_other w i n (1538 + j) (λ e a b. omega arith)

pub fill_filled : (w : List ℕ) (i : ℕ) (n : Node) → length w ≡ store_words → i + size n ≤ 2048 → Filled (state (fill w i n)) (parent (fill w i n)) i n
unfolding fill size
fill_filled w i end l h = tt
fill_filled w i dollar l h = (pool_state w i 0 stop l (omega arith), pool_parent w i 0 stop l (omega arith))
fill_filled w i (push r p n) l h =
    let u : List ℕ = put_pool w i p r in (
      fill_state u (suc i) n (omega arith) i (omega arith) ∙ pool_state w i p r l (omega arith),
      fill_parent u (suc i) n (omega arith) i (omega arith) ∙ pool_parent w i p r l (omega arith),
      fill_filled u (suc i) n (length_fill w i (push r p end) ∙ l) (omega arith),
    )
