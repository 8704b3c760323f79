-- What it is for words to hold a store, word by word; and the words that hold a store are determined by it. Nothing here has to be believed.
use Rattle.std.specs.Prelude.{◌≡◌, refl, List, [], ◌∷◌, ℕ, ◌<◌, ◌≤◌, ◌+◌, ◌*◌, length, get_or}
use Rattle.std.proofs.Common.{sym, ◌∙◌, arith, ext_get_or}
use Rattle.words.specs.Numbers.{two, below?}
use Rattle.arena.specs.Store.{Node, end, dollar, push, Store}
use Rattle.arena.specs.Kinds.{size}
use Rattle.arena.specs.Room.{room, pool}
use Rattle.layout.specs.Layout.{store_words, count, used, kind, first, second, parent, state}
use Rattle.encoding.specs.Places.{by_place}
use Rattle.encoding.specs.Filled.{Filled, filled_agree, filled_same}

-- the three words of a record of the entries n, whose pool entries, if it has any, start at place i
unfoldable pub kind_word : Node → ℕ
kind_word end = 0
kind_word dollar = 0
kind_word (push r p end) = 1
kind_word (push r p dollar) = 2
kind_word (push r p (push q o n)) = 2

unfoldable pub first_word : ℕ → Node → ℕ
first_word i end = 0
first_word i dollar = 0
first_word i (push r p end) = p
first_word i (push r p dollar) = i
first_word i (push r p (push q o n)) = i

unfoldable pub second_word : Node → ℕ
second_word end = 0
second_word dollar = 0
second_word (push r p end) = r
second_word (push r p dollar) = 2
second_word (push r p (push q o n)) = size (push r p (push q o n))

-- the entries that it has in the pool
unfoldable pub in_pool : Node → Node
in_pool end = end
in_pool dollar = end
in_pool (push r p end) = end
in_pool (push r p dollar) = push r p dollar
in_pool (push r p (push q o n)) = push r p (push q o n)

pub size_in_pool : (n : Node) → size (in_pool n) ≡ room n
unfolding in_pool room size
size_in_pool end = refl
size_in_pool dollar = refl
size_in_pool (push r p end) = refl
size_in_pool (push r p dollar) = refl
size_in_pool (push r p (push q o n)) = refl

-- record c holds the entries n
pub record Recorded (w : List ℕ) (c i : ℕ) (n : Node) : Type 0 where
  pub kinds : kind w c ≡ kind_word n
  pub firsts : first w c ≡ first_word i n
  pub seconds : second w c ≡ second_word n
  pub entries : Filled (state w) (parent w) i (in_pool n)

-- each record of the store stands under its number, with its pool entries after those of the older ones
abbrev pub Records : List ℕ → Store → Type 0
Records w [] = Unit {0}
Records w (n ∷ s) = Recorded w (length s) (pool s) n × Records w s

-- the words hold the store, and are else 0
pub record Held (w : List ℕ) (s : Store) : Type 0 where
  pub long : length w ≡ store_words
  pub counts : count w ≡ length s
  pub uses : used w ≡ pool s
  pub records : Records w s
  pub no_records : (j : ℕ) → 2 + 3 * length s ≤ j → j < 1538 → get_or w j 0 ≡ 0
  pub no_parents : (i : ℕ) → pool s ≤ i → i < 2048 → parent w i ≡ 0
  pub no_states : (i : ℕ) → pool s ≤ i → i < 2048 → state w i ≡ 0

-- ---- words that agree on the records and the pool of a store hold its records alike

-- w and u agree on the first c records, and on the first i pool entries
pub record Agree (w u : List ℕ) (c i : ℕ) : Type 0 where
  pub low : (j : ℕ) → 2 ≤ j → j < 2 + 3 * c → get_or u j 0 ≡ get_or w j 0
  pub parents : (j : ℕ) → j < i → parent u j ≡ parent w j
  pub states : (j : ℕ) → j < i → state u j ≡ state w j

pub recorded_agree : (w u : List ℕ) (d e c i : ℕ) (n : Node) → c < d → i + room n ≤ e → Agree w u d e → Recorded w c i n → Recorded u c i n
unfolding kind first second
recorded_agree w u d e c i n l k a r = record {
  kinds = a.low (2 + 3 * c) (omega arith) (omega arith) ∙ r.kinds;
  firsts = a.low (2 + 3 * c + 1) (omega arith) (omega arith) ∙ r.firsts;
  seconds = a.low (2 + 3 * c + 2) (omega arith) (omega arith) ∙ r.seconds;
  entries = filled_agree (state w) (parent w) (state u) (parent u) i (in_pool n)
      (λ j p q. let z = size_in_pool n in (a.states j (omega arith), a.parents j (omega arith))) r.entries;
}

pub records_agree : (w u : List ℕ) (d e : ℕ) (s : Store) → length s ≤ d → pool s ≤ e → Agree w u d e → Records w s → Records u s
unfolding pool
records_agree w u d e [] l k a r = tt
records_agree w u d e (n ∷ s) l k a r =
    (recorded_agree w u d e (length s) (pool s) n (omega arith) (omega arith) a r.0, records_agree w u d e s (omega arith) (omega arith) a r.1)

-- ---- the words are determined

records_same : (w u : List ℕ) (s : Store) → Records w s → Records u s → (j : ℕ) → 2 ≤ j → j < 2 + 3 * length s → get_or w j 0 ≡ get_or u j 0
unfolding kind first second
records_same w u [] r q j a b = absurd (omega arith)
records_same w u (n ∷ s) r q j a b =
    let c : ℕ = length s in
    below? j (2 + 3 * c) (λ h. records_same w u s r.1 q.1 j a h) λ h.
    two j (2 + 3 * c) (λ e. rw e (r.0.kinds ∙ sym q.0.kinds)) λ k.
    two j (2 + 3 * c + 1) (λ e. rw e (r.0.firsts ∙ sym q.0.firsts)) λ l.
    let e : j ≡ 2 + 3 * c + 2 = omega arith in
    rw e (r.0.seconds ∙ sym q.0.seconds)

pool_same : (w u : List ℕ) (s : Store) → Records w s → Records u s → (i : ℕ) → i < pool s → (state w i ≡ state u i) × (parent w i ≡ parent u i)
unfolding pool
pool_same w u [] r q i a = absurd (omega arith)
pool_same w u (n ∷ s) r q i a =
    below? i (pool s) (λ h. pool_same w u s r.1 q.1 i h) λ h.
    filled_same (state w) (parent w) (state u) (parent u) (pool s) (in_pool n) r.0.entries q.0.entries i h (omega (arith, size_in_pool n))

-- Words that hold one store are equal.
pub held_unique : (w u : List ℕ) (s : Store) → Held w s → Held u s → w ≡ u
unfolding count used parent state
held_unique w u s a b =
    ext_get_or 0 w u (a.long ∙ sym b.long) λ j l.
    by_place (λ j. get_or w j 0 ≡ get_or u j 0)
    (a.counts ∙ sym b.counts)
    (a.uses ∙ sym b.uses)
    (λ j h k. below? j (2 + 3 * length s)
    (λ m. records_same w u s a.records b.records j h m)
    (λ m. a.no_records j m k ∙ sym (b.no_records j m k)))
    (λ i h. below? i (pool s)
    (λ m. (pool_same w u s a.records b.records i m).1)
    (λ m. a.no_parents i m h ∙ sym (b.no_parents i m h)))
    (λ i h. below? i (pool s)
    (λ m. (pool_same w u s a.records b.records i m).0)
    (λ m. a.no_states i m h ∙ sym (b.no_states i m h)))
    j (omega (arith, a.long))
