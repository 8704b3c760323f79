-- Entries laid out one after the other; that the longest line of them has room; and the line of a known context by its record's kind.
-- Nothing here has to be believed.
use Rattle.std.specs.Prelude.{◌≡◌, refl}
use Rattle.std.proofs.Math.Path.{sym, ap}
use Rattle.std.proofs.Common.{◌∙◌, eq-eqb, ne_eqb}
use mathlib.Core.List.{List, [], ◌∷◌, ◌++◌, append-nil}
use Prim.Native.Nat.{ℕ, zero, suc, ◌+◌, ◌-◌, ◌*◌, ◌<◌, ◌≤◌}
use native.Mathlib.Omega.{arith}
use Rattle.std.proofs.Math.ListN.{length, length-append}
use Rattle.words.specs.Numbers.{two}
use Rattle.layout.specs.Store.{node_at}
use Rattle.layout.specs.Kinds.{size}
use Rattle.layout.specs.Layout.{most_contexts, most_entries, stop, count, kind, first, second, parent, state}
use Rattle.layout.specs.Listing.{listing}
use Rattle.layout.specs.Listing.Laws.{Entries, listing_stop, listing_more, listing_size, stop_last, entries_rest, entries_le}
use Rattle.layout.specs.Decode.{node_in, store_of}
use Rattle.layout.specs.Decode.Laws.{store_node, node_zero, node_one, node_many}
use Rattle.groups.specs.Reads.{kind_most, single_reads, array_entries, array_fits}
use Rattle.lines.specs.Decimal.{decimal}
use Rattle.lines.specs.Decimal.Laws.{length_decimal, word_digits}
use Rattle.lines.specs.Lines.{spaced, entries_bytes, entries_line}
use Rattle.groups.specs.Asks.{Known}
use Rattle.lines.specs.Entries.{entry_bytes, pool_node, PoolAt}

-- ---- one entry

module _ (r p : ℕ) where
  pub entry_stop : r ≡ stop → entry_bytes r p ≡ 32 ∷ 36 ∷ []
  unfolding entry_bytes
  entry_stop e = rw (eq-eqb r stop e, entry_bytes)

  pub entry_more : (r ≡ stop → ⊥) → entry_bytes r p ≡ spaced r ++ 62 ∷ decimal p
  unfolding entry_bytes
  entry_more n = rw (ne_eqb r stop n, entry_bytes)

  -- with a parent of d digits
  entry_long : (d : ℕ) → r < 4294967296 → length (decimal p) ≤ d → length (entry_bytes r p) ≤ 12 + d
  entry_long d h l =
      two r stop
      (λ e. omega (arith, ap length (entry_stop e)))
      (λ n. omega (arith, ap length (entry_more n), length-append (spaced r) (62 ∷ decimal p), word_digits r h))

  pub entry_any : r < 4294967296 → p < 4294967296 → length (entry_bytes r p) ≤ 22
  entry_any h l = entry_long 10 h (word_digits p l)

  entry_known : r ≤ stop → p < most_contexts → length (entry_bytes r p) ≤ 15
  entry_known h l = entry_long 3 (omega arith) (length_decimal 2 p (omega arith))

-- ---- entries, the first of them apart

module _ (st pa : ℕ → ℕ) where
  bytes_first : (i k c : ℕ) → Entries st pa i (suc k) c
      → entries_bytes (listing st pa i (suc k)) ≡ entry_bytes (st i) (pa i) ++ entries_bytes (listing st pa (suc i) k)
  unfolding entries_bytes listing
  bytes_first i k c v =
      two (st i) stop
      (λ e. ap entries_bytes (listing_stop st pa i k e)
      ∙ sym (ap (λ (l : List ℕ). l ++ entries_bytes (listing st pa (suc i) k)) (entry_stop (st i) (pa i) e)
      ∙ ap (λ (m : ℕ). 32 ∷ 36 ∷ entries_bytes (listing st pa (suc i) m)) (stop_last st pa i k c v e)))
      (λ n. ap entries_bytes (listing_more st pa i k n)
      ∙ sym (ap (λ (l : List ℕ). l ++ entries_bytes (listing st pa (suc i) k)) (entry_more (st i) (pa i) n)))

  -- 15 bytes an entry are enough
  bytes_room : (i k : ℕ) → Entries st pa i k most_contexts → length (entries_bytes (listing st pa i k)) ≤ 15 * k
  unfolding entries_bytes listing
  bytes_room i zero v = omega arith
  bytes_room i (suc k) v =
      omega (
        arith,
        ap length (bytes_first i k most_contexts v),
        length-append (entry_bytes (st i) (pa i)) (entries_bytes (listing st pa (suc i) k)),
        entry_known (st i) (pa i) (v.fit i (omega arith) (omega arith)) (v.older i (omega arith) (omega arith)),
        bytes_room (suc i) k (entries_rest st pa i k most_contexts v),
      )

-- ---- pool entries

module _ (w : List ℕ) (from n : ℕ) (v : PoolAt w from n) where
  entries_from : (i : ℕ) → i ≤ n → Entries (state w) (parent w) (from + i) (n - i) most_contexts
  entries_from i h = record {
    fit = λ j a b. v.entries.fit j (omega arith) (omega arith);
    older = λ j a b. v.entries.older j (omega arith) (omega arith);
    rise = λ j a b. v.entries.rise j (omega arith) (omega arith);
    dollar = λ j a b. v.entries.dollar j (omega arith) (omega arith);
  }

  pool_next : (i : ℕ) → i < n
      → entries_bytes (pool_node w (from + i) (n - i))
      ≡ entry_bytes (state w (from + i)) (parent w (from + i)) ++ entries_bytes (pool_node w (from + (i + 1)) (n - (i + 1)))
  pool_next i h =
      let e : n - i ≡ suc (n - (i + 1)) = omega arith in
      let f : suc (from + i) ≡ from + (i + 1) = omega arith in
      ap (λ (k : ℕ). entries_bytes (pool_node w (from + i) k)) e
      ∙ bytes_first (state w) (parent w) (from + i) (n - (i + 1)) most_contexts (rw e at (entries_from i (omega arith)))
      ∙ ap (λ (j : ℕ). entry_bytes (state w (from + i)) (parent w (from + i)) ++ entries_bytes (pool_node w j (n - (i + 1)))) f

  -- place i, of the state r and the parent p, apart from those after it
  pub pool_first : (i r p : ℕ) → i < n → r ≡ state w (from + i) → p ≡ parent w (from + i)
      → entries_bytes (pool_node w (from + i) (n - i)) ≡ entry_bytes r p ++ entries_bytes (pool_node w (from + (i + 1)) (n - (i + 1)))
  pool_first i r p h er ep = rw (er, ep) (pool_next i h)

  pub pool_all : entries_bytes (pool_node w (from + 0) (n - 0)) ≡ entries_bytes (pool_node w from n)
  pool_all =
      let e : n - 0 ≡ n = omega arith in
      let f : from + 0 ≡ from = omega arith in
      ap (λ (k : ℕ). entries_bytes (pool_node w (from + 0) k)) e ∙ ap (λ (j : ℕ). entries_bytes (pool_node w j n)) f

  pub pool_none : (i : ℕ) → n ≤ i → entries_bytes (pool_node w (from + i) (n - i)) ≡ []
  unfolding entries_bytes listing
  pool_none i h = let e : n - i ≡ 0 = omega arith in ap (λ (k : ℕ). entries_bytes (pool_node w (from + i) k)) e

  -- the longest reply has room
  pub pool_room : length (entries_bytes (pool_node w from n)) ≤ 15 * most_entries
  pool_room = omega (arith, bytes_room (state w) (parent w) from n v.entries, v.within)

-- ---- a known context

module _ (w : List ℕ) (c : ℕ) (v : Known w c) where
  pub known_few : c < most_contexts
  known_few = omega (arith, v.below, v.sound.counted.1)

  known_node : node_at (store_of w) c ≡ node_in w c
  known_node = store_node w (count w) c v.below

  pub known_kind : (kind w c ≡ 0 → ⊥) → (kind w c ≡ 1 → ⊥) → kind w c ≡ 2
  known_kind a b = omega (arith, kind_most w v.sound c v.below)

  pub known_root : (kind w c ≡ 1 → ⊥) → (kind w c ≡ 2 → ⊥) → kind w c ≡ 0
  known_root a b = omega (arith, kind_most w v.sound c v.below)

  pub line_zero : kind w c ≡ 0 → 69 ∷ spaced 1 ++ entry_bytes stop 0 ++ 10 ∷ [] ≡ entries_line (node_at (store_of w) c)
  unfolding entries_line entries_bytes size
  line_zero e = rw (entry_stop stop 0 refl) (sym (ap entries_line (known_node ∙ node_zero w c e)))

  pub line_one : kind w c ≡ 1 → 69 ∷ spaced 1 ++ entry_bytes (second w c) (first w c) ++ 10 ∷ [] ≡ entries_line (node_at (store_of w) c)
  unfolding entries_line entries_bytes size
  line_one e =
      let n : second w c ≡ stop → ⊥ = λ q. omega (arith, (single_reads w v.sound c v.below e).1) in
      ap (λ (l : List ℕ). 69 ∷ spaced 1 ++ l ++ 10 ∷ []) (entry_more (second w c) (first w c) n ∙ sym (append-nil (spaced (second w c) ++ 62 ∷ decimal (first w c))))
      ∙ sym (ap entries_line (known_node ∙ node_one w c e))

  module _ (e : kind w c ≡ 2) where
    pub known_pool : PoolAt w (first w c) (second w c)
    known_pool = record {
      sized = v.sized;
      within = omega (arith, array_fits w v.sound c v.below e, v.sound.counted.2);
      entries = entries_le (state w) (parent w) (first w c) (second w c) c most_contexts (omega (arith, known_few)) (array_entries w v.sound c v.below e);
    }

    pub line_many : 69 ∷ spaced (second w c) ++ entries_bytes (pool_node w (first w c) (second w c)) ++ 10 ∷ [] ≡ entries_line (node_at (store_of w) c)
    unfolding entries_line
    line_many =
        ap (λ (n : ℕ). 69 ∷ spaced n ++ entries_bytes (pool_node w (first w c) (second w c)) ++ 10 ∷ [])
        (sym (listing_size (state w) (parent w) (first w c) (second w c) c (array_entries w v.sound c v.below e)))
        ∙ sym (ap entries_line (known_node ∙ node_many w c e))
