-- The words of a store hold it: writing one record more leaves the older ones as they were. Nothing here has to be believed.
use Rattle.std.specs.Prelude.{◌≡◌, ◌≢◌, ℕ, suc, ◌≤◌, ◌+◌, ◌*◌, get_or}
use Rattle.std.proofs.Math.Path.{refl, sym, ap}
use Rattle.std.proofs.Common.{◌∙◌, arith}
use mathlib.Core.List.{List, [], ◌∷◌}
use Rattle.std.proofs.Math.ListN.{length, set}
use Rattle.std.proofs.lemmas.List.{set-get_or}
use Rattle.arena.specs.Store.{Node, end, dollar, push, Store}
use Rattle.arena.specs.Room.{room, pool}
use Rattle.layout.specs.Layout.{store_words, blank, count, used, kind, first, second, parent, state}
use Rattle.layout.specs.Encode.{fill, put_record, put_counts, put_node, written, words_of}
use Rattle.layout.specs.Ceilings.{Fits}
use Rattle.encoding.specs.Filled.{filled_agree}
use Rattle.encoding.specs.Held.{kind_word, first_word, second_word, in_pool, size_in_pool, Recorded, Held, Agree, records_agree}
use Rattle.encoding.specs.Writes.{length_fill, length_put_record, length_put_counts, length_put_node, length_blank, get_or_blank, counts_other, counts_count, counts_used, record_other}
use Rattle.encoding.specs.Writes.{record_kind, record_first, record_second, Outside, fill_other, fill_filled}

-- ---- one record more

-- a record whose three words are 0, written as 0
same_set : (w : List ℕ) (j : ℕ) → get_or w j 0 ≡ 0 → set w j 0 ≡ w
same_set w j e = ap (set w j) (sym e) ∙ set-get_or w j 0

-- each kind of record is written in one way: its pool entries, and its three words
module _ (w : List ℕ) (c i : ℕ) (k : kind w c ≡ 0) (a : first w c ≡ 0) (b : second w c ≡ 0) where
  put_zeros : put_record w c 0 0 0 ≡ w
  unfolding put_record kind first second
  put_zeros =
      ap (λ (u : List ℕ). set (set u (2 + 3 * c + 1) 0) (2 + 3 * c + 2) 0) (same_set w (2 + 3 * c) k)
      ∙ ap (λ (u : List ℕ). set u (2 + 3 * c + 2) 0) (same_set w (2 + 3 * c + 1) a)
      ∙ same_set w (2 + 3 * c + 2) b

  put_node_lem : (n : Node) → put_node w c i n ≡ put_record (fill w i (in_pool n)) c (kind_word n) (first_word i n) (second_word n)
  unfolding put_node fill in_pool kind_word first_word second_word
  put_node_lem end = sym put_zeros
  put_node_lem dollar = sym put_zeros
  put_node_lem (push r p end) = refl
  put_node_lem (push r p dollar) = refl
  put_node_lem (push r p (push q o n)) = refl

module _ (w : List ℕ) (s : Store) (n : Node) (h : Held w s) (fits : Fits (n ∷ s)) where
  -- the words after the pool entries, after the record, and after the counts
  filled : List ℕ
  filled = fill w (pool s) (in_pool n)

  recorded : List ℕ
  recorded = put_record filled (length s) (kind_word n) (first_word (pool s) n) (second_word n)

  counted : List ℕ
  counted = put_counts recorded (suc (length s)) (pool s + room n)

  length_filled : length filled ≡ store_words
  unfolding filled
  length_filled = length_fill w (pool s) (in_pool n) ∙ h.long

  length_recorded : length recorded ≡ store_words
  unfolding recorded
  length_recorded = length_put_record filled (length s) _ _ _ ∙ length_filled

  length_counted : length counted ≡ store_words
  unfolding counted
  length_counted = length_put_counts recorded _ _ ∙ length_recorded

  -- no other word has changed
  abbrev Elsewhere : ℕ → Type 0
  Elsewhere j = (2 ≤ j) × (j ≢ 2 + 3 * length s) × (j ≢ 2 + 3 * length s + 1) × (j ≢ 2 + 3 * length s + 2) × Outside (pool s) (room n) j

  counted_other : (j : ℕ) → Elsewhere j → get_or counted j 0 ≡ get_or w j 0
  unfolding counted recorded filled
  counted_other j o =
      counts_other recorded _ _ j o.0
      ∙ record_other filled (length s) _ _ _ j o.1 o.2 o.3
      ∙ fill_other w (pool s) (in_pool n) j (rw (size_in_pool n) o.4)

  counted_agree : Agree w counted (length s) (pool s)
  unfolding parent state pool
  counted_agree = record {
    low = λ j a b. counted_other j (omega arith);
    parents = λ j a. counted_other (1538 + j) (omega arith);
    states = λ j a. counted_other (3586 + j) (omega arith);
  }

  counted_entries : (j : ℕ) → 1538 ≤ j → get_or counted j 0 ≡ get_or filled j 0
  unfolding counted recorded
  counted_entries j l = counts_other recorded _ _ j (omega arith) ∙ record_other filled (length s) _ _ _ j (omega arith) (omega arith) (omega arith)

  counted_recorded : Recorded counted (length s) (pool s) n
  unfolding counted recorded filled kind first second parent state pool
  counted_recorded = record {
    kinds = counts_other recorded _ _ (2 + 3 * length s) (omega arith) ∙ record_kind filled (length s) _ _ _ length_filled (omega arith);
    firsts = counts_other recorded _ _ (2 + 3 * length s + 1) (omega arith) ∙ record_first filled (length s) _ _ _ length_filled (omega arith);
    seconds = counts_other recorded _ _ (2 + 3 * length s + 2) (omega arith) ∙ record_second filled (length s) _ _ _ length_filled (omega arith);
    entries = filled_agree (state filled) (parent filled) (state counted) (parent counted) (pool s) (in_pool n)
        (λ j a b. (counted_entries (3586 + j) (omega arith), counted_entries (1538 + j) (omega arith)))
        (fill_filled w (pool s) (in_pool n) h.long (omega (arith, size_in_pool n)));
  }

  counted_held : Held counted (n ∷ s)
  unfolding counted pool parent state
  counted_held = record {
    long = length_counted;
    counts = counts_count recorded _ _ length_recorded;
    uses = counts_used recorded _ _ length_recorded;
    records = (counted_recorded, records_agree w counted (length s) (pool s) s (omega arith) (omega arith) counted_agree h.records);
    no_records = λ j a b. counted_other j (omega arith) ∙ h.no_records j (omega arith) b;
    no_parents = λ i a b. counted_other (1538 + i) (omega arith) ∙ h.no_parents i (omega arith) b;
    no_states = λ i a b. counted_other (3586 + i) (omega arith) ∙ h.no_states i (omega arith) b;
  }

  pub written_held : Held (written w s n) (n ∷ s)
  unfolding written counted recorded filled kind first second
  written_held =
      rw (put_node_lem w (length s) (pool s)
      (h.no_records _ (omega arith) (omega arith)) (h.no_records _ (omega arith) (omega arith)) (h.no_records _ (omega arith) (omega arith)) n)
      counted_held

-- ---- all records

pub words_length : (s : Store) → length (words_of s) ≡ store_words
unfolding words_of written
words_length [] = length_blank store_words
words_length (n ∷ s) = length_put_counts _ (suc (length s)) (pool s + room n) ∙ length_put_node (words_of s) (length s) (pool s) n ∙ words_length s

blank_held : Held (blank store_words) []
unfolding count used parent state pool
blank_held = record {
  long = length_blank store_words;
  counts = get_or_blank store_words 0 (omega arith);
  uses = get_or_blank store_words 1 (omega arith);
  records = tt;
  no_records = λ j a b. get_or_blank store_words j (omega arith);
  no_parents = λ i a b. get_or_blank store_words (1538 + i) (omega arith);
  no_states = λ i a b. get_or_blank store_words (3586 + i) (omega arith);
}

pub words_held : (s : Store) → Fits s → Held (words_of s) s
unfolding words_of pool
words_held [] fits = blank_held
words_held (n ∷ s) fits = written_held (words_of s) s n (words_held s (omega arith, omega arith)) fits

pub words_count : (s : Store) → Fits s → count (words_of s) ≡ length s
words_count s fits = (words_held s fits).counts

pub words_used : (s : Store) → Fits s → used (words_of s) ≡ pool s
words_used s fits = (words_held s fits).uses
