-- Words cut back, place by place. Nothing here has to be believed.
use Rattle.std.specs.Prelude.{◌≡◌, List, ℕ, ◌<◌, ◌≤◌, ◌+◌, ◌*◌, length, get_or}
use Rattle.std.proofs.Common.{◌∙◌, arith}
use Rattle.words.specs.Lent.{cleared_range}
use Rattle.words.specs.Lent.Laws.{length_cleared_range, cleared_range_before, cleared_range_inside, cleared_range_after}
use Rattle.layout.specs.Layout.{store_words, count, used, parent, state}
use Rattle.words.specs.Numbers.{below?}
use Rattle.encoding.specs.Held.{Agree}
use Rattle.encoding.specs.Writes.{length_put_counts, counts_other, counts_count, counts_used}
use Rattle.encoding.specs.Cut.{cut}

cleared_outside : (w : List ℕ) (from to : ℕ) → from ≤ to → to ≤ length w → (j : ℕ) → (from ≤ j → j < to → ⊥)
    → get_or (cleared_range w from to) j 0 ≡ get_or w j 0
cleared_outside w from to h k j o =
    below? j from (λ l. cleared_range_before w from to h k j l) λ l.
    below? j to (λ m. absurd (o l m)) (λ m. cleared_range_after w from to h k j m)

module _ (w : List ℕ) (c i : ℕ) (l : length w ≡ store_words) (h : c ≤ 512) (k : i ≤ 2048) where
  -- the words after the records, the parents and the states are cleared
  pub records : List ℕ
  records = cleared_range w (2 + 3 * c) 1538

  parents : List ℕ
  parents = cleared_range records (1538 + i) 3586

  states : List ℕ
  states = cleared_range parents (3586 + i) 5634

  length_records : length records ≡ store_words
  unfolding records
  length_records = length_cleared_range w (2 + 3 * c) 1538 (omega arith) (omega arith) ∙ l

  length_parents : length parents ≡ store_words
  unfolding parents
  length_parents = length_cleared_range records (1538 + i) 3586 (omega arith) (omega (arith, length_records)) ∙ length_records

  length_states : length states ≡ store_words
  unfolding states
  length_states = length_cleared_range parents (3586 + i) 5634 (omega arith) (omega (arith, length_parents)) ∙ length_parents

  pub length_cut : length (cut w c i) ≡ store_words
  unfolding cut states parents records
  length_cut = length_put_counts states c i ∙ length_states

  pub cut_count : count (cut w c i) ≡ c
  unfolding cut states parents records
  cut_count = counts_count states c i length_states

  pub cut_used : used (cut w c i) ≡ i
  unfolding cut states parents records
  cut_used = counts_used states c i length_states

  -- ---- one place

  cut_cleared : (j : ℕ) → 2 ≤ j → get_or (cut w c i) j 0 ≡ get_or states j 0
  unfolding cut states parents records
  cut_cleared j a = counts_other states c i j a

  states_parents : (j : ℕ) → (3586 + i ≤ j → j < 5634 → ⊥) → get_or states j 0 ≡ get_or parents j 0
  unfolding states
  states_parents j o = cleared_outside parents (3586 + i) 5634 (omega arith) (omega (arith, length_parents)) j o

  parents_records : (j : ℕ) → (1538 + i ≤ j → j < 3586 → ⊥) → get_or parents j 0 ≡ get_or records j 0
  unfolding parents
  parents_records j o = cleared_outside records (1538 + i) 3586 (omega arith) (omega (arith, length_records)) j o

  pub cut_kept : (j : ℕ) → 2 ≤ j → (2 + 3 * c ≤ j → j < 1538 → ⊥) → (1538 + i ≤ j → j < 3586 → ⊥) → (3586 + i ≤ j → j < 5634 → ⊥)
      → get_or (cut w c i) j 0 ≡ get_or w j 0
  unfolding records
  cut_kept j a r p s =
      cut_cleared j a ∙ states_parents j s ∙ parents_records j p ∙ cleared_outside w (2 + 3 * c) 1538 (omega arith) (omega arith) j r

  pub cut_agree : Agree w (cut w c i) c i
  unfolding parent state
  cut_agree = record {
    low = λ j a b. cut_kept j a (omega arith) (omega arith) (omega arith);
    parents = λ j a. cut_kept (1538 + j) (omega arith) (omega arith) (omega arith) (omega arith);
    states = λ j a. cut_kept (3586 + j) (omega arith) (omega arith) (omega arith) (omega arith);
  }

  pub cut_no_records : (j : ℕ) → 2 + 3 * c ≤ j → j < 1538 → get_or (cut w c i) j 0 ≡ 0
  unfolding records
  cut_no_records j a b =
      cut_cleared j (omega arith) ∙ states_parents j (omega arith) ∙ parents_records j (omega arith)
      ∙ cleared_range_inside w (2 + 3 * c) 1538 (omega arith) (omega arith) j a b

  pub cut_no_parents : (j : ℕ) → i ≤ j → j < 2048 → parent (cut w c i) j ≡ 0
  unfolding parent parents
  cut_no_parents j a b =
      cut_cleared (1538 + j) (omega arith) ∙ states_parents (1538 + j) (omega arith)
      ∙ cleared_range_inside records (1538 + i) 3586 (omega arith) (omega (arith, length_records)) (1538 + j) (omega arith) (omega arith)

  pub cut_no_states : (j : ℕ) → i ≤ j → j < 2048 → state (cut w c i) j ≡ 0
  unfolding state states
  cut_no_states j a b =
      cut_cleared (3586 + j) (omega arith)
      ∙ cleared_range_inside parents (3586 + i) 5634 (omega arith) (omega (arith, length_parents)) (3586 + j) (omega arith) (omega arith)
