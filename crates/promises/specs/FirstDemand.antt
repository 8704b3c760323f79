-- Promised: demand 1. "Every call ends on every input with nothing undefined. Damage, unknown numbers and full tables are refused by number; a
-- refusal changes nothing in store or set, and clears the scratch (a wrong length leaves it)." w, v, z and o are the words lent as store, set,
-- scratch and output: any words, of any length. Nothing here has to be believed but what the statements say.
use Rattle.std.specs.Prelude.{◌≡◌, ◌↔◌, Bool, true, not, ◌&&◌, ℕ, ◌<◌, ◌≤◌, eqb, ltb, leb, length}
use Rattle.std.proofs.Common.{ap, eq-eqb, eqb-true, ltb-true, ltb-false, lt-ltb, le-ltb, leb-true, le-leb}
use mathlib.Core.List.{List, [], map, Sublistᴰ}
use Rattle.std.proofs.lemmas.Bool.{not-true}
use Rattle.encoding.specs.Names.{empty_mark}
use Rattle.arena.specs.Store.{Store, at}
use Rattle.arena.specs.Room.{pool}
use Rattle.encoding.specs.Layout.{store_words, scratch_words, most_contexts, most_entries, stop, count as contexts}
use Rattle.encoding.specs.Decide.{fits}
use Rattle.encoding.proofs.DecideLaws.{fits_true, true_fits}
use Rattle.store.specs.Checks.{Check, order, due}
use Rattle.store.specs.Checks.Laws.{in_order_lem}
use Rattle.store.specs.Calls as Stores
use Rattle.store.specs.Calls.{wrong_length, unknown_context, too_much_work, no_room, ask_checks, fresh_call}
use Rattle.work.specs.Counted as Work
use Rattle.work.specs.Counted.{Outcome}
use Rattle.work.proofs.CountedLaws.{too_much_lem, is_too_much}
use Rattle.store.proofs.Told.{fresh_refused_exactly, fresh_refused_leaves}
use Rattle.interning.specs.SingletonCall.{singleton_checks, singleton_call}
use Rattle.interning.proofs.Promises.{singleton_refused_exactly, singleton_refused_leaves}
use Rattle.interning.proofs.Promises as Singles
use Rattle.configs.specs.MergeCall.{merge_checks, merge_call}
use Rattle.configs.specs.Promises.{merge_refused_exactly, merge_refused_leaves}
use Rattle.configs.specs.Promises as Merges
use Rattle.queries.specs.Queries.{Question, query_call}
use Rattle.queries.proofs.Refused.{query_refused_exactly, query_refused_leaves, ask_in_order}
use Rattle.sets.specs.Lists.{any}
use Rattle.sets.specs.Layout.{most_configs, set_words_length, config_at, config_count, flag}
use Rattle.sets.specs.Sets.{key, same_keys}
use Rattle.sets.specs.Words.{set_of, SoundSet}
use Rattle.sets.specs.Config.{Config}
use Rattle.sets.specs.Calls as Sets
use Rattle.sets.specs.Calls.{lent_lengths, lent_checks, add_checks, fresh_set_call, add_call, close_call}
use Rattle.sets.proofs.Refusals.{add_refused_exactly, add_refused_leaves, close_refused_exactly, close_refused_leaves}
use Rattle.sets.proofs.Refusals as SetRefusals
use Rattle.sets.proofs.Refusals.{full_exactly}
use Rattle.promises.specs.Words.{fails, two_hold}
use Rattle.sets.proofs.Refusals.{fresh_refused_exactly as fresh-set-exactly, fresh_refused_leaves as fresh-set-leaves}
use Rattle.readers.specs.Outputs.{subsets_length, alts_length}
use Rattle.readers.specs.VerdictsCalls as Verdicts
use Rattle.readers.specs.VerdictsCalls.{read_refusal, read_checks, conflicting_alt_subsets_call, conflicting_alts_call, unique_alt_call, single_viable_alt_call}
use Rattle.readers.specs.VerdictsCalls.{all_subsets_conflict_call, all_subsets_equal_call, most_stops, too_many_stops, verdict_call}
use Rattle.steps.specs.FiguresCalls.{figures_call}
use Rattle.steps.specs.Same.{figures_refuses}
use Rattle.readers.specs.ReasonsCalls.{why_call}
use Rattle.readers.specs.Sentences.{why_refuses}
use Rattle.readers.specs.Refused.{unique_refuses, viable_refuses, conflict_refuses, equal_refuses, verdict_refuses, subsets_refuses, alts_refuses, read_in_order}

-- "Every call ends on every input with nothing undefined": no theorem, but the toolchain's check of every function. No public call has a
-- `requires` (`measure_copy` has one, which is for benchmarks only); each loop and the cycle of merges has a measure that falls; no index is out of
-- range and no sum wraps.

-- ---- "Damage, unknown numbers and full tables are refused by number": n is the reply exactly if it is due, the number of the first of the call's
-- checks whose reason holds

module _ (w v z : List ℕ) (n : ℕ) where
  pub singleton_refused : (p r : ℕ) → ((singleton_call w z p r).reply ≡ Stores.refused n) ↔ (due (singleton_checks w z p r) ≡ at n)
  singleton_refused p r = singleton_refused_exactly w z p r n

  pub merge_refused : (a b : ℕ) (m : Bool) → ((merge_call w z a b m).reply ≡ Stores.refused n) ↔ (due (merge_checks w z a b m) ≡ at n)
  merge_refused a b m = merge_refused_exactly w z a b m n

  pub query_refused : (q : Question) (c : ℕ) → ((query_call q w z c).reply ≡ Stores.refused n) ↔ (due (ask_checks w z c) ≡ at n)
  query_refused q c = query_refused_exactly q w z c n

  pub add_refused : (x : Config) → ((add_call w v z x).reply ≡ Sets.refused n) ↔ (due (add_checks w v z x) ≡ at n)
  add_refused x = add_refused_exactly w v z x n

  pub close_refused : ((close_call w v z).reply ≡ Sets.refused n) ↔ (due (lent_checks (lent_lengths w v z) w v []) ≡ at n)
  close_refused = close_refused_exactly w v z n

  pub subset_calls_refused : (o p stops : List ℕ)
      → (((conflicting_alt_subsets_call w v z o).reply ≡ Verdicts.refused n) ↔ (due (read_checks subsets_length [] w v z o) ≡ at n))
      × (((conflicting_alts_call w v z p).reply ≡ Verdicts.refused n) ↔ (due (read_checks alts_length [] w v z p) ≡ at n))
      × (((unique_alt_call w v z).reply ≡ Verdicts.refused n) ↔ (due (read_checks 0 [] w v z []) ≡ at n))
      × (((single_viable_alt_call w v z).reply ≡ Verdicts.refused n) ↔ (due (read_checks 0 [] w v z []) ≡ at n))
      × (((all_subsets_conflict_call w v z).reply ≡ Verdicts.refused n) ↔ (due (read_checks 0 [] w v z []) ≡ at n))
      × (((all_subsets_equal_call w v z).reply ≡ Verdicts.refused n) ↔ (due (read_checks 0 [] w v z []) ≡ at n))
      × (((verdict_call w v z stops).reply ≡ Verdicts.refused n) ↔ (due (read_checks 0 (too_many_stops stops) w v z []) ≡ at n))
      × (((figures_call w v z stops).reply ≡ Verdicts.refused n) ↔ (due (read_checks 0 (too_many_stops stops) w v z []) ≡ at n))
      × (((why_call w v z stops p).reply ≡ Verdicts.refused n) ↔ (due (read_checks alts_length (too_many_stops stops) w v z p) ≡ at n))
  subset_calls_refused o p stops = (
    (subsets_refuses w v z o n).0,
    (alts_refuses w v z p n).0,
    (unique_refuses w v z n).0,
    (viable_refuses w v z n).0,
    (conflict_refuses w v z n).0,
    (equal_refuses w v z n).0,
    (verdict_refuses w v z stops n).0,
    (figures_refuses w v z stops n).0,
    (why_refuses w v z stops p n).0,
  )

-- ---- "Given exactly when": each reason in words, 9 aside, which is a script's; that of 1 and of 3 are SecondDemand's `sound_exactly_by_the_clauses` and its like of sets

-- 2: "a lent slice has a wrong length"
pub reason_2 : (w z : List ℕ) → ((wrong_length w z).holds ≡ true) ↔ ((length w ≡ store_words) × (length z ≡ scratch_words) → ⊥)
reason_2 w z =
    let t = two_hold _ _ _ _ (eqb-true (length w) store_words) (eq-eqb (length w) store_words) (eqb-true (length z) scratch_words) (eq-eqb (length z) scratch_words) in
    fails _ _ t.0 t.1

-- the same where a set is lent too, and where an output of n words is
module _ (w v z : List ℕ) where
  lengths : (lent_lengths w v z ≡ true → (length w ≡ store_words) × ((length v ≡ set_words_length) × (length z ≡ scratch_words)))
      × ((length w ≡ store_words) × ((length v ≡ set_words_length) × (length z ≡ scratch_words)) → lent_lengths w v z ≡ true)
  unfolding lent_lengths
  lengths =
      let t = two_hold _ _ _ _ (eqb-true (length v) set_words_length) (eq-eqb (length v) set_words_length) (eqb-true (length z) scratch_words) (eq-eqb (length z) scratch_words) in
      two_hold _ _ _ _ (eqb-true (length w) store_words) (eq-eqb (length w) store_words) t.0 t.1

  pub reason_2_with_a_set : (not (lent_lengths w v z) ≡ true) ↔ ((length w ≡ store_words) × ((length v ≡ set_words_length) × (length z ≡ scratch_words)) → ⊥)
  reason_2_with_a_set = fails _ _ lengths.0 lengths.1

  pub reason_2_with_an_output : (o : List ℕ) (n : ℕ) → (not (lent_lengths w v z && eqb (length o) n) ≡ true)
      ↔ (((length w ≡ store_words) × ((length v ≡ set_words_length) × (length z ≡ scratch_words))) × (length o ≡ n) → ⊥)
  reason_2_with_an_output o n =
      let t = two_hold _ _ _ _ lengths.0 lengths.1 (eqb-true (length o) n) (eq-eqb (length o) n) in
      fails _ _ t.0 t.1

-- 7: "`add` to a read-only set": flag 8 of its flags
pub reason_7 : (v : List ℕ) → ((set_of v).closed ≡ true) ↔ (flag 8 v ≡ true)
reason_7 v = (λ e. e, λ e. e)

-- 10: "more than 64 stop states"
pub reason_10 : (stops : List ℕ) → (ltb most_stops (length stops) ≡ true) ↔ (most_stops < length stops)
reason_10 stops = (ltb-true most_stops (length stops), lt-ltb most_stops (length stops))

-- 4: "a context number is not below the count"
pub reason_4 : (w : List ℕ) (c : ℕ) → ((unknown_context w c).holds ≡ true) ↔ (contexts w ≤ c)
reason_4 w c = (λ e. ltb-false c (contexts w) (not-true _ e), λ h. ap not (le-ltb c (contexts w) h))

-- 5: "a return state from 4294967295 to 18446744073709551614"
pub reason_5 : (r : ℕ) → ((leb stop r && not (eqb r empty_mark)) ≡ true) ↔ ((stop ≤ r) × (r ≡ empty_mark → ⊥))
reason_5 r =
    let f = fails (eqb r empty_mark) (r ≡ empty_mark) (eqb-true r empty_mark) (eq-eqb r empty_mark) in
    two_hold _ _ _ _ (leb-true stop r) (le-leb stop r) f.0 f.1

-- 8: "`add` with a new key to a set of 256"
pub reason_8 : (k : ℕ) (v : List ℕ) (x : Config) → SoundSet k v
    → ((not (any (same_keys x) (set_of v).configs) && leb most_configs (length (set_of v).configs)) ≡ true)
    ↔ (((i : ℕ) → i < config_count v → key (config_at v i) ≡ key x → ⊥) × (config_count v ≡ most_configs))
reason_8 = full_exactly

-- 12: "too much work": the counted merge is refused 12, and so the left side has 65,536 entries or more, counted at each depth (work: `refusal_is`)
pub reason_12 : (o : Outcome ℕ) → ((too_much_work o).holds ≡ true) ↔ (o ≡ Work.refused 12)
reason_12 o = (too_much_lem o, is_too_much o)

-- 6: "the same call in a store without ceilings would end above 512 contexts or 2,048 entries"
pub reason_6 : (s : Store) → ((no_room s).holds ≡ true) ↔ ((length s ≤ most_contexts) × (pool s ≤ most_entries) → ⊥)
reason_6 s = fails (fits s) _ (fits_true s) (true_fits s)

-- "Refusal numbers, in order of checking": the numbers of each call's checks are among `order`, in that order
module _ (w v z o stops : List ℕ) (p r a b c n : ℕ) (m : Bool) (x : Config) where
  pub singleton_in_order : Sublistᴰ (map (λ (k : Check). k.number) (singleton_checks w z p r)) order
  singleton_in_order = in_order_lem order _ (Singles.singleton_in_order w z p r n)

  pub merge_in_order : Sublistᴰ (map (λ (k : Check). k.number) (merge_checks w z a b m)) order
  merge_in_order = in_order_lem order _ (Merges.merge_in_order w z a b m n)

  pub query_in_order : Sublistᴰ (map (λ (k : Check). k.number) (ask_checks w z c)) order
  query_in_order = in_order_lem order _ (ask_in_order w z c)

  pub add_in_order : Sublistᴰ (map (λ (k : Check). k.number) (add_checks w v z x)) order
  add_in_order = in_order_lem order _ (SetRefusals.add_in_order w v z x)

  pub close_in_order : Sublistᴰ (map (λ (k : Check). k.number) (lent_checks (lent_lengths w v z) w v [])) order
  close_in_order = in_order_lem order _ (SetRefusals.close_in_order w v z)

  pub subset_calls_in_order : Sublistᴰ (map (λ (k : Check). k.number) (read_checks n [] w v z o)) order
      × Sublistᴰ (map (λ (k : Check). k.number) (read_checks n (too_many_stops stops) w v z o)) order
  subset_calls_in_order = (in_order_lem order _ (read_in_order w v z o n stops).0, in_order_lem order _ (read_in_order w v z o n stops).1)

-- ---- "a refusal changes nothing in store or set, and clears the scratch (a wrong length leaves it)"

module _ (w v z : List ℕ) (n : ℕ) where
  pub singleton_keeps : (p r : ℕ) → (singleton_call w z p r).reply ≡ Stores.refused n → singleton_call w z p r ≡ Stores.refusal w z n
  singleton_keeps p r = singleton_refused_leaves w z p r n

  pub merge_keeps : (a b : ℕ) (m : Bool) → (merge_call w z a b m).reply ≡ Stores.refused n → merge_call w z a b m ≡ Stores.refusal w z n
  merge_keeps a b m = merge_refused_leaves w z a b m n

  pub query_keeps : (q : Question) (c : ℕ) → (query_call q w z c).reply ≡ Stores.refused n → query_call q w z c ≡ Stores.refusal w z n
  query_keeps q c = query_refused_leaves q w z c n

  pub add_keeps : (x : Config) → (add_call w v z x).reply ≡ Sets.refused n → add_call w v z x ≡ Sets.refusal w v z n
  add_keeps x = add_refused_leaves w v z x n

  pub close_keeps : (close_call w v z).reply ≡ Sets.refused n → close_call w v z ≡ Sets.refusal w v z n
  close_keeps = close_refused_leaves w v z n

  -- store and set are lent to read: what may be written is the scratch and the output
  pub subset_calls_keep : (o p stops : List ℕ)
      → ((conflicting_alt_subsets_call w v z o).reply ≡ Verdicts.refused n → conflicting_alt_subsets_call w v z o ≡ read_refusal z o n)
      × ((conflicting_alts_call w v z p).reply ≡ Verdicts.refused n → conflicting_alts_call w v z p ≡ read_refusal z p n)
      × ((unique_alt_call w v z).reply ≡ Verdicts.refused n → unique_alt_call w v z ≡ read_refusal z [] n)
      × ((single_viable_alt_call w v z).reply ≡ Verdicts.refused n → single_viable_alt_call w v z ≡ read_refusal z [] n)
      × ((all_subsets_conflict_call w v z).reply ≡ Verdicts.refused n → all_subsets_conflict_call w v z ≡ read_refusal z [] n)
      × ((all_subsets_equal_call w v z).reply ≡ Verdicts.refused n → all_subsets_equal_call w v z ≡ read_refusal z [] n)
      × ((verdict_call w v z stops).reply ≡ Verdicts.refused n → verdict_call w v z stops ≡ read_refusal z [] n)
      × ((figures_call w v z stops).reply ≡ Verdicts.refused n → figures_call w v z stops ≡ read_refusal z [] n)
      × ((why_call w v z stops p).reply ≡ Verdicts.refused n → why_call w v z stops p ≡ read_refusal z p n)
  subset_calls_keep o p stops = (
    (subsets_refuses w v z o n).1,
    (alts_refuses w v z p n).1,
    (unique_refuses w v z n).1,
    (viable_refuses w v z n).1,
    (conflict_refuses w v z n).1,
    (equal_refuses w v z n).1,
    (verdict_refuses w v z stops n).1,
    (figures_refuses w v z stops n).1,
    (why_refuses w v z stops p n).1,
  )

-- ---- the two calls that work without scratch, over any earlier contents

pub fresh_refused : (w : List ℕ) (n : ℕ) → ((fresh_call w).0 ≡ Stores.refused n) ↔ ((n ≡ 2) × (length w ≡ store_words → ⊥))
fresh_refused = fresh_refused_exactly

pub fresh_keeps : (w : List ℕ) → (length w ≡ store_words → ⊥) → fresh_call w ≡ (Stores.refused 2, w)
fresh_keeps = fresh_refused_leaves

pub fresh_set_refused : (v : List ℕ) (f : Bool) (n : ℕ) → ((fresh_set_call v f).0 ≡ Sets.refused n) ↔ ((n ≡ 2) × (length v ≡ set_words_length → ⊥))
fresh_set_refused = fresh-set-exactly

pub fresh_set_keeps : (v : List ℕ) (f : Bool) → (length v ≡ set_words_length → ⊥) → fresh_set_call v f ≡ (Sets.refused 2, v)
fresh_set_keeps = fresh-set-leaves
