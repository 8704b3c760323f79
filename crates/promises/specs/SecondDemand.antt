-- Promised: demand 2. "Answers, context numbers included, equal the Rust's within our capacities (differential runs), and are proved against
-- document 01's stack-set rules." w and w' are the words of a store before and after a call, v and v' those of a set, z those of the scratch.
-- Nothing here has to be believed but what the statements say.
use Rattle.std.specs.Prelude.{◌≡◌, ◌↔◌, Bool, true, false, not, ◌&&◌, ◌||◌, ℕ, suc, ◌<◌, ◌≤◌, ◌+◌, max, eqb, ltb, length, get_or, set}
use Rattle.std.proofs.Math.Path.{refl, ap}
use Rattle.std.proofs.Common.{◌∙◌, arith, le-ltb}
use mathlib.Core.List.{List, [], ◌∷◌, flat_map, Memᴰ}
use Rattle.encoding.specs.Names.{empty_mark}
use Rattle.encoding.specs.Provenance.{mark_of}
use Rattle.stacks.specs.Forest.{Forest, over, mem}
use Rattle.stacks.specs.Forest as Forests
use Rattle.stacks.specs.Merge.{merge_t}
use Rattle.stacks.specs.Rules.{Stacks, WildcardMerge}
use Rattle.stacks.proofs.RulesTheorems.{wildcard_determined}
use Rattle.arena.specs.Store.{end, dollar, Store, tree_of, tree, node_at}
use Rattle.arena.proofs.Trees.{tree_node}
use Rattle.arena.specs.Place.{intern}
use Rattle.arena.specs.Kinds.{size}
use Rattle.arena.proofs.KindsLaws.{intern_end, intern_dollar}
use Rattle.arena.specs.Stands.{stands}
use Rattle.arena.specs.Numbering.{parts, Joins}
use Rattle.arena.proofs.NumberingLaws.{joins_determined}
use Rattle.arena.proofs.Identity.{finite_stacks, some_stack, root_stands}
use Rattle.encoding.specs.Layout.{store_words, scratch_words, stop, blank, count as contexts, kind, first, second, state}
use Rattle.encoding.specs.Decode.{store_of}
use Rattle.encoding.specs.Encode.{words_of}
use Rattle.encoding.specs.Sound.{SoundWords}
use Rattle.encoding.specs.Decide.{sound}
use Rattle.encoding.proofs.DecideLaws.{sound_true, true_sound}
use Rattle.encoding.specs.Decoded.{decoded}
use Rattle.store.specs.Calls as Stores
use Rattle.store.specs.Calls.{zeros, leaves, Accepts, fresh_call}
use Rattle.store.proofs.FreshWords.{fresh_goes, fresh_count}
use Rattle.store.proofs.Told.{fresh_sound}
use Rattle.interning.specs.SingletonCall.{singleton_call}
use Rattle.interning.proofs.Promises.{mark_answers_0, single_stands, single_sound_after, single_numbers}
use Rattle.configs.specs.MergeCall.{merge_call}
use Rattle.configs.specs.Promises.{merge_by_wildcard, merge_sound_after, merge_numbers_after}
use Rattle.queries.specs.Queries.{Question, entry_count, entry_state, entry_parent, answer_to, query_call}
use Rattle.queries.proofs.Sentences as Asked
use Rattle.sets.specs.Layout.{set_words_length, config_at, config_count, flag}
use Rattle.sets.specs.Config.{Config}
use Rattle.sets.specs.Sets.{key}
use Rattle.sets.specs.Words.{set_of, SoundSet, sound_set, bit}
use Rattle.sets.proofs.Sound.{sound_set_true, true_sound_set}
use Rattle.sets.specs.Calls as Sets
use Rattle.sets.specs.Calls.{Adds, fresh_set_call, add_call, close_call}
use Rattle.configs.proofs.Sentences as Added
use Rattle.groups.specs.Lists.{All}
use Rattle.groups.specs.Groups.{Group, groups}
use Rattle.groups.specs.Answers as Answers
use Rattle.groups.specs.Answers.{none, conflicting_alts, unique_alt, single_viable_alt, all_subsets_conflict, all_subsets_equal}
use Rattle.groups.specs.Sentences.{Subsets, Many, ConflictUnion, AllEqual, Viable, Unique, Says, VerdictYes}
use Rattle.groups.proofs.Rules.{groups_unique}
use Rattle.groups.proofs.Room.{groups_fit, conflicting_most}
use Rattle.readers.specs.Outputs.Laws.{all_words}
use Rattle.sets.specs.Listed.{configs_length}
use Rattle.groups.proofs.Single.{unique_says, viable_says}
use Rattle.groups.proofs.Conflicts.{conflict_exact}
use Rattle.groups.proofs.Equal.{equal_exact}
use Rattle.groups.proofs.Decided.{verdict_exact, verdict_empty, conflict_empty, equal_empty, viable_empty, unique_empty}
use Rattle.readers.specs.Outputs.{subsets_length, alts_length, padded, group_words}
use Rattle.readers.specs.VerdictsCalls.{alternative, says, most_stops, conflicting_alt_subsets_call, conflicting_alts_call, unique_alt_call, single_viable_alt_call}
use Rattle.readers.specs.VerdictsCalls.{all_subsets_conflict_call, all_subsets_equal_call, too_many_stops, verdict_call, VerdictLeft}
use Rattle.readers.specs.VerdictsSentences as Judged
use Rattle.promises.specs.Words.{store_sound, known, asks, lent, answers, close_leaves}

-- "equal the Rust's within our capacities (differential runs)": no theorem, but the gate's comparisons with the Rust that is ported, in rust/; how many contexts a call made
-- the Rust does not say, and the oracle counts its records for it (request A3).

-- ---- the words of a store

-- words of the right length pass the test exactly if document 01 calls them sound, clause by clause
pub sound_exactly_by_the_clauses : (w : List ℕ) → length w ≡ store_words → (sound w ≡ true) ↔ SoundWords w
sound_exactly_by_the_clauses w l = (sound_true w l, true_sound w l)

-- sound words are those of the store that they hold, so that words and stores tell the same
pub words_and_store : (w : List ℕ) → length w ≡ store_words → sound w ≡ true → w ≡ words_of (store_of w)
words_and_store w l s = (decoded w l (sound_true w l s)).1

-- "A fresh store is count 1 and zeros, written over any earlier contents", and it is sound
pub fresh_store_lem : (w : List ℕ) → length w ≡ store_words → (fresh_call w ≡ (Stores.done, set (blank store_words) 0 1)) × (sound (fresh_call w).1 ≡ true)
fresh_store_lem w l = (fresh_count w l, rw (fresh_goes w l) fresh_sound)

-- ---- "Stacks and merges", of the contexts of a sound store

module _ (w : List ℕ) (l : length w ≡ store_words) (s : sound w ≡ true) where
  -- "A context stands for a finite, non-empty set of stacks of return states."
  pub finite_and_some : (c : ℕ) → c < contexts w
      → ((σs : List (List ℕ)) × ((σ : List ℕ) → (stands (store_of w) c σ ≡ true) ↔ Memᴰ σ σs)) × ((σ : List ℕ) × (stands (store_of w) c σ ≡ true))
  finite_and_some c h = (finite_stacks (store_of w) c, some_stack (store_of w) (store_sound w l s) c (known w c h))

  -- "Context 0 stands for the set with only the empty stack."
  pub context_0 : (stands (store_of w) 0 [] ≡ true) × ((x : ℕ) (σ : List ℕ) → stands (store_of w) 0 (x ∷ σ) ≡ false)
  context_0 = root_stands (store_of w) (store_sound w l s) (known w 0 (omega (arith, (sound_true w l s).counted.0)))

  -- "An array stands for the union over its entries. The entry `$` .. is the empty stack."
  pub each_record : (c : ℕ) → c < contexts w → (σ : List ℕ) → stands (store_of w) c σ ≡ mem (tree_of (tree (store_of w)) (node_at (store_of w) c)) σ
  each_record c h σ = ap (λ (F : Forest). mem F σ) (tree_node (store_of w) (store_sound w l s) c (known w c h))

  -- "An interned list .. of one other entry, a singleton; of two or more, an array."
  pub one_entry : (c : ℕ) → c < contexts w → 0 < c → size (node_at (store_of w) c) ≡ 1 → kind w c ≡ 1
  one_entry c h = Asked.one_is_singleton w c (asks w l s c h)

  pub more_entries : (c : ℕ) → c < contexts w → 2 ≤ size (node_at (store_of w) c) → kind w c ≡ 2
  more_entries c h = Asked.more_are_array w c (asks w l s c h)

  -- "An interned list of no entries, or of `$` alone, is context 0"
  pub no_entries : (intern (store_of w) end ≡ (0, store_of w)) × (intern (store_of w) dollar ≡ (0, store_of w))
  no_entries =
      let some = known w 0 (omega (arith, (sound_true w l s).counted.0)) in
      (intern_end (store_of w) (store_sound w l s) some, intern_dollar (store_of w) (store_sound w l s) some)

  -- a query answers of the context's entries and of its stacks: how many entries; is it the set of the empty stack alone; is the empty stack in it
  pub queries_answer : (q : Question) (z : List ℕ) → length z ≡ scratch_words → (c : ℕ) → c < contexts w → (query_call q w z c).reply ≡ answer_to q (store_of w) c
  queries_answer q z lz c h = ap (λ (x : Stores.Left). x.reply) (answers w z c (answer_to q (store_of w) c) l lz s h)

  -- "Queries": "`return_state` of a `$`, context 0's at 0 included, is the empty mark; `parent` of context 0 is none at every index .. Context 0
  -- has one entry."
  pub queries_of_0 : (answer_to entry_count (store_of w) 0 ≡ Stores.count 1) × (answer_to (entry_state 0) (store_of w) 0 ≡ Stores.state empty_mark)
      × ((i : ℕ) → answer_to (entry_parent i) (store_of w) 0 ≡ Stores.none)
  queries_of_0 = let v = sound_true w l s in (ap Stores.count (Asked.root_one w l v), Asked.root_state w l v, Asked.root_parent w l v)

  -- "`return_state` of a `$` .. is the empty mark .. yet the parent of an array's `$` is 0."
  pub queries_of_dollar : (c i : ℕ) → c < contexts w → kind w c ≡ 2 → i < second w c → state w (first w c + i) ≡ stop
      → (answer_to (entry_state i) (store_of w) c ≡ Stores.state empty_mark) × (answer_to (entry_parent i) (store_of w) c ≡ Stores.context 0)
  queries_of_dollar c i h e k d =
      let n = asks w l s c h in (Asked.dollar_state w c n i e k d, Asked.dollar_parent w c n i e k d)

  -- "An index past the end is none."
  pub queries_past_the_end : (c i : ℕ) → c < contexts w → size (node_at (store_of w) c) ≤ i
      → (answer_to (entry_state i) (store_of w) c ≡ Stores.none) × (answer_to (entry_parent i) (store_of w) c ≡ Stores.none)
  queries_past_the_end c i h k =
      let n = asks w l s c h in (Asked.past_state w c n i k, Asked.past_parent w c n i k)

-- ---- an accepted singleton

module _ (w z : List ℕ) (p r c : ℕ) (w' : List ℕ) (ok : Accepts (singleton_call w z p r) c w') where
  -- "A singleton (parent p, state r) stands for r placed on top of each stack of p."
  pub singleton_stands : r < stop → (stands (store_of w') c [] ≡ false) × ((x : ℕ) (σ : List ℕ) → stands (store_of w') c (x ∷ σ) ≡ (eqb r x && stands (store_of w) p σ))
  singleton_stands = single_stands w z p r c w' ok

  -- "The empty mark 18446744073709551615 answers 0", and nothing is made
  pub singleton_of_the_mark : r ≡ empty_mark → (c ≡ 0) × (w' ≡ w)
  singleton_of_the_mark = mark_answers_0 w z p r c w' ok

  -- the number is in a sound store afterwards
  pub singleton_sound : (length w' ≡ store_words) × (sound w' ≡ true) × (c < contexts w')
  singleton_sound = single_sound_after w z p r c w' ok

  -- "New contexts take the next number .. and nothing else is made."
  pub singleton_numbers : r < stop → Joins (store_of w) (parts (over r (tree (store_of w) p) Forests.none)) (store_of w')
  singleton_numbers = single_numbers w z p r c w' ok

-- ---- an accepted merge

-- that rule leaves no choice: as many contexts, and number by number the same sets
pub no_choice_of_numbers : {s u v : Store} {Fs : List Forest} → Joins s Fs u → Joins s Fs v → (length u ≡ length v) × ((c : ℕ) → tree u c ≡ tree v c)
no_choice_of_numbers p q = let r = joins_determined (record { count = refl; each = λ c. refl }) p q in (r.count, r.each)

-- "Wildcard merge of A and B", sentence by sentence; the full-context merge is demand 3's
pub wildcard : (w z : List ℕ) (a b c : ℕ) (w' : List ℕ) → Accepts (merge_call w z a b true) c w'
    → WildcardMerge (stands (store_of w) a) (stands (store_of w) b) (stands (store_of w') c)
wildcard = merge_by_wildcard

-- these sentences leave no choice
pub no_choice_by_wildcard : {A B C D : Stacks} → WildcardMerge A B C → WildcardMerge A B D → (σ : List ℕ) → C σ ≡ D σ
no_choice_by_wildcard {D = D} c d = wildcard_determined c D d

module _ (w z : List ℕ) (a b : ℕ) (m : Bool) (c : ℕ) (w' : List ℕ) (ok : Accepts (merge_call w z a b m) c w') where
  -- the number is in a sound store afterwards
  pub merge_sound : (length w' ≡ store_words) × (sound w' ≡ true) × (c < contexts w')
  merge_sound = merge_sound_after w z a b m c w' ok

  -- "New contexts take the next number: inner merges go in rising order of top state, each before the context above it, and nothing else is made."
  pub merge_numbers : Joins (store_of w) (parts (merge_t m (tree (store_of w) a) (tree (store_of w) b))) (store_of w')
  merge_numbers = merge_numbers_after w z a b m c w' ok

-- ---- config sets

pub set_sound_exactly_by_the_clauses : (k : ℕ) (v : List ℕ) → length v ≡ set_words_length → (sound_set k v ≡ true) ↔ SoundSet k v
set_sound_exactly_by_the_clauses k v l = (sound_set_true k v, true_sound_set k v l)

-- "A fresh set is flag 1 or 0 and else zeros, over any contents."
pub fresh_set_lem : (v : List ℕ) (f : Bool) (v' : List ℕ) → fresh_set_call v f ≡ (Sets.done, v')
    → (get_or v' 1 0 ≡ bit f 1) × ((j : ℕ) → j < set_words_length → (j ≡ 1 → ⊥) → get_or v' j 0 ≡ 0) × ((k : ℕ) → SoundSet k v')
fresh_set_lem v f v' ok = (Added.fresh_flag v f v' ok, Added.fresh_zeros v f v' ok, Added.fresh_sound v f v' ok)

module _ (w v z : List ℕ) (x : Config) (a : ℕ) (w' v' : List ℕ) (ok : Adds (add_call w v z x) a w' v') where
  -- "On a known key the contexts are merged (wildcard unless flag 1), reach becomes the larger, bit 31 the OR of both, answer "merged".": 0
  module _ (i : ℕ) (here : i < config_count v) (same : key (config_at v i) ≡ key x) where
    pub add_merges : (a ≡ 0) × (config_count v' ≡ config_count v) × (key (config_at v' i) ≡ key x)
        × Accepts (merge_call w z (config_at v i).context x.context (not (flag 1 v))) (config_at v' i).context w'
        × ((config_at v' i).reach ≡ max (config_at v i).reach x.reach)
        × (mark_of (config_at v' i).provenance ≡ max (mark_of (config_at v i).provenance) (mark_of x.provenance))
        × ((j : ℕ) → j < config_count v → (j ≡ i → ⊥) → config_at v' j ≡ config_at v j)
    add_merges = (
      Added.merged_answer w v z x a w' v' ok i here same,
      Added.merged_count w v z x a w' v' ok i here same,
      Added.merged_key w v z x a w' v' ok i here same,
      Added.merged_accepted w v z x a w' v' ok i here same,
      Added.merged_reach w v z x a w' v' ok i here same,
      Added.merged_mark w v z x a w' v' ok i here same,
      Added.merged_others w v z x a w' v' ok i here same,
    )

    -- the config's context stands for the union of both in a full-context set, and for document 01's wildcard merge in another
    pub add_stands : (flag 1 v ≡ true → (σ : List ℕ)
        → stands (store_of w') (config_at v' i).context σ ≡ (stands (store_of w) (config_at v i).context σ || stands (store_of w) x.context σ))
        × (flag 1 v ≡ false → WildcardMerge (stands (store_of w) (config_at v i).context) (stands (store_of w) x.context) (stands (store_of w') (config_at v' i).context))
    add_stands =
        let r = Added.merged_stands w v z x a w' v' ok i here same in
        (λ e. rw e at r, λ e. rw e at r)

  -- "Otherwise the config goes last, answer "inserted".": 1
  pub add_inserts : ((i : ℕ) → i < config_count v → key (config_at v i) ≡ key x → ⊥)
      → (a ≡ 1) × (w' ≡ w) × (config_count v' ≡ suc (config_count v)) × (config_at v' (config_count v) ≡ x)
      × ((j : ℕ) → j < config_count v → config_at v' j ≡ config_at v j)
  add_inserts new = (
    Added.inserted_answer w v z x a w' v' ok new,
    Added.inserted_store w v z x a w' v' ok new,
    Added.inserted_count w v z x a w' v' ok new,
    Added.inserted_last w v z x a w' v' ok new,
    Added.inserted_others w v z x a w' v' ok new,
  )

  -- store and set are sound afterwards, and the set's own flags are as they were
  pub add_sound : (sound w' ≡ true) × SoundSet (contexts w') v' × (flag 1 v' ≡ flag 1 v) × (flag 8 v' ≡ false)
  add_sound = (
    (Added.sound_after w v z x a w' v' ok).0,
    (Added.sound_after w v z x a w' v' ok).1,
    Added.full_kept w v z x a w' v' ok,
    Added.open_after w v z x a w' v' ok,
  )

-- "Closing a set sets flag 8", and nothing else
pub close_sets_flag_8 : (w v z w' v' : List ℕ) → ((close_call w v z).reply ≡ Sets.done) × ((close_call w v z).store ≡ w') × ((close_call w v z).set ≡ v')
    → (w' ≡ w) × (flag 8 v' ≡ true) × (flag 1 v' ≡ flag 1 v) × (config_count v' ≡ config_count v)
    × ((j : ℕ) → j < config_count v → config_at v' j ≡ config_at v j) × SoundSet (contexts w) v'
close_sets_flag_8 w v z w' v' ok = (
  Added.closed_store w v z w' v' (close_leaves w v z w' v' ok),
  Added.closed_flag w v z w' v' (close_leaves w v z w' v' ok),
  Added.closed_full w v z w' v' (close_leaves w v z w' v' ok),
  Added.closed_count w v z w' v' (close_leaves w v z w' v' ok),
  Added.closed_configs w v z w' v' (close_leaves w v z w' v' ok),
  Added.closed_sound w v z w' v' (close_leaves w v z w' v' ok),
)

-- ---- subsets, alternatives and the verdict, of sound words

-- the sentences on subsets leave no choice
pub no_choice_of_subsets : (v : List ℕ) (gs : List Group) → Subsets (set_of v).configs gs → gs ≡ groups (set_of v).configs
no_choice_of_subsets v gs = groups_unique (set_of v).configs gs

module _ (w v z : List ℕ) (lw : length w ≡ store_words) (lv : length v ≡ set_words_length) (lz : length z ≡ scratch_words)
    (s : SoundWords w) (t : SoundSet (contexts w) v) where
  -- "Subsets: configs grouped by state and context, in order of each group's first config, alternatives rising .. They are written to 1,025 words"
  pub subsets : (o : List ℕ) → length o ≡ subsets_length
      → Subsets (set_of v).configs (groups (set_of v).configs)
      × ((conflicting_alt_subsets_call w v z o).output ≡ padded subsets_length (length (groups (set_of v).configs) ∷ flat_map group_words (groups (set_of v).configs)))
  subsets = Judged.subsets_written w v z (lent w v z lw lv lz s t)

  -- "`conflicting_alts`, the union of the groups with two or more, goes to 257 words"
  pub conflicting : (o : List ℕ) → length o ≡ alts_length
      → ConflictUnion (groups (set_of v).configs) (conflicting_alts (set_of v).configs)
      × ((conflicting_alts_call w v z o).output ≡ padded alts_length (length (conflicting_alts (set_of v).configs) ∷ conflicting_alts (set_of v).configs))
  conflicting = Judged.alts_written w v z (lent w v z lw lv lz s t)

  -- 1,025 and 257 words are enough
  pub outputs_suffice : (length (length (groups (set_of v).configs) ∷ flat_map group_words (groups (set_of v).configs)) ≤ subsets_length)
      × (length (length (conflicting_alts (set_of v).configs) ∷ conflicting_alts (set_of v).configs) ≤ alts_length)
  outputs_suffice =
      let n = configs_length v (config_count v) in (
        omega (arith, all_words (groups (set_of v).configs), groups_fit (set_of v).configs (omega (arith, n, t.counted))),
        omega (arith, conflicting_most (set_of v).configs, n, t.counted),
      )

  -- unique: the set is not empty and every config has it. Viable: the least of every subset. Else the answer is none
  pub unique : ((unique_alt_call w v z).reply ≡ alternative (unique_alt (set_of v).configs)) × Says (Unique (set_of v).configs) (unique_alt (set_of v).configs)
  unfolding unique_alt_call
  unique = (ap (λ (x : VerdictLeft). x.reply) (Judged.answered w v z (lent w v z lw lv lz s t) 0 [] refl [] tt _ []), unique_says (set_of v).configs)

  pub viable : ((single_viable_alt_call w v z).reply ≡ alternative (single_viable_alt (set_of v).configs))
      × Says (Viable (groups (set_of v).configs)) (single_viable_alt (set_of v).configs)
  unfolding single_viable_alt_call
  viable = (ap (λ (x : VerdictLeft). x.reply) (Judged.answered w v z (lent w v z lw lv lz s t) 0 [] refl [] tt _ []), viable_says (set_of v).configs)

  -- conflict: each subset has two or more. Equal: all have the same alternatives. Yes exactly then, and else no
  pub conflict : ((all_subsets_conflict_call w v z).reply ≡ says (all_subsets_conflict (set_of v).configs))
      × ((all_subsets_conflict (set_of v).configs ≡ true) ↔ All Many (groups (set_of v).configs))
  unfolding all_subsets_conflict_call
  conflict = (ap (λ (x : VerdictLeft). x.reply) (Judged.answered w v z (lent w v z lw lv lz s t) 0 [] refl [] tt _ []), conflict_exact (set_of v).configs)

  pub equal : ((all_subsets_equal_call w v z).reply ≡ says (all_subsets_equal (set_of v).configs))
      × ((all_subsets_equal (set_of v).configs ≡ true) ↔ AllEqual (groups (set_of v).configs))
  unfolding all_subsets_equal_call
  equal = (ap (λ (x : VerdictLeft). x.reply) (Judged.answered w v z (lent w v z lw lv lz s t) 0 [] refl [] tt _ []), equal_exact (set_of v).configs)

  -- "Verdict: yes if every config is in a listed stop state, an empty set included. Else yes exactly if some subset has two or more alternatives
  -- and no state has just one."
  pub verdict : (stops : List ℕ) → length stops ≤ most_stops
      → ((verdict_call w v z stops).reply ≡ says (Answers.verdict stops (set_of v).configs))
      × ((Answers.verdict stops (set_of v).configs ≡ true) ↔ VerdictYes stops (set_of v).configs)
  unfolding verdict_call
  verdict stops h = (
    ap (λ (x : VerdictLeft). x.reply)
        (Judged.answered w v z (lent w v z lw lv lz s t) 0 [] refl (too_many_stops stops) (le-ltb most_stops (length stops) h, tt) _ []),
    verdict_exact stops (set_of v).configs,
  )

-- "Of a set without subsets, `all_subsets_conflict` and `all_subsets_equal` say yes, `single_viable_alt` says none"; `unique_alt` none; the verdict yes
pub without_subsets : (stops : List ℕ) → (all_subsets_conflict [] ≡ true) × (all_subsets_equal [] ≡ true) × (single_viable_alt [] ≡ none)
    × (unique_alt [] ≡ none) × (Answers.verdict stops [] ≡ true)
without_subsets stops = (conflict_empty, equal_empty, viable_empty, unique_empty, verdict_empty stops)
