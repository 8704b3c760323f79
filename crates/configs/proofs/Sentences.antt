-- Document 01's sentences on sets, of the calls that are accepted. Nothing here has to be believed.
use Rattle.std.proofs.Math.Path.{◌≡◌, refl, sym, ap}
use Rattle.std.proofs.Common.{◌∙◌, subst, arith, length-append}
use Rattle.std.specs.Prelude.{◌↔◌, ◌≢◌, Bool, true, false, not, ℕ, suc, ◌+◌, ◌-◌, ◌<◌, ◌≤◌, max, get_or}
use mathlib.Core.List.{List, [], ◌∷◌, ◌++◌}
use Rattle.std.proofs.Math.ListN.{length}
use borrow.Author.Tests.{not-false, ltb-true, leb-false}
use Rattle.words.specs.Provenance.{mark_of}
use Rattle.words.specs.Provenance.Laws.{mark_of_merged}
use Rattle.stacks.specs.Forest.{mem}
use Rattle.stacks.proofs.RulesLaws.{MergeRule}
use Rattle.words.specs.Numbers.{two}
use Rattle.arena.specs.Store.{Store, tree}
use Rattle.arena.specs.Place.{merge_s}
use Rattle.arena.proofs.Placed.{grew_length}
use Rattle.arena.proofs.Steps.{merge_grew}
use Rattle.layout.specs.Layout.{scratch_words, count as contexts}
use Rattle.layout.specs.Decode.{store_of}
use Rattle.layout.specs.Decode.Laws.{store_length}
use Rattle.layout.specs.Encode.{words_of}
use Rattle.encoding.specs.Decoded.{decoded}
use Rattle.encoding.specs.Decide.{sound, fits}
use Rattle.encoding.proofs.DecideLaws.{true_sound}
use Rattle.store.specs.Counted.{counting, too_much, count_of}
use Rattle.store.specs.Calls.{context, Left, leaves_after, zeros}
use Rattle.store.specs.Admit.{sound_goes, known_goes}
use Rattle.contexts.specs.MergeCall.{merge_call}
use Rattle.contexts.specs.MergeCall.Laws.{merge_nested, merged_known}
use Rattle.contexts.specs.Promises.{store_after, merge_sound_after, merge_stands, merge_figure}
use Rattle.sets.specs.Config.{Config}
use Rattle.sets.specs.Lists.{any, all}
use Rattle.words.specs.Bools.{bool?, never_both}
use Rattle.sets.specs.Layout.{most_configs, set_words_length, config_at, config_count, flag_word, flag}
use Rattle.sets.specs.Sets.{Set, empty_set, closed_set, key, same_keys, with_configs, joined, joined_all, Addition, add_to}
use Rattle.sets.specs.Sets.Laws.{key_of_same, same_of_key, other_key, key_joined, held_new}
use Rattle.sets.specs.Words.{bit, set_words, configs_in, set_of, SoundSet, distinct, good_set}
use Rattle.sets.specs.Listed.{none_any, any_at, any_none, configs_length, configs_same, last_equal}
use Rattle.sets.specs.Held.{HeldSet, words_held, held_words, held_set}
use Rattle.sets.proofs.Sound.{sound_good, held_sound, good_few}
use Rattle.sets.proofs.Joined.{joined_if, joined_here, joined_other, joined_length, joined_at, only_key, held_here}
use Rattle.sets.proofs.Kept.{good_inserted, good_joined}
use Rattle.store.specs.Checks.Laws.{Clear, by_unless, passed_clear, clear_passed}
use Rattle.sets.proofs.Refusals.{SoundLent, clear_lent, lent_clear, refusal_reply, refusal_keeps, refusal_made, fresh_refused_leaves}
use Rattle.sets.specs.Calls.{SetReply, refused, done, added, SetLeft, set_left, adds_after, Adds, refusal, lent_lengths, lent_checks, add_work, add_checks, fresh_set_call, add_call}
use Rattle.sets.specs.Calls.{close_call}
use Rattle.configs.proofs.Joins.{made_is}
use Rattle.configs.specs.Settles.{fresh_flags, fresh_goes}
use Rattle.configs.proofs.Adds.{add_joined, add_new, work_joined}

-- the contexts of config i and of x, merged in the set's kind
unfoldable merged_to : List ℕ → List ℕ → Config → ℕ → ℕ × Store
merged_to w v x i = merge_s (not (flag 1 v)) (store_of w) (config_at v i).context x.context

module _ (w v z : List ℕ) (x : Config) (a : ℕ) (w' v' : List ℕ) (ok : Adds (add_call w v z x) a w' v') where
  -- ---- the checks were passed

  not_refused : (n : ℕ) → Adds (refusal w v z n) a w' v' → ⊥
  not_refused n e =
      let q : refused n ≡ added a = sym (refusal_reply w v z n) ∙ e.0 in
      let k : ◌≡◌ {A = ℕ} 0 1 = cc in
      omega arith

  passed : Clear (add_checks w v z x)
  unfolding add_call
  passed = passed_clear (refusal w v z) _ (λ (l : SetLeft). Adds l a w' v') not_refused (add_checks w v z x) ok

  pub lent : SoundLent w v z
  unfolding add_checks lent_checks
  lent = clear_lent w v z (passed.0, (passed.1.0, (passed.1.1.0, tt)))

  pub was_open : flag 8 v ≡ false
  unfolding add_checks lent_checks
  was_open = passed.1.1.1.0

  pub context_known : x.context < contexts w
  unfolding add_checks lent_checks
  context_known = ltb-true x.context (contexts w) (not-false _ passed.1.1.1.1.0)

  after : Addition
  after = add_to (store_of w) (set_of v) x

  outcome : add_call w v z x ≡ adds_after (count_of (add_work (store_of w) (set_of v) x)) (store_of w) after
  unfolding add_call after
  outcome = clear_passed (refusal w v z) _ (add_checks w v z x) passed

  is_answer : a ≡ after.answer
  is_answer = let q : added a ≡ added after.answer = sym ok.0 ∙ ap (λ (l : SetLeft). l.reply) outcome in cc

  is_store : w' ≡ words_of after.store
  is_store = sym ok.1 ∙ ap (λ (l : SetLeft). l.store) outcome

  is_set : v' ≡ set_words after.set
  is_set = sym ok.2 ∙ ap (λ (l : SetLeft). l.set) outcome

  good : good_set (contexts w) (set_of v) ≡ true
  good = sound_good (contexts w) v lent.set_sound

  little : too_much (add_work (store_of w) (set_of v) x) ≡ false
  unfolding add_checks lent_checks
  little = passed.1.1.1.1.1.1.0

  there_is_room : not (fits after.store) ≡ false
  unfolding add_checks lent_checks after
  there_is_room = passed.1.1.1.1.1.1.1.0

  -- ---- "Otherwise the config goes last, answer "inserted"."

  module _ (new : (i : ℕ) → i < config_count v → key (config_at v i) ≡ key x → ⊥) where
    no_key : any (same_keys x) (set_of v).configs ≡ false
    no_key = none_any (same_keys x) v (config_count v) (λ i l. other_key x (config_at v i) (λ e. new i l (sym e)))

    insertion : after ≡ record { answer = 1; store = store_of w; set = with_configs (set_of v) ((set_of v).configs ++ (x ∷ [])) }
    unfolding after
    insertion = add_new (store_of w) (set_of v) x (held_new x (set_of v).configs no_key)

    had_room : length (set_of v).configs < most_configs
    unfolding add_checks lent_checks
    had_room = leb-false most_configs (length (set_of v).configs) ((rw no_key at passed.1.1.1.1.1.0))

    inserted_held : HeldSet v' (with_configs (set_of v) ((set_of v).configs ++ (x ∷ [])))
    inserted_held =
        let e : v' ≡ set_words (with_configs (set_of v) ((set_of v).configs ++ (x ∷ []))) = is_set ∙ ap (λ (A : Addition). set_words A.set) insertion in
        rw e (words_held (with_configs (set_of v) ((set_of v).configs ++ (x ∷ []))) (good_few (contexts w) _ (good_inserted (contexts w) (set_of v) x good context_known no_key had_room)))

    pub inserted_answer : a ≡ 1
    inserted_answer = is_answer ∙ ap (λ (A : Addition). A.answer) insertion

    -- nothing was merged: the store is as it was
    pub inserted_store : w' ≡ w
    inserted_store =
        is_store ∙ ap (λ (A : Addition). words_of A.store) insertion ∙ sym (decoded w lent.store_length lent.store_sound).1

    inserted_configs : configs_in v' (suc (config_count v)) ≡ configs_in v (config_count v) ++ (x ∷ [])
    inserted_configs =
        let n : length ((set_of v).configs ++ (x ∷ [])) ≡ suc (config_count v) = length-append (set_of v).configs (x ∷ []) ∙ omega (arith, configs_length v (config_count v)) in
        rw n at inserted_held.configs

    pub inserted_count : config_count v' ≡ suc (config_count v)
    inserted_count = inserted_held.count ∙ length-append (set_of v).configs (x ∷ []) ∙ omega (arith, configs_length v (config_count v))

    split : (configs_in v' (config_count v) ≡ configs_in v (config_count v)) × (config_at v' (config_count v) ≡ x)
    unfolding configs_in
    split =
        last_equal (configs_in v' (config_count v)) (configs_in v (config_count v)) (config_at v' (config_count v)) x
        (configs_length v' (config_count v) ∙ sym (configs_length v (config_count v))) inserted_configs

    pub inserted_last : config_at v' (config_count v) ≡ x
    inserted_last = split.1

    pub inserted_others : (j : ℕ) → j < config_count v → config_at v' j ≡ config_at v j
    inserted_others = configs_same v' v (config_count v) split.0

    inserted_sound : SoundSet (contexts w') v'
    inserted_sound =
        rw inserted_store
        (held_sound (contexts w) v' _ inserted_held (good_inserted (contexts w) (set_of v) x good context_known no_key had_room))

  -- ---- "On a known key the contexts are merged (wildcard unless flag 1), reach becomes the larger, bit 31 the OR of both, answer "merged"."

  module _ (i : ℕ) (here : i < config_count v) (same : key (config_at v i) ≡ key x) where
    same_key : same_keys x (config_at v i) ≡ true
    same_key = same_of_key x (config_at v i) (sym same)

    joining : after ≡ record { answer = 0; store = (merged_to w v x i).1; set = with_configs (set_of v) (joined_all x (merged_to w v x i).0 (set_of v).configs) }
    unfolding after merged_to
    joining = add_joined (store_of w) (set_of v) x (config_at v i).context (held_here lent.set_sound x i here same_key)

    pub merged_answer : a ≡ 0
    merged_answer = is_answer ∙ ap (λ (A : Addition). A.answer) joining

    merged_held : HeldSet v' (with_configs (set_of v) (joined_all x (merged_to w v x i).0 (set_of v).configs))
    merged_held =
        let e : v' ≡ set_words (with_configs (set_of v) (joined_all x (merged_to w v x i).0 (set_of v).configs)) = is_set ∙ ap (λ (A : Addition). set_words A.set) joining in
        rw e (words_held (with_configs (set_of v) (joined_all x (merged_to w v x i).0 (set_of v).configs))
        (omega (arith, joined_length x (merged_to w v x i).0 (set_of v).configs, good_few (contexts w) (set_of v) good)))

    pub merged_count : config_count v' ≡ config_count v
    merged_count = merged_held.count ∙ joined_length x (merged_to w v x i).0 (set_of v).configs ∙ configs_length v (config_count v)

    at_place : (j : ℕ) → j < config_count v → config_at v' j ≡ joined_if x (merged_to w v x i).0 (config_at v j)
    at_place =
        let n : length (joined_all x (merged_to w v x i).0 (set_of v).configs) ≡ config_count v = joined_length x (merged_to w v x i).0 (set_of v).configs ∙ configs_length v (config_count v) in
        joined_at x (merged_to w v x i).0 v' v (config_count v) (rw n at merged_held.configs)

    config_now : config_at v' i ≡ joined x (merged_to w v x i).0 (config_at v i)
    config_now = at_place i here ∙ joined_here x (merged_to w v x i).0 (config_at v i) same_key

    pub merged_key : key (config_at v' i) ≡ key x
    merged_key = ap key config_now ∙ key_joined x (merged_to w v x i).0 (config_at v i) ∙ same

    pub merged_reach : (config_at v' i).reach ≡ max (config_at v i).reach x.reach
    unfolding joined
    merged_reach = ap (λ (y : Config). y.reach) config_now

    pub merged_mark : mark_of (config_at v' i).provenance ≡ max (mark_of (config_at v i).provenance) (mark_of x.provenance)
    unfolding joined
    merged_mark = ap (λ (y : Config). mark_of y.provenance) config_now ∙ mark_of_merged (config_at v i).provenance x.provenance

    pub merged_others : (j : ℕ) → j < config_count v → j ≢ i → config_at v' j ≡ config_at v j
    merged_others j l d = at_place j l ∙ joined_other x (merged_to w v x i).0 (config_at v j) (only_key lent.set_sound x i here same_key j l d)

    -- the store after is the merge's, and so is the config's context
    pub merged_call : merge_call w z (config_at v i).context x.context (not (flag 1 v))
        ≡ leaves_after (add_call w v z x).merges (add_call w v z x).made (context (config_at v' i).context) w' zeros
    unfolding merged_to joined merged_known
    merged_call =
        let l = lent in
        let work = work_joined (store_of w) (set_of v) x (config_at v i).context (held_here lent.set_sound x i here same_key) in
        let c : (config_at v' i).context ≡ (merged_to w v x i).0 = ap (λ (y : Config). y.context) config_now in
        let s : w' ≡ words_of (merged_to w v x i).1 = is_store ∙ ap (λ (A : Addition). words_of A.store) joining in
        merge_nested w z (config_at v i).context x.context (not (flag 1 v))
        ∙ sound_goes w z _ l.store_length l.scratch_length l.store_sound
        ∙ known_goes w (config_at v i).context _ (l.set_sound.known i here)
        ∙ known_goes w x.context _ context_known
        ∙ made_is w (counting (not (flag 1 v)) (store_of w) (config_at v i).context x.context) (merged_to w v x i)
        (rw work at little) (not-false _ (rw joining at there_is_room))
        ∙ rw (c, s, ap (λ (l : SetLeft). l.merges) outcome, ap (λ (l : SetLeft). l.made) outcome, work, joining)

    pub merged_accepted : ((merge_call w z (config_at v i).context x.context (not (flag 1 v))).reply ≡ context (config_at v' i).context)
        × ((merge_call w z (config_at v i).context x.context (not (flag 1 v))).store ≡ w')
    merged_accepted = (ap (λ (l : Left). l.reply) merged_call, ap (λ (l : Left). l.store) merged_call)

    -- it stands for the union of both in a full-context set, and for document 01's wildcard merge in another
    pub merged_stands : MergeRule (not (flag 1 v)) (mem (tree (store_of w) (config_at v i).context)) (mem (tree (store_of w) x.context)) (mem (tree (store_of w') (config_at v' i).context))
    merged_stands = merge_stands w z (config_at v i).context x.context (not (flag 1 v)) (config_at v' i).context w' merged_accepted

    merged_set : set_of v' ≡ with_configs (set_of v) (joined_all x (merged_to w v x i).0 (set_of v).configs)
    merged_set = held_set v' _ merged_held

    grows : contexts w ≤ contexts w'
    unfolding merged_to
    grows =
        let g = (decoded w lent.store_length lent.store_sound).0 in
        let s = store_after w z (config_at v i).context x.context (not (flag 1 v)) (config_at v' i).context w' merged_accepted in
        let n = store_length w (contexts w) in
        let l =
        grew_length (store_of w) _
        (merge_grew (not (flag 1 v)) (store_of w) g.sound (config_at v i).context x.context (rw n (lent.set_sound.known i here)) (rw n context_known)) in
        omega (arith, n, store_length w' (contexts w'), ap length s)

    merged_sound : (sound w' ≡ true) × SoundSet (contexts w') v'
    unfolding joined
    merged_sound =
        let s = merge_sound_after w z (config_at v i).context x.context (not (flag 1 v)) (config_at v' i).context w' merged_accepted in
        let c : (config_at v' i).context ≡ (merged_to w v x i).0 = ap (λ (y : Config). y.context) config_now in
        (s.1, held_sound (contexts w') v' _ merged_held (good_joined x _ (contexts w) (contexts w') (set_of v) grows (omega (arith, s.2)) good))

  -- ---- in either case

  -- some config has the key, or none
  key? {ℓ} : {X : Type ℓ} → ((i : ℕ) → i < config_count v → key (config_at v i) ≡ key x → X)
      → (((i : ℕ) → i < config_count v → key (config_at v i) ≡ key x → ⊥) → X) → X
  key? there new =
      bool? (any (same_keys x) (set_of v).configs)
      (λ e. let r = any_at (same_keys x) v (config_count v) e in there r.0 r.1 (sym (key_of_same x (config_at v r.0) r.2)))
      (λ e. new (λ i l q. never_both (same_of_key x (config_at v i) (sym q)) (any_none (same_keys x) v (config_count v) e i l)))

  -- "merged" is answered, 0, exactly on a known key, and else "inserted", 1
  pub answer_merged : (a ≡ 0) ↔ ((i : ℕ) × (i < config_count v) × (key (config_at v i) ≡ key x))
  answer_merged = (λ e. key? (λ i l q. (i, l, q)) (λ n. absurd (omega (arith, inserted_answer n))), λ r. merged_answer r.0 r.1 r.2)

  pub answer_inserted : (a ≡ 1) ↔ ((i : ℕ) → i < config_count v → key (config_at v i) ≡ key x → ⊥)
  answer_inserted = (λ e i l q. omega (arith, merged_answer i l q), inserted_answer)

  -- store and set are sound afterwards, the flags that the configs decide included
  pub sound_after : (sound w' ≡ true) × SoundSet (contexts w') v'
  sound_after =
      key? merged_sound
      (λ n. (subst (λ (u : List ℕ). sound u ≡ true) (sym (inserted_store n)) (true_sound w lent.store_length lent.store_sound), inserted_sound n))

  -- the contexts that there are more than before
  pub added_grows : contexts w + (add_call w v z x).made ≡ contexts w'
  unfolding after
  added_grows =
      let made : (add_call w v z x).made ≡ length after.store - length (store_of w) = ap (λ (l : SetLeft). l.made) outcome in
      key?
      (λ i l q. rw (merged_call i l q) at (merge_figure w z (config_at v i).context x.context (not (flag 1 v))))
      (λ n. rw (inserted_store n) (omega (arith, made, ap (λ (A : Addition). length A.store) (insertion n))))

  -- none where the key is new
  pub inserted_none : ((i : ℕ) → i < config_count v → key (config_at v i) ≡ key x → ⊥) → (add_call w v z x).made ≡ 0
  inserted_none n = omega (arith, added_grows, ap contexts (inserted_store n))

  -- and the set's own flags are as they were
  pub full_kept : flag 1 v' ≡ flag 1 v
  full_kept = key? (λ i l q. ap (λ (S : Set). S.full) (merged_set i l q)) (λ n. ap (λ (S : Set). S.full) (held_set v' _ (inserted_held n)))

  pub open_after : flag 8 v' ≡ false
  open_after =
      key? (λ i l q. ap (λ (S : Set). S.closed) (merged_set i l q)) (λ n. ap (λ (S : Set). S.closed) (held_set v' _ (inserted_held n))) ∙ was_open

-- "how many contexts the call made: exactly the count after less the count before"; of a refused call too, which makes none
pub add_figure : (w v z : List ℕ) (x : Config) → contexts w + (add_call w v z x).made ≡ contexts (add_call w v z x).store
unfolding add_call
add_figure w v z x =
    let A = add_to (store_of w) (set_of v) x in
    by_unless (refusal w v z) (adds_after (count_of (add_work (store_of w) (set_of v) x)) (store_of w) A)
    (λ (l : SetLeft). add_call w v z x ≡ l → contexts w + l.made ≡ contexts l.store)
    (λ n e. rw (refusal_made w v z n, (refusal_keeps w v z n).0) (omega arith))
    (λ e.
    let ok : Adds (add_call w v z x) A.answer (words_of A.store) (set_words A.set) =
    (ap (λ (l : SetLeft). l.reply) e, ap (λ (l : SetLeft). l.store) e, ap (λ (l : SetLeft). l.set) e) in
    ap (λ (l : SetLeft). contexts w + l.made) (sym e) ∙ added_grows w v z x _ _ _ ok)
    (add_checks w v z x) refl

-- ---- a set closed

module _ (w v z w' v' : List ℕ) (ok : close_call w v z ≡ set_left done w' v' zeros) where
  close_passed : Clear (lent_checks (lent_lengths w v z) w v [])
  unfolding close_call
  close_passed =
      passed_clear (refusal w v z) _ (λ (l : SetLeft). l ≡ set_left done w' v' zeros)
      (λ n e.
      let q : refused n ≡ done = sym (refusal_reply w v z n) ∙ ap (λ (l : SetLeft). l.reply) e in
      let k : ◌≡◌ {A = ℕ} 0 1 = cc in
      omega arith)
      (lent_checks (lent_lengths w v z) w v []) ok

  closed_lent : SoundLent w v z
  closed_lent = clear_lent w v z close_passed

  closed_outcome : set_left done w (set_words (closed_set (set_of v))) zeros ≡ set_left done w' v' zeros
  unfolding close_call
  closed_outcome = sym (clear_passed (refusal w v z) _ (lent_checks (lent_lengths w v z) w v []) close_passed) ∙ ok

  pub closed_store : w' ≡ w
  closed_store = ap (λ (l : SetLeft). l.store) (sym closed_outcome)

  closed_good : good_set (contexts w) (closed_set (set_of v)) ≡ true
  unfolding good_set
  closed_good = sound_good (contexts w) v closed_lent.set_sound

  closed_held : HeldSet v' (closed_set (set_of v))
  closed_held =
      let e : v' ≡ set_words (closed_set (set_of v)) = ap (λ (l : SetLeft). l.set) (sym closed_outcome) in
      rw e (words_held (closed_set (set_of v)) (good_few (contexts w) _ closed_good))

  pub closed_count : config_count v' ≡ config_count v
  closed_count = closed_held.count ∙ configs_length v (config_count v)

  pub closed_configs : (j : ℕ) → j < config_count v → config_at v' j ≡ config_at v j
  closed_configs = configs_same v' v (config_count v) (rw (configs_length v (config_count v)) at closed_held.configs)

  -- "Closing a set sets flag 8"
  pub closed_flag : flag 8 v' ≡ true
  closed_flag = ap (λ (S : Set). S.closed) (held_set v' _ closed_held)

  pub closed_full : flag 1 v' ≡ flag 1 v
  closed_full = ap (λ (S : Set). S.full) (held_set v' _ closed_held)

  pub closed_sound : SoundSet (contexts w) v'
  closed_sound = held_sound (contexts w) v' _ closed_held closed_good

  -- closing a closed set answers the same, and changes nothing
  pub closed_again : (y : List ℕ) → length y ≡ scratch_words → close_call w v' y ≡ set_left done w v' zeros
  unfolding close_call
  closed_again y l =
      let c =
      lent_clear w v' y (record {
        store_length = closed_lent.store_length;
        set_length = closed_held.sized;
        scratch_length = l;
        store_sound = closed_lent.store_sound;
        set_sound = closed_sound;
      }) in
      clear_passed (refusal w v' y) _ (lent_checks (lent_lengths w v' y) w v' []) c
      ∙ ap (λ (S : Set). set_left done w (set_words (closed_set S)) zeros) (held_set v' _ closed_held)
      ∙ ap (λ (u : List ℕ). set_left done w u zeros) (sym (held_words v' (closed_set (set_of v)) closed_held))

-- ---- a fresh set

module _ (v : List ℕ) (f : Bool) (v' : List ℕ) (ok : fresh_set_call v f ≡ (done, v')) where
  fresh_length : length v ≡ set_words_length
  fresh_length =
      two (length v) set_words_length (λ e. e)
      (λ d.
      let q : refused 2 ≡ done = ap (λ (p : SetReply × List ℕ). p.0) (sym (fresh_refused_leaves v f d) ∙ ok) in
      let k : ◌≡◌ {A = ℕ} 0 1 = cc in
      absurd (omega arith))

  fresh_held : HeldSet v' (empty_set f)
  fresh_held =
      let e : v' ≡ set_words (empty_set f) = ap (λ (p : SetReply × List ℕ). p.1) (sym ok ∙ fresh_goes v fresh_length f) in
      rw e (words_held (empty_set f) (omega arith))

  -- "A fresh set is flag 1 or 0 and else zeros, over any contents"
  pub fresh_flag : get_or v' 1 0 ≡ bit f 1
  unfolding flag_word
  fresh_flag = fresh_held.flags ∙ fresh_flags f

  pub fresh_zeros : (j : ℕ) → j < set_words_length → j ≢ 1 → get_or v' j 0 ≡ 0
  unfolding config_count
  fresh_zeros j h d = two j 0 (λ e. rw e fresh_held.count) (λ n. fresh_held.unused j (omega arith) h)

  -- it is sound with any store
  pub fresh_sound : (k : ℕ) → SoundSet k v'
  unfolding good_set all distinct
  fresh_sound k = held_sound k v' (empty_set f) fresh_held refl
