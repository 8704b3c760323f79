-- A reader's call over sound words is a function of the store and the set that they hold. Nothing here has to be believed.
use Rattle.std.specs.Prelude.{◌≡◌, Bool, true, false, ◌&&◌, ℕ, suc, ◌<◌, leb, length, get_or, take, drop}
use Rattle.std.proofs.Math.Path.{refl, ap}
use Rattle.std.proofs.Common.{sym, ◌∙◌, arith, take_at, drop_at, eq-eqb, ne_eqb, lt-ltb}
use Rattle.std.proofs.Math.Bool.{not}
use mathlib.Core.List.{List, [], ◌∷◌, ◌++◌, map, flat_map, append_assoc}
use Rattle.std.proofs.Math.Dec.{eqb, ltb}
use Rattle.std.proofs.lemmas.Bool.{not-false}
use Rattle.arena.specs.Bools.{bool?, both_true}
use Rattle.arena.specs.Numbers.{two}
use Rattle.encoding.specs.Names.{empty_mark}
use Rattle.arena.specs.Store.{Store}
use Rattle.arena.specs.Place.{merge_s}
use Rattle.encoding.specs.Layout.{store_words, scratch_words, stop, count as contexts}
use Rattle.encoding.specs.Decode.{store_of}
use Rattle.encoding.specs.Encode.{words_of}
use Rattle.encoding.specs.Good.{GoodStore}
use Rattle.encoding.specs.Encoded.{encoded, store_of_words}
use Rattle.encoding.specs.Written.{words_length, words_count}
use Rattle.encoding.specs.Decide.{sound, fits}
use Rattle.encoding.proofs.DecideLaws.{words_sound}
use Rattle.store.specs.Checks.{Check, given, unless}
use Rattle.store.specs.Checks.Laws.{Clear, unless_first, unless_next, clear_goes}
use Rattle.store.specs.Calls as Stores
use Rattle.store.specs.Calls.{Reply, Left, kept, wrong_length, unsound_store, unknown_context, too_much_work, no_room, gives, gives_after}
use Rattle.store.specs.Counted.{counting, count_of}
use Rattle.interning.specs.SingletonCall.{single_s, singleton_checks, singleton_call}
use Rattle.configs.specs.MergeCall.{merge_checks, merge_call}
use Rattle.queries.specs.Queries.{answer_to}
use Rattle.sets.specs.Config.{Config, config}
use Rattle.sets.specs.Lists.{any}
use Rattle.sets.specs.Layout.{most_configs, set_words_length}
use Rattle.sets.specs.Sets.{Set, empty_set, closed_set, same_keys, Addition, add_to}
use Rattle.sets.specs.Words.{set_words, set_of, sound_set, good_set}
use Rattle.sets.specs.Held.{words_held}
use Rattle.sets.proofs.Sound as SoundSets
use Rattle.sets.proofs.Sound.{good_few, set_of_words}
use Rattle.sets.proofs.Refusals.{SoundLent, lent_clear}
use Rattle.sets.specs.Calls as Sets
use Rattle.sets.specs.Calls.{SetReply, SetLeft, set_left, adds_after, add_work, lent_lengths, lent_checks, add_checks, fresh_set_call, add_call, close_call}
use Rattle.groups.specs.Groups as Grouped
use Rattle.groups.specs.Groups.{Group}
use Rattle.groups.specs.Answers as Answers
use Rattle.groups.specs.Reason.{reason}
use Rattle.reasons.specs.Outputs.{subsets_length, alts_length, padded, group_words, subsets_words, alts_words}
use Rattle.reasons.specs.VerdictsCalls as Verdicts
use Rattle.reasons.specs.VerdictsCalls.{VerdictReply, VerdictLeft, most_stops, too_many_stops, conflicting_alt_subsets_call, conflicting_alts_call, unique_alt_call, single_viable_alt_call, all_subsets_conflict_call}
use Rattle.reasons.specs.VerdictsCalls.{all_subsets_equal_call, verdict_call}
use Rattle.reasons.specs.Calls.{reason_words, why_call}
use Rattle.readers.specs.Calls.{Name, Call, singleton, merge, query, fresh_set, add, close, subsets, conflicting_alts, unique_alt, single_viable_alt}
use Rattle.readers.specs.Calls.{all_subsets_conflict, all_subsets_equal, verdict, why, Lent, Sized, of_set, of_subsets, words, Part, part, Got, refused, context, groups, plain, told}
use Rattle.readers.specs.Calls.{settled, reasoned, judged, groups_from, groups_in, Done, leaving, Reader, on_store, on_set, on_subsets, words_only, step}

-- ---- a call over a store and a set

-- what a call leaves
pub record State : Type 0 where
  pub got : Got ℕ
  pub store : Store
  pub set : Set

abbrev pub to : Got ℕ → Store → Set → State
to g s S = record { got = g; store = s; set = S }

abbrev pub halt : Store → Set → ℕ → State
halt s S n = to (refused n) s S

-- a subset as a reader gets it
abbrev pub part_of : Group → Part ℕ
part_of g = part g.state g.context g.alternatives

abbrev pub singleton_to : Store → Set → ℕ → ℕ → State
singleton_to s S r c =
    let x = single_s s c r in
    unless (given 5 (leb stop r && not (eqb r empty_mark)) ∷ no_room x.1 ∷ []) (halt s S) (to (context x.0) x.1 S)

abbrev pub merge_to : Store → Set → Bool → ℕ → ℕ → State
merge_to s S m a b =
    let x = merge_s m s a b in unless (too_much_work (counting m s a b) ∷ no_room x.1 ∷ []) (halt s S) (to (context x.0) x.1 S)

abbrev pub add_checks_of : Store → Set → Config → Addition → List Check
add_checks_of s S x A =
    given 7 S.closed ∷ given 4 (not (ltb x.context (length s)))
    ∷ given 8 (not (any (same_keys x) S.configs) && leb most_configs (length S.configs))
    ∷ too_much_work (add_work s S x) ∷ no_room A.store ∷ []

abbrev pub addition_to : Store → Set → Config → State
addition_to s S x =
    let A = add_to s S x in
    unless (add_checks_of s S x A) (halt s S) (to (plain (of_set (Sets.added A.answer))) A.store A.set)

abbrev pub verdict_to : Store → Set → List ℕ → State
verdict_to s S stops =
    unless (given 10 (ltb most_stops (length stops)) ∷ []) (halt s S) (to (plain (of_subsets (Verdicts.says (Answers.verdict stops S.configs)))) s S)

abbrev pub why_to : Store → Set → List ℕ → State
why_to s S stops = unless (given 10 (ltb most_stops (length stops)) ∷ []) (halt s S) (to (reasoned (reason stops S.configs)) s S)

unfoldable pub state_after : Store → Set → List ℕ → Call → State
state_after s S cs (singleton n r) = singleton_to s S r (get_or cs n 0)
state_after s S cs (merge n k m) = merge_to s S m (get_or cs n 0) (get_or cs k 0)
state_after s S cs (query q n) = to (told (answer_to q s (get_or cs n 0))) s S
state_after s S cs (fresh_set f) = to (plain (of_set Sets.done)) s (empty_set f)
state_after s S cs (add q a n m r p) = addition_to s S (config q a (get_or cs n 0) m r p)
state_after s S cs close = to (plain (of_set Sets.done)) s (closed_set S)
state_after s S cs subsets = to (groups (map part_of (Grouped.groups S.configs))) s S
state_after s S cs conflicting_alts = to (plain (words (alts_words S.configs))) s S
state_after s S cs unique_alt = to (plain (of_subsets (Verdicts.alternative (Answers.unique_alt S.configs)))) s S
state_after s S cs single_viable_alt = to (plain (of_subsets (Verdicts.alternative (Answers.single_viable_alt S.configs)))) s S
state_after s S cs all_subsets_conflict = to (plain (of_subsets (Verdicts.says (Answers.all_subsets_conflict S.configs)))) s S
state_after s S cs all_subsets_equal = to (plain (of_subsets (Verdicts.says (Answers.all_subsets_equal S.configs)))) s S
state_after s S cs (verdict stops) = verdict_to s S stops
state_after s S cs (why stops) = why_to s S stops

-- its words
abbrev pub words_after : State → Done
words_after D = leaving D.got (words_of D.store) (set_words D.set)

-- ---- the words of subsets hold them

groups_read : (gs : List Group) (rest : List ℕ) → groups_from (length gs) (flat_map group_words gs ++ rest) ≡ map part_of gs
unfolding groups_from group_words flat_map
groups_read [] rest = refl
groups_read (g ∷ gs) rest =
    let n = length g.alternatives in
    let e = append_assoc g.alternatives (flat_map group_words gs) rest in
    rw (e, take_at g.alternatives (flat_map group_words gs ++ rest) n refl, drop_at g.alternatives (flat_map group_words gs ++ rest) n refl, groups_read gs rest)

-- ---- checks that are passed, and the others

module _ (s : Store) (S : Set) {A : Type 0} (refuse : ℕ → A) (go : A) (f : A → Done) (D : State)
    (refusals : (n : ℕ) → f (refuse n) ≡ words_after (halt s S n)) (goes : f go ≡ words_after D) where
  each_check : (cs : List Check) → f (unless cs refuse go) ≡ words_after (unless cs (halt s S) D)
  unfolding unless
  each_check [] = goes
  each_check (c ∷ cs) =
      bool? c.holds
      (λ e. ap f (unless_first refuse go c cs e) ∙ refusals c.number ∙ ap words_after (sym (unless_first (halt s S) D c cs e)))
      (λ e. ap f (unless_next refuse go c cs e) ∙ each_check cs ∙ ap words_after (sym (unless_next (halt s S) D c cs e)))

  past : (before more : List Check) → Clear before → f (unless (before ++ more) refuse go) ≡ words_after (unless more (halt s S) D)
  past before more v = ap f (clear_goes refuse go before more v) ∙ each_check more

-- ---- the calls over the words of a good store and a good set

module _ (s : Store) (g : GoodStore s) (S : Set) (good : good_set (length s) S ≡ true) (L : Lent) (sized : Sized L) where
  abbrev w : List ℕ
  w = words_of s

  abbrev v : List ℕ
  v = set_words S

  abbrev z : List ℕ
  z = L.scratch

  -- the reader with these answers
  abbrev reader : List ℕ → Reader
  reader cs = record { set = v; names = cs }

  store_refusals : (n : ℕ) → on_store (reader []) (Stores.refusal w z n) ≡ words_after (halt s S n)
  unfolding Stores.refusal told
  store_refusals n = two n 2 (λ e. rw (eq-eqb n 2 e, Stores.refusal)) (λ d. rw (ne_eqb n 2 d, Stores.refusal))

  set_refusals : (n : ℕ) → on_set (Sets.refusal w v z n) ≡ words_after (halt s S n)
  unfolding Sets.refusal settled
  set_refusals n = two n 2 (λ e. rw (eq-eqb n 2 e, Sets.refusal)) (λ d. rw (ne_eqb n 2 d, Sets.refusal))

  verdict_refusals : (o : List ℕ) (written : List ℕ → Got ℕ) (n : ℕ) → on_subsets w (reader []) written (Verdicts.read_refusal z o n) ≡ words_after (halt s S n)
  unfolding Verdicts.read_refusal judged
  verdict_refusals o written n = two n 2 (λ e. rw (eq-eqb n 2 e, Verdicts.read_refusal)) (λ d. rw (ne_eqb n 2 d, Verdicts.read_refusal))

  store_clear : Clear (wrong_length w z ∷ unsound_store w ∷ [])
  store_clear = (ap not (both_true _ _ (eq-eqb (length w) store_words (words_length s)) (eq-eqb (length z) scratch_words sized.0)), (ap not (words_sound s g), tt))

  known_clear : (c : ℕ) → c < length s → not (ltb c (contexts w)) ≡ false
  known_clear c h = ap not (lt-ltb c (contexts w) (rw (words_count s g.fits) h))

  asked_is : (c : ℕ) (r : Reply) → c < length s → on_store (reader []) (Stores.asked w z c r) ≡ words_after (to (told r) s S)
  unfolding Stores.asked unless
  asked_is c r h =
      past s S (Stores.refusal w z) (kept r w) (on_store (reader [])) (to (told r) s S) store_refusals refl (wrong_length w z ∷ unsound_store w ∷ unknown_context w c ∷ []) []
      (store_clear.0, (store_clear.1.0, (known_clear c h, tt)))

  singleton_is : (r c : ℕ) → c < length s → on_store (reader []) (singleton_call w z c r) ≡ words_after (singleton_to s S r c)
  unfolding singleton_call singleton_checks told
  singleton_is r c h =
      rw (store_of_words s g)
      (past s S (Stores.refusal w z) (gives s (single_s s c r)) (on_store (reader [])) (to (context (single_s s c r).0) (single_s s c r).1 S) store_refusals refl
      (wrong_length w z ∷ unsound_store w ∷ unknown_context w c ∷ []) (given 5 (leb stop r && not (eqb r empty_mark)) ∷ no_room (single_s s c r).1 ∷ [])
      (store_clear.0, (store_clear.1.0, (known_clear c h, tt))))

  merge_is : (m : Bool) (a b : ℕ) → a < length s → b < length s → on_store (reader []) (merge_call w z a b m) ≡ words_after (merge_to s S m a b)
  unfolding merge_call merge_checks told
  merge_is m a b h k =
      let n = words_count s g.fits in
      rw (store_of_words s g)
      (past s S (Stores.refusal w z) (gives_after (count_of (counting m s a b)) s (merge_s m s a b)) (on_store (reader [])) (to (context (merge_s m s a b).0) (merge_s m s a b).1 S) store_refusals refl
      (wrong_length w z ∷ unsound_store w ∷ given 4 (not (ltb a (contexts w) && ltb b (contexts w))) ∷ []) (too_much_work (counting m s a b) ∷ no_room (merge_s m s a b).1 ∷ [])
      (store_clear.0, (store_clear.1.0, (ap not (both_true _ _ (lt-ltb a (contexts w) (rw n h)) (lt-ltb b (contexts w) (rw n k))), tt))))

  -- ---- the calls on a set

  lent : SoundLent w v z
  lent = record {
    store_length = words_length s;
    set_length = (words_held S (good_few (length s) S good)).sized;
    scratch_length = sized.0;
    store_sound = encoded s g;
    set_sound = rw (words_count s g.fits) (SoundSets.words_sound (length s) S good);
  }

  set_read : set_of v ≡ S
  set_read = set_of_words (length s) S good

  lent_passed : Clear (lent_checks (lent_lengths w v z) w v [])
  lent_passed = lent_clear w v z lent

  -- the call's equation over what its words hold
  abbrev add_with : Config → ℕ → Store → Set → SetLeft
  add_with x n u T =
      let A = add_to u T x in
      unless
      (lent_checks (lent_lengths w v z) w v
      (given 7 T.closed ∷ given 4 (not (ltb x.context n))
      ∷ given 8 (not (any (same_keys x) T.configs) && leb most_configs (length T.configs))
      ∷ too_much_work (add_work u T x) ∷ no_room A.store ∷ []))
      (Sets.refusal w v z) (adds_after (count_of (add_work u T x)) u A)

  add_read : (x : Config) → add_call w v z x ≡ add_with x (length s) s S
  unfolding add_call add_checks
  add_read x =
      ap (add_with x (contexts w) (store_of w)) set_read ∙ ap (λ (u : Store). add_with x (contexts w) u S) (store_of_words s g)
      ∙ ap (λ (n : ℕ). add_with x n s S) (words_count s g.fits)

  add_is : (x : Config) → on_set (add_call w v z x) ≡ words_after (addition_to s S x)
  unfolding lent_checks settled
  add_is x =
      let A = add_to s S x in
      ap on_set (add_read x)
      ∙ past s S (Sets.refusal w v z) (adds_after (count_of (add_work s S x)) s A) on_set
      (to (plain (of_set (Sets.added A.answer))) A.store A.set) set_refusals refl
      (lent_checks (lent_lengths w v z) w v []) (add_checks_of s S x A) lent_passed

  close_is : on_set (close_call w v z) ≡ words_after (to (plain (of_set Sets.done)) s (closed_set S))
  unfolding close_call lent_checks settled unless
  close_is =
      ap (λ (T : Set). on_set (unless (lent_checks (lent_lengths w v z) w v []) (Sets.refusal w v z) (set_left Sets.done w (set_words (closed_set T)) Stores.zeros))) set_read
      ∙ past s S (Sets.refusal w v z) (set_left Sets.done w (set_words (closed_set S)) Stores.zeros) on_set
      (to (plain (of_set Sets.done)) s (closed_set S)) set_refusals refl
      (lent_checks (lent_lengths w v z) w v []) [] lent_passed

  fresh_is : (f : Bool) → leaving (settled (fresh_set_call v f).0) w (fresh_set_call v f).1 ≡ words_after (to (plain (of_set Sets.done)) s (empty_set f))
  unfolding fresh_set_call settled unless
  fresh_is f = rw (eq-eqb (length v) set_words_length lent.set_length, unless)

  -- ---- the calls on its subsets

  subsets_clear : (o : List ℕ) (n : ℕ) → length o ≡ n → Clear (lent_checks (lent_lengths w v z && eqb (length o) n) w v [])
  unfolding lent_checks
  subsets_clear o n h =
      let c : Clear (lent_checks (lent_lengths w v z) w v []) = lent_passed in
      (ap not (both_true (lent_lengths w v z) (eqb (length o) n) (not-false (lent_lengths w v z) c.0) (eq-eqb (length o) n h)), c.1)

  subsets_asked : (n : ℕ) (more : List Check) (o p : List ℕ) (r : VerdictReply) (written : List ℕ → Got ℕ) → length o ≡ n
      → on_subsets w (reader []) written (Verdicts.read_call n more w v z o r p) ≡ words_after (unless more (halt s S) (to (judged r (written p)) s S))
  unfolding Verdicts.read_call lent_checks
  subsets_asked n more o p r written h =
      past s S (Verdicts.read_refusal z o) (Verdicts.verdict_left r Stores.zeros p) (on_subsets w (reader []) written) (to (judged r (written p)) s S) (verdict_refusals o written) refl
      (lent_checks (lent_lengths w v z && eqb (length o) n) w v []) more (subsets_clear o n h)

  abbrev over : (Set → VerdictLeft) → (List ℕ → Got ℕ) → Set → Done
  over f written T = on_subsets w (reader []) written (f T)

  groups_written : groups_in (subsets_words S.configs) ≡ map part_of (Grouped.groups S.configs)
  unfolding subsets_words padded
  groups_written = groups_read (Grouped.groups S.configs) _

  subsets_is : on_subsets w (reader []) (λ o. groups (groups_in o)) (conflicting_alt_subsets_call w v z L.subsets) ≡ words_after (to (groups (map part_of (Grouped.groups S.configs))) s S)
  unfolding conflicting_alt_subsets_call judged unless
  subsets_is =
      ap (over (λ T. Verdicts.read_call subsets_length [] w v z L.subsets Verdicts.written (subsets_words T.configs)) (λ o. groups (groups_in o))) set_read
      ∙ subsets_asked subsets_length [] L.subsets (subsets_words S.configs) Verdicts.written (λ o. groups (groups_in o)) sized.1
      ∙ ap (λ (l : List (Part ℕ)). words_after (to (groups l) s S)) groups_written

  alts_is : on_subsets w (reader []) words_only (conflicting_alts_call w v z L.alternatives) ≡ words_after (to (plain (words (alts_words S.configs))) s S)
  unfolding conflicting_alts_call judged unless
  alts_is =
      ap (over (λ T. Verdicts.read_call alts_length [] w v z L.alternatives Verdicts.written (alts_words T.configs)) words_only) set_read
      ∙ subsets_asked alts_length [] L.alternatives (alts_words S.configs) Verdicts.written words_only sized.2

  why_is : (stops : List ℕ) → on_subsets w (reader []) words_only (why_call w v z stops L.alternatives) ≡ words_after (why_to s S stops)
  unfolding why_call judged
  why_is stops =
      let r = reason stops S.configs in
      ap (over (λ T. let q = reason stops T.configs in Verdicts.read_call alts_length (too_many_stops stops) w v z L.alternatives (Verdicts.because q) (reason_words q)) words_only) set_read
      ∙ subsets_asked alts_length (too_many_stops stops) L.alternatives (reason_words r) (Verdicts.because r) words_only sized.2

  -- an answer r on the set alone
  judged_is : (more : List Check) (r : Set → VerdictReply)
      → on_subsets w (reader []) words_only (Verdicts.read_call 0 more w v z [] (r (set_of v)) []) ≡ words_after (unless more (halt s S) (to (judged (r S) (words_only [])) s S))
  judged_is more r = ap (over (λ T. Verdicts.read_call 0 more w v z [] (r T) []) words_only) set_read ∙ subsets_asked 0 more [] [] (r S) words_only refl

  -- ---- each call

  module _ (cs : List ℕ) (known : (n : Name) → get_or cs n 0 < length s) where
    query_is : (c : ℕ) (f : List ℕ → Reply) (h : Reply) → c < length s → f w ≡ h → on_store (reader []) (Stores.asked w z c (f w)) ≡ words_after (to (told h) s S)
    query_is c f h l e = ap (λ (r : Reply). on_store (reader []) (Stores.asked w z c r)) e ∙ asked_is c h l

    -- A call over sound words answers and leaves what it does over the store and the set that they hold.
    pub step_is : (x : Call) → step L w (reader cs) x ≡ words_after (state_after s S cs x)
    unfolding step state_after judged unless unique_alt_call single_viable_alt_call all_subsets_conflict_call all_subsets_equal_call verdict_call
    step_is (singleton n r) = singleton_is r (get_or cs n 0) (known n)
    step_is (merge n k m) = merge_is m (get_or cs n 0) (get_or cs k 0) (known n) (known k)
    step_is (query q n) = query_is (get_or cs n 0) (λ u. answer_to q (store_of u) (get_or cs n 0)) _ (known n) (rw (store_of_words s g))
    step_is (fresh_set f) = fresh_is f
    step_is (add q a n m r p) = add_is (config q a (get_or cs n 0) m r p)
    step_is close = close_is
    step_is subsets = subsets_is
    step_is conflicting_alts = alts_is
    step_is unique_alt = judged_is [] (λ T. Verdicts.alternative (Answers.unique_alt T.configs))
    step_is single_viable_alt = judged_is [] (λ T. Verdicts.alternative (Answers.single_viable_alt T.configs))
    step_is all_subsets_conflict = judged_is [] (λ T. Verdicts.says (Answers.all_subsets_conflict T.configs))
    step_is all_subsets_equal = judged_is [] (λ T. Verdicts.says (Answers.all_subsets_equal T.configs))
    step_is (verdict stops) = judged_is (given 10 (ltb most_stops (length stops)) ∷ []) (λ T. Verdicts.says (Answers.verdict stops T.configs))
    step_is (why stops) = why_is stops
