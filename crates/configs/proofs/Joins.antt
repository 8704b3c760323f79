-- A config joined to the one that has its key, once their contexts are merged. Nothing here has to be believed.
use Rattle.std.specs.Prelude.{◌≡◌, true, false, ℕ, ◌-◌, ◌<◌}
use Rattle.std.proofs.Math.Path.{sym, ap}
use Rattle.std.proofs.Common.{◌∙◌, arith}
use Rattle.std.proofs.Math.Bool.{not}
use mathlib.Core.List.{List, [], ◌∷◌}
use Rattle.std.proofs.Math.ListN.{length, set, length-set}
use Rattle.std.proofs.Math.Seq.{get_or-set_same, get_or-set_other}
use Rattle.arena.specs.Store.{Store}
use Rattle.layout.specs.Layout.{count as contexts}
use Rattle.layout.specs.Decode.{store_of}
use Rattle.layout.specs.Encode.{words_of}
use Rattle.encoding.specs.Decide.{fits}
use Rattle.store.specs.Counted.{Outcome, too_much, count_of}
use Rattle.store.specs.Calls.{context, Left, leaves, leaves_after, gives_after, zeros, too_much_work, no_room, refused as notMade}
use Rattle.contexts.specs.MergeCall.Laws.{worked}
use Rattle.contexts.specs.Live.{Live, ready_live}
use Rattle.sets.specs.Config.{Config}
use Rattle.sets.specs.Lists.{any}
use Rattle.words.specs.Bools.{bool?}
use Rattle.sets.specs.Layout.{most_configs, set_words_length, config_at, config_count, flag_word}
use Rattle.sets.specs.Sets.{Set, same_keys, with_configs, joined, joined_all, has_semantic, dips}
use Rattle.sets.specs.Words.{flags_of, set_words, configs_in, set_of}
use Rattle.sets.specs.Flags.{flags_are}
use Rattle.sets.specs.Listed.{at_any}
use Rattle.sets.specs.Held.{HeldSet, held_words}
use Rattle.sets.proofs.Sound.{sound_held}
use Rattle.sets.proofs.Joined.{joined_length, semantic_joined, dips_joined, semantic_known, joined_configs}
use Rattle.store.specs.Checks.{unless}
use Rattle.store.specs.Checks.Laws.{unless_first, unless_next}
use Rattle.sets.specs.Calls.{refused, added, set_left, set_left_after, adds_after, refusal}
use Rattle.setcheck.specs.Flags.{joined_flags, joined_four}
use Rattle.configs.specs.Writes.{put_config, put_length, put_after, put_flags, put_count, put_here, put_other, head_config, head_other}
use Rattle.configs.specs.Adding.{Joinable, join_to}

-- ---- what the merge has left

module _ (w : List ℕ) (o : Outcome ℕ) (P : ℕ × Store) where
  over_is : too_much o ≡ true → worked w o P ≡ leaves (notMade 12) w zeros
  unfolding worked
  over_is e = rw (e, worked)

  pub made_is : too_much o ≡ false → fits P.1 ≡ true → worked w o P ≡ gives_after (count_of o) (store_of w) P
  unfolding worked
  made_is e f = rw (e, f, worked)

  full_is : too_much o ≡ false → fits P.1 ≡ false → worked w o P ≡ leaves (notMade 6) w zeros
  unfolding worked
  full_is e f = rw (e, f, worked)

  -- too much work, made, or no room
  worked? {ℓ} : {X : Type ℓ} → (too_much o ≡ true → X) → (too_much o ≡ false → fits P.1 ≡ true → X) → (too_much o ≡ false → fits P.1 ≡ false → X) → X
  worked? over made full = bool? (too_much o) over (λ e. bool? (fits P.1) (made e) (full e))

  module _ (w' z' : List ℕ) where
    pub record MergeMade (c n k : ℕ) : Type 0 where
      pub light : too_much o ≡ false
      pub room : fits P.1 ≡ true
      pub number : c ≡ P.0
      pub merges : n ≡ count_of o
      pub made : k ≡ length P.1 - length (store_of w)
      pub store : w' ≡ words_of P.1
      pub scratch : z' ≡ zeros

    -- a number is no refusal
    not_made : (c n k m : ℕ) → leaves_after n k (context c) w' z' ≡ leaves (notMade m) w zeros → ⊥
    not_made c n k m e =
        let r : context c ≡ notMade m = ap (λ (l : Left). l.reply) e in
        let z : ◌≡◌ {A = ℕ} 0 1 = cc in
        omega arith

    pub merge_made : (c n k : ℕ) → leaves_after n k (context c) w' z' ≡ worked w o P → MergeMade c n k
    merge_made c n k e =
        worked?
        (λ t. absurd (not_made c n k 12 (e ∙ over_is t)))
        (λ t f.
        let q : leaves_after n k (context c) w' z' ≡ gives_after (count_of o) (store_of w) P = e ∙ made_is t f in
        let r : context c ≡ context P.0 = ap (λ (l : Left). l.reply) q in
        record {
          light = t;
          room = f;
          number = cc;
          merges = ap (λ (l : Left). l.merges) q;
          made = ap (λ (l : Left). l.made) q;
          store = ap (λ (l : Left). l.store) q;
          scratch = ap (λ (l : Left). l.scratch) q;
        })
        (λ t f. absurd (not_made c n k 6 (e ∙ full_is t f)))

-- ---- the flags

pub joined_flags_lem : (S : Set) (x : Config) (c : ℕ) → any (same_keys x) S.configs ≡ true
    → joined_flags (flags_of S) x ≡ flags_of (with_configs S (joined_all x c S.configs))
joined_flags_lem S x c e =
    ap (λ (n : ℕ). joined_flags n x) (flags_are S)
    ∙ joined_four S.full (has_semantic S.configs) (dips S.configs) S.closed x
    ∙ rw (
      flags_are (with_configs S (joined_all x c S.configs)),
      semantic_joined x c S.configs,
      dips_joined x c S.configs,
      semantic_known x S.configs e,
      e,
    )

-- ---- the words

module _ {w v z : List ℕ} {i : ℕ} {x : Config} (j : Joinable w v z i x) where
  abbrev S : Set
  S = set_of v

  holds : HeldSet v (set_of v)
  holds = sound_held (contexts w) v j.addable.ready.sound j.addable.ready.sized

  pub join_live : Live w z
  join_live = ready_live w z j.addable.ready.store

  pub join_known : (config_at v i).context < contexts w
  join_known = j.addable.ready.sound.known i j.here

  pub join_place : i < most_configs
  join_place = omega (arith, j.here, j.addable.ready.sound.counted)

  known_key : any (same_keys x) (configs_in v (config_count v)) ≡ true
  known_key = at_any (same_keys x) v (config_count v) i j.here j.same

  module _ (c : ℕ) (y : Config) (ey : y ≡ joined x c (config_at v i)) (b : ℕ) (eb : b ≡ joined_flags (flag_word v) x) where
    put : List ℕ
    put = put_config v i y

    put_sized : length put ≡ set_words_length
    unfolding put
    put_sized = put_length v i y ∙ holds.sized

    configs_now : configs_in (set put 1 b) (config_count v) ≡ joined_all x c (configs_in v (config_count v))
    unfolding put
    configs_now =
        joined_configs j.addable.ready.sound x i j.here j.same c (set put 1 b)
        (head_config put 1 b (omega arith) i ∙ put_here v i y holds.sized join_place ∙ ey)
        (λ k d. head_config put 1 b (omega arith) k ∙ put_other v i y k d)

    join_held : HeldSet (set put 1 b) (with_configs S (joined_all x c S.configs))
    unfolding put config_count flag_word
    join_held =
        let n : length (joined_all x c S.configs) ≡ config_count v = joined_length x c S.configs ∙ sym holds.count in
        record {
          sized = length-set put 1 b ∙ put_sized;
          few = omega (arith, holds.few, holds.count);
          count = get_or-set_other put 1 0 b 0 (omega arith) ∙ put_count v i y ∙ sym n;
          flags = get_or-set_same put 1 b 0 (omega (arith, put_sized)) ∙ eb ∙ ap (λ (m : ℕ). joined_flags m x) holds.flags ∙ joined_flags_lem S x c known_key;
          configs = ap (configs_in (set put 1 b)) n ∙ configs_now;
          unused = λ m p q.
              head_other put 1 b (omega arith) m (omega arith) ∙ put_after v i y m (omega (arith, n, j.here)) ∙ holds.unused m (omega (arith, holds.count)) q;
        }

    pub join_words : set (put_config v i y) 1 b ≡ set_words (with_configs S (joined_all x c S.configs))
    unfolding put
    join_words = held_words (set put 1 b) (with_configs S (joined_all x c S.configs)) join_held

  -- ---- the call

  module _ (o : Outcome ℕ) (P : ℕ × Store) (w' z' : List ℕ) where
    over_joined : too_much o ≡ true → join_to w v x o P ≡ set_left (refused 12) w v zeros
    unfolding join_to refusal
    over_joined t = unless_first (refusal w v zeros) _ (too_much_work o) _ t

    full_joined : too_much o ≡ false → fits P.1 ≡ false → join_to w v x o P ≡ set_left (refused 6) w v zeros
    unfolding join_to refusal
    full_joined t f = unless_next (refusal w v zeros) _ (too_much_work o) _ t ∙ unless_first (refusal w v zeros) _ (no_room P.1) [] (ap not f)

    -- the same refusal of the store, and of the set
    as_left : (n k : ℕ) → leaves (notMade n) w' z' ≡ leaves (notMade k) w zeros → set_left (refused n) w' v z' ≡ set_left (refused k) w v zeros
    as_left n k e =
        let r : notMade n ≡ notMade k = ap (λ (l : Left). l.reply) e in
        let i : n ≡ k = cc in
        rw (i, ap (λ (l : Left). l.store) e, ap (λ (l : Left). l.scratch) e)

    no_number : (n : ℕ) → leaves (notMade n) w' z' ≡ gives_after (count_of o) (store_of w) P → ⊥
    no_number n e =
        let r : notMade n ≡ context P.0 = ap (λ (l : Left). l.reply) e in
        let z : ◌≡◌ {A = ℕ} 0 1 = cc in
        omega arith

    pub join_refused : (n : ℕ) → leaves (notMade n) w' z' ≡ worked w o P → set_left (refused n) w' v z' ≡ join_to w v x o P
    join_refused n e =
        worked? w o P
        (λ t. as_left n 12 (e ∙ over_is w o P t) ∙ sym (over_joined t))
        (λ t f. absurd (no_number n (e ∙ made_is w o P t f)))
        (λ t f. as_left n 6 (e ∙ full_is w o P t f) ∙ sym (full_joined t f))

    pub join_done : (c j k : ℕ) → leaves_after j k (context c) w' z' ≡ worked w o P → (y : Config) → y ≡ joined x c (config_at v i) → (u : List ℕ) → u ≡ put_config v i y
        → (n : ℕ) → n ≡ flag_word u → (b : ℕ) → b ≡ joined_flags n x → set_left_after j k (added 0) w' (set u 1 b) z' ≡ join_to w v x o P
    unfolding join_to unless
    join_done c j k e y ey u eu n en b eb =
        let m = merge_made w o P w' z' c j k e in
        let f : b ≡ joined_flags (flag_word v) x = eb ∙ ap (λ (k : ℕ). joined_flags k x) (en ∙ ap flag_word eu ∙ put_flags v i y) in
        let go = adds_after (count_of o) (store_of w) (record { answer = 0; store = P.1; set = with_configs S (joined_all x P.0 S.configs) }) in
        rw (m.store, m.scratch, m.merges, m.made, eu, join_words P.0 y (rw m.number at ey) b f)
        (sym (unless_next (refusal w v zeros) go (too_much_work o) (no_room P.1 ∷ []) m.light
        ∙ unless_next (refusal w v zeros) go (no_room P.1) [] (ap not m.room)))
