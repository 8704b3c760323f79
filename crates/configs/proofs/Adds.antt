-- `add` put together: by key inserted or joined, after the checks that come first. Nothing here has to be believed.
use Rattle.std.specs.Prelude.{◌≡◌, refl, Bool, ◌&&◌, ℕ, ◌-◌, ◌<◌, ◌≤◌, ltb, replicate, Ok, Err}
use Rattle.std.proofs.Math.Path.{sym, ap}
use Rattle.std.proofs.Common.{◌∙◌, lt-ltb, le-ltb}
use Rattle.std.proofs.Math.Bool.{true, false, not}
use mathlib.Core.List.{List, [], ◌∷◌, ◌++◌}
use native.Mathlib.Omega.{arith}
use Rattle.std.proofs.Math.Dec.{leb}
use Rattle.std.proofs.Math.ListN.{length}
use Rattle.words.specs.Refusals.{number}
use Rattle.words.specs.declared.refusals.Refusal.{Refusal}
use Rattle.arena.specs.Store.{Store, at, nowhere}
use Rattle.arena.specs.Place.{merge_s}
use Rattle.layout.specs.Layout.{count as contexts}
use Rattle.layout.specs.Decode.{store_of}
use Rattle.encoding.specs.Decide.{fits}
use Rattle.encoding.proofs.DecideLaws.{true_fits}
use Rattle.store.specs.Admit.{cleared}
use Rattle.store.specs.Counted.{Outcome, done, standing, counting, too_much, count_of}
use Rattle.store.specs.Calls.{zeros, too_much_work, no_room}
use Rattle.contexts.specs.Live.{Live, ready_live}
use Rattle.sets.specs.Config.{Config}
use Rattle.sets.specs.Lists.{any}
use Rattle.words.specs.Bools.{bool?}
use Rattle.sets.specs.Layout.{most_configs, config_at, config_count, flag}
use Rattle.sets.specs.Sets.{Set, same_keys, held, with_configs, joined_all, Addition, add_to}
use Rattle.sets.specs.Sets.Laws.{held_new}
use Rattle.sets.specs.Words.{set_of}
use Rattle.sets.specs.Chains.{last, last_found, last_none}
use Rattle.sets.specs.Listed.{at_any, none_any}
use Rattle.sets.proofs.Joined.{held_here}
use Rattle.sets.specs.Held.{HeldSet}
use Rattle.sets.proofs.Sound.{sound_held}
use Rattle.store.specs.Checks.{Check, given, unless}
use Rattle.store.specs.Checks.Laws.{unless_first, unless_next, clear_goes, due_given}
use Rattle.sets.specs.Calls.{refused, SetLeft, set_left, adds_after, refusal, lent_lengths, lent_checks, add_work, add_checks, add_call}
use Rattle.setcheck.specs.Keys.{has_key, key_bucket, SoughtKey}
use Rattle.setcheck.specs.Opened.{OpenedSet}
use Rattle.configs.specs.Adding.{insert_call, join_to, join_call, add_rest, Addable, Joinable}

-- ---- what is added, by the key

module _ (s : Store) (S : Set) (x : Config) where
  pub add_joined : (c : ℕ) → held x S.configs ≡ at c
      → add_to s S x ≡ record { answer = 0; store = (merge_s (not S.full) s c x.context).1; set = with_configs S (joined_all x (merge_s (not S.full) s c x.context).0 S.configs) }
  unfolding add_to
  add_joined c e = rw (e, add_to)

  pub work_joined : (c : ℕ) → held x S.configs ≡ at c → add_work s S x ≡ counting (not S.full) s c x.context
  unfolding add_work
  work_joined c e = rw (e, add_work)

  pub work_new : held x S.configs ≡ nowhere → add_work s S x ≡ done 0 (standing s [] 0)
  unfolding add_work
  work_new e = rw (e, add_work)

  pub add_new : held x S.configs ≡ nowhere → add_to s S x ≡ record { answer = 1; store = s; set = with_configs S (S.configs ++ (x ∷ [])) }
  unfolding add_to
  add_new e = rw (e, add_to)

-- the last checks, and what follows them, over what is added
unfoldable pub add_with : List ℕ → List ℕ → Bool → Bool → Outcome ℕ → Addition → SetLeft
add_with w v known full o A =
    unless (given 8 (not known && full) ∷ too_much_work o ∷ no_room A.store ∷ []) (refusal w v zeros)
    (adds_after (count_of o) (store_of w) A)

rest_with : (w v : List ℕ) (x : Config) → add_rest w v x ≡ add_with w v (any (same_keys x) (set_of v).configs) (leb most_configs (length (set_of v).configs))
    (add_work (store_of w) (set_of v) x) (add_to (store_of w) (set_of v) x)
unfolding add_rest add_with
rest_with w v x = refl

module _ {w v z : List ℕ} {x : Config} (a : Addable w v z x) where
  live : Live w z
  live = ready_live w z a.ready.store

  pub add_holds : HeldSet v (set_of v)
  add_holds = sound_held (contexts w) v a.ready.sound a.ready.sized

  pub add_sought : (n : ℕ) → n ≡ config_count v → (b : ℕ) → (b ≡ key_bucket (Rattle.sets.specs.Sets.key x)) × (b < 256) → SoughtKey v z n x b
  add_sought n e b h = rw e (record {
    sized = a.ready.sized;
    lent = a.ready.store.index.sized;
    few = a.ready.sound.counted;
    chains = a.ready.keys;
    bucket = h.0;
    small = h.1;
  })

  module _ (n : ℕ) (e : n ≡ config_count v) where
    -- the key is there
    pub add_joinable : (i : ℕ) → at i ≡ last (has_key v x) n → Joinable w v z i x
    add_joinable i f = let r = last_found (has_key v x) n i (sym f) in record { addable = a; here = rw e at r.0; same = r.1 }

    pub add_at : (i : ℕ) → at i ≡ last (has_key v x) n → join_call w v i x ≡ add_rest w v x
    unfolding add_with join_to
    add_at i f =
        let j = add_joinable i f in
        let here = held_here a.ready.sound x i j.here j.same in
        let known : any (same_keys x) (set_of v).configs ≡ true = at_any (same_keys x) v (config_count v) i j.here j.same in
        sym
        (rest_with w v x
        ∙ rw (known, add_joined (store_of w) (set_of v) x (config_at v i).context here, work_joined (store_of w) (set_of v) x (config_at v i).context here)
        (unless_next (refusal w v zeros) _ (given 8 _) _ refl))

    -- the key is new
    inserted : Addition
    inserted = record { answer = 1; store = store_of w; set = with_configs (set_of v) ((set_of v).configs ++ (x ∷ [])) }

    nothing : Outcome ℕ
    nothing = done 0 (standing (store_of w) [] 0)

    insert_with : insert_call w v zeros x ≡ add_with w v false (leb most_configs (length (set_of v).configs)) nothing inserted
    unfolding insert_call add_with inserted nothing refusal unless too_much count_of
    insert_with =
        let cs : List Config = (set_of v).configs in
        let no_more : length (store_of w) - length (store_of w) ≡ 0 = omega arith in
        bool? (leb most_configs (length cs))
        (λ f. rw f)
        (λ f. rw (f, true_fits (store_of w) live.good.fits, no_more, ← live.words))

    pub add_last : nowhere ≡ last (has_key v x) n → (y : List ℕ) → y ≡ replicate (length z) 0 → insert_call w v y x ≡ add_rest w v x
    unfolding inserted nothing
    add_last f y ey =
        let none : any (same_keys x) (set_of v).configs ≡ false = none_any (same_keys x) v (config_count v) (rw e at (last_none (has_key v x) n (sym f))) in
        let new = held_new x (set_of v).configs none in
        ap (λ (y : List ℕ). insert_call w v y x) (ey ∙ cleared z a.ready.store.index.sized)
        ∙ insert_with
        ∙ sym (rest_with w v x ∙ rw (none, add_new (store_of w) (set_of v) x new, work_new (store_of w) (set_of v) x new))

-- ---- the checks that come first

module _ (w v z u : List ℕ) (x : Config) where
  pub add_refused : (f : Refusal) → OpenedSet w v z (Err f) u → set_left (refused (number f)) w v u ≡ add_call w v z x
  unfolding add_call add_checks lent_checks
  add_refused f o = sym (due_given _ _ (number f) (lent_checks (lent_lengths w v z) w v []) _ o.0 ∙ o.1)

  -- the checks 8, 12 and 6, and what is left where none refuses
  abbrev last_three : List Check
  last_three =
      given 8 (not (any (same_keys x) (set_of v).configs) && leb most_configs (length (set_of v).configs))
      ∷ too_much_work (add_work (store_of w) (set_of v) x) ∷ no_room (add_to (store_of w) (set_of v) x).store ∷ []

  abbrev go : SetLeft
  go = adds_after (count_of (add_work (store_of w) (set_of v) x)) (store_of w) (add_to (store_of w) (set_of v) x)

  -- they leave the scratch 0, whatever it was
  rest_same : add_rest w v x ≡ unless last_three (refusal w v z) go
  unfolding add_rest unless refusal
  rest_same =
      bool? (not (any (same_keys x) (set_of v).configs) && leb most_configs (length (set_of v).configs))
      (λ e. rw e)
      (λ e. rw e (bool? (too_much (add_work (store_of w) (set_of v) x)) (λ t. rw t)
      (λ t. rw t (bool? (fits (add_to (store_of w) (set_of v) x).store) (λ f. rw f) (λ f. rw f)))))

  module _ (o : OpenedSet w v z (Ok tt) u) where
    after_lent : add_call w v z x ≡ unless (given 7 (flag 8 v) ∷ given 4 (not (ltb x.context (contexts w))) ∷ last_three) (refusal w v z) go
    unfolding add_call add_checks lent_checks
    after_lent = clear_goes (refusal w v z) go (lent_checks (lent_lengths w v z) w v []) _ o.1

    zeroed : (y : List ℕ) → y ≡ replicate (length u) 0 → y ≡ zeros
    zeroed y e = e ∙ cleared u o.0.store.index.sized

    pub add_closed : flag 8 v ≡ true → (y : List ℕ) → y ≡ replicate (length u) 0 → set_left (refused 7) w v y ≡ add_call w v z x
    unfolding refusal
    add_closed e y ey = ap (set_left (refused 7) w v) (zeroed y ey) ∙ sym (after_lent ∙ unless_first (refusal w v z) go (given 7 (flag 8 v)) _ e)

    module _ (writable : flag 8 v ≡ false) where
      after_seven : add_call w v z x ≡ unless (given 4 (not (ltb x.context (contexts w))) ∷ last_three) (refusal w v z) go
      after_seven = after_lent ∙ unless_next (refusal w v z) go (given 7 (flag 8 v)) _ writable

      pub add_unknown : contexts w ≤ x.context → (y : List ℕ) → y ≡ replicate (length u) 0 → set_left (refused 4) w v y ≡ add_call w v z x
      unfolding refusal
      add_unknown h y ey =
          ap (set_left (refused 4) w v) (zeroed y ey)
          ∙ sym (after_seven ∙ unless_first (refusal w v z) go (given 4 _) last_three (ap not (le-ltb x.context (contexts w) h)))

      pub add_addable : x.context < contexts w → Addable w v u x
      add_addable h = record { ready = o.0; known = h }

      pub add_done : x.context < contexts w → add_rest w v x ≡ add_call w v z x
      add_done h = rest_same ∙ sym (after_seven ∙ unless_next (refusal w v z) go (given 4 _) last_three (ap not (lt-ltb x.context (contexts w) h)))
