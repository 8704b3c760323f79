-- Document 01's refusals of the calls on a set: each exactly when it is due, and what it leaves. Nothing here has to be believed.
use Rattle.std.specs.Prelude.{◌≡◌, ◌↔◌, Bool, true, ◌&&◌, List, [], ℕ, ◌<◌, eqb, leb, length}
use Rattle.std.proofs.Math.Path.{refl, ap}
use Rattle.std.proofs.Common.{sym, ◌∙◌, arith}
use Rattle.std.proofs.Math.Bool.{not}
use borrow.Author.Tests.{eq-eqb, ne_eqb, eqb-true, leb-true, le-leb, not-true, not-false}
use Rattle.encoding.specs.Numbers.{two}
use Rattle.encoding.specs.Layout.{store_words, scratch_words, count as contexts}
use Rattle.encoding.specs.Sound.{SoundWords}
use Rattle.encoding.proofs.DecideLaws.{sound_true, true_sound}
use Rattle.store.specs.Calls.{zeros}
use Rattle.sets.specs.Config.{Config}
use Rattle.encoding.specs.Bools.{never_both, both_true, and_left, and_right}
use Rattle.sets.specs.Lists.{any}
use Rattle.sets.specs.Layout.{most_configs, set_words_length, config_at, config_count}
use Rattle.sets.specs.Sets.{key, same_keys}
use Rattle.sets.specs.Sets.Laws.{same_of_key, other_key}
use Rattle.sets.specs.Words.{set_of, SoundSet}
use Rattle.sets.specs.Listed.{configs_length, any_none, none_any}
use Rattle.sets.proofs.Sound.{sound_set_true, true_sound_set}
use Rattle.encoding.specs.Store.{at}
use Rattle.store.specs.Checks.{Check, unless, order, due}
use Rattle.store.specs.Checks.Laws.{in_order, Clear, due_leaves, refused_due}
use Rattle.sets.specs.Calls.{refused, done, added, SetLeft, refusal, lent_lengths, lent_checks, add_checks, fresh_set_call, add_call, close_call}

-- ---- what a refusal leaves

same_number : (n m : ℕ) → refused n ≡ refused m → n ≡ m
same_number n m e = cc

module _ (w v z : List ℕ) where
  pub refusal_reply : (n : ℕ) → (refusal w v z n).reply ≡ refused n
  unfolding refusal
  refusal_reply n = two n 2 (λ e. rw (eq-eqb n 2 e, refusal)) (λ d. rw (ne_eqb n 2 d, refusal))

  -- "Store, set and outputs stay as on entry"
  pub refusal_keeps : (n : ℕ) → ((refusal w v z n).store ≡ w) × ((refusal w v z n).set ≡ v)
  unfolding refusal
  refusal_keeps n = two n 2 (λ e. rw (eq-eqb n 2 e, refusal) (refl, refl)) (λ d. rw (ne_eqb n 2 d, refusal) (refl, refl))

  pub refusal_made : (n : ℕ) → (refusal w v z n).made ≡ 0
  unfolding refusal
  refusal_made n = two n 2 (λ e. rw (eq-eqb n 2 e, refusal)) (λ d. rw (ne_eqb n 2 d, refusal))

  -- "scratch is 0 (untouched on 2)"
  pub refusal_scratch : (n : ℕ) → (n ≡ 2 → (refusal w v z n).scratch ≡ z) × ((n ≡ 2 → ⊥) → (refusal w v z n).scratch ≡ zeros)
  unfolding refusal
  refusal_scratch n = (λ e. rw (eq-eqb n 2 e, refusal), λ d. rw (ne_eqb n 2 d, refusal))

  -- ---- exactly when

  module _ (cs : List Check) (go : SetLeft) (answers : (n : ℕ) → go.reply ≡ refused n → ⊥) (n : ℕ) where
    -- "Given exactly when" it is due: its reason holds and none earlier
    pub refused_exactly : ((unless cs (refusal w v z) go).reply ≡ refused n) ↔ (due cs ≡ at n)
    refused_exactly = (
      refused_due (refusal w v z) go (λ m x. x.reply ≡ refused m) (λ m k e. same_number k m (sym (refusal_reply k) ∙ e)) answers n cs,
      λ d. ap (λ (x : SetLeft). x.reply) (due_leaves (refusal w v z) go n cs d) ∙ refusal_reply n,
    )

    -- and then this is what the call leaves
    pub refused_leaves : (unless cs (refusal w v z) go).reply ≡ refused n → unless cs (refusal w v z) go ≡ refusal w v z n
    refused_leaves e = due_leaves (refusal w v z) go n cs (refused_exactly.0 e)

-- ---- the first checks, in document 01's words

module _ (w v z : List ℕ) where
  pub record SoundLent : Type 0 where
    pub store_length : length w ≡ store_words
    pub set_length : length v ≡ set_words_length
    pub scratch_length : length z ≡ scratch_words
    pub store_sound : SoundWords w
    pub set_sound : SoundSet (contexts w) v

  lengths_right : lent_lengths w v z ≡ true → (length w ≡ store_words) × (length v ≡ set_words_length) × (length z ≡ scratch_words)
  unfolding lent_lengths
  lengths_right l =
      let r = and_right (eqb (length w) store_words) _ l in
      (eqb-true _ store_words (and_left _ _ l), eqb-true _ set_words_length (and_left _ _ r), eqb-true _ scratch_words (and_right (eqb (length v) set_words_length) _ r))

  right_lengths : (length w ≡ store_words) × (length v ≡ set_words_length) × (length z ≡ scratch_words) → lent_lengths w v z ≡ true
  unfolding lent_lengths
  right_lengths l = both_true _ _ (eq-eqb (length w) store_words l.0) (both_true _ _ (eq-eqb (length v) set_words_length l.1) (eq-eqb (length z) scratch_words l.2))

  pub clear_lent : Clear (lent_checks (lent_lengths w v z) w v []) → SoundLent
  unfolding lent_checks
  clear_lent c =
      let l = lengths_right (not-false _ c.0) in
      record {
        store_length = l.0;
        set_length = l.1;
        scratch_length = l.2;
        store_sound = sound_true w l.0 (not-false _ c.1.0);
        set_sound = sound_set_true (contexts w) v (not-false _ c.1.1.0);
      }

  pub lent_clear : SoundLent → Clear (lent_checks (lent_lengths w v z) w v [])
  unfolding lent_checks
  lent_clear l = (
    ap not (right_lengths (l.store_length, l.set_length, l.scratch_length)),
    (ap not (true_sound w l.store_length l.store_sound), (ap not (true_sound_set (contexts w) v l.set_length l.set_sound), tt)),
  )

-- ---- for each call: "Given exactly when", in document 01's order, and what is left then

not_added : (a n : ℕ) → added a ≡ refused n → ⊥
not_added a n e = let z : ◌≡◌ {A = ℕ} 0 1 = cc in omega arith

not_done : (n : ℕ) → done ≡ refused n → ⊥
not_done n e = let z : ◌≡◌ {A = ℕ} 0 1 = cc in omega arith

-- check 8 in words: "`add` with a new key to a set of 256"
module _ (k : ℕ) (v : List ℕ) (x : Config) (s : SoundSet k v) where
  abbrev Full : Type 0
  Full = ((i : ℕ) → i < config_count v → key (config_at v i) ≡ key x → ⊥) × (config_count v ≡ most_configs)

  full_new : (not (any (same_keys x) (set_of v).configs) && leb most_configs (length (set_of v).configs)) ≡ true → Full
  full_new t =
      let none = not-true _ (and_left _ (leb most_configs (length (set_of v).configs)) t) in
      let most = leb-true most_configs (length (set_of v).configs) (and_right (not (any (same_keys x) (set_of v).configs)) _ t) in (
        λ i h q. never_both (same_of_key x (config_at v i) (sym q)) (any_none (same_keys x) v (config_count v) none i h),
        omega (arith, configs_length v (config_count v), s.counted),
      )

  new_full : Full → (not (any (same_keys x) (set_of v).configs) && leb most_configs (length (set_of v).configs)) ≡ true
  new_full f =
      both_true _ _ (ap not (none_any (same_keys x) v (config_count v) (λ i h. other_key x (config_at v i) (λ q. f.0 i h (sym q)))))
      (le-leb most_configs (length (set_of v).configs) (omega (arith, configs_length v (config_count v), f.1)))

  pub full_exactly : ((not (any (same_keys x) (set_of v).configs) && leb most_configs (length (set_of v).configs)) ≡ true)
      ↔ (((i : ℕ) → i < config_count v → key (config_at v i) ≡ key x → ⊥) × (config_count v ≡ most_configs))
  full_exactly = (full_new, new_full)

module _ (w v z : List ℕ) (x : Config) where
  -- 2, 1, 3, 7, 4, 8, 12, 6
  pub add_refused_exactly : (n : ℕ) → ((add_call w v z x).reply ≡ refused n) ↔ (due (add_checks w v z x) ≡ at n)
  unfolding add_call
  add_refused_exactly = refused_exactly w v z (add_checks w v z x) _ (λ m. not_added _ m)

  pub add_refused_leaves : (n : ℕ) → (add_call w v z x).reply ≡ refused n → add_call w v z x ≡ refusal w v z n
  unfolding add_call
  add_refused_leaves = refused_leaves w v z (add_checks w v z x) _ (λ n. not_added _ n)

  pub add_in_order : in_order order (add_checks w v z x) ≡ true
  unfolding add_checks lent_checks in_order
  add_in_order = refl

module _ (w v z : List ℕ) where
  -- 2, 1, 3
  pub close_refused_exactly : (n : ℕ) → ((close_call w v z).reply ≡ refused n) ↔ (due (lent_checks (lent_lengths w v z) w v []) ≡ at n)
  unfolding close_call
  close_refused_exactly = refused_exactly w v z (lent_checks (lent_lengths w v z) w v []) _ not_done

  pub close_refused_leaves : (n : ℕ) → (close_call w v z).reply ≡ refused n → close_call w v z ≡ refusal w v z n
  unfolding close_call
  close_refused_leaves = refused_leaves w v z (lent_checks (lent_lengths w v z) w v []) _ not_done

  pub close_in_order : in_order order (lent_checks (lent_lengths w v z) w v []) ≡ true
  unfolding lent_checks in_order
  close_in_order = refl

-- 2
pub fresh_refused_exactly : (v : List ℕ) (f : Bool) (n : ℕ) → ((fresh_set_call v f).0 ≡ refused n) ↔ ((n ≡ 2) × (length v ≡ set_words_length → ⊥))
unfolding fresh_set_call unless
fresh_refused_exactly v f n =
    two (length v) set_words_length
    (λ e. rw (eq-eqb (length v) set_words_length e) (λ q. absurd (not_done n q), λ r. absurd (r.1 e)))
    (λ d. rw (ne_eqb (length v) set_words_length d) (λ q. (sym (same_number 2 n q), d), λ r. ap refused (sym r.0)))

pub fresh_refused_leaves : (v : List ℕ) (f : Bool) → (length v ≡ set_words_length → ⊥) → fresh_set_call v f ≡ (refused 2, v)
unfolding fresh_set_call unless
fresh_refused_leaves v f d = rw (ne_eqb (length v) set_words_length d)
