-- Set words are sound exactly when they are the words of a sound set, and of one only. Nothing here has to be believed.
use Rattle.std.specs.Prelude.{◌≡◌, ◌↔◌, true, false, ℕ, ◌<◌, ◌≤◌, ◌/◌, ◌%◌, eqb, leb, length}
use Rattle.std.proofs.Common.{sym, ap, ◌∙◌, arith}
use Rattle.std.proofs.Math.Path.{subst}
use Rattle.std.proofs.Math.Bool.{not}
use mathlib.Core.List.{List}
use Rattle.std.proofs.Math.Dec.{ltb}
use borrow.Author.Tests.{ne_eqb, eqb-false, not-true, ltb-true, lt-ltb, leb-true, le-leb}
use Rattle.encoding.specs.Decide.{same_words}
use Rattle.encoding.proofs.DecideLaws.{same_words_lem, words_same}
use Rattle.sets.specs.Lists.{all}
use Rattle.encoding.specs.Bools.{bool_iff, is_false, both_true, and_left, and_right}
use Rattle.sets.specs.Layout.{most_configs, set_words_length, config_at, config_count, flag_word, flag}
use Rattle.sets.specs.Sets.{Set, has_semantic, dips}
use Rattle.sets.specs.Words.{flags_of, set_words, configs_in, set_of, SoundSet, distinct, good_set, sound_set}
use Rattle.sets.specs.Flags.{four, flags_are, four_of, four_below, four_second, four_third}
use Rattle.sets.specs.Listed.{configs_length, any_at, at_any, all_at, at_all, distinct_at, at_distinct}
use Rattle.sets.specs.Held.{HeldSet, held_words, words_held, held_set}

-- ---- the flags that the configs decide

module _ (v : List ℕ) (n : ℕ) where
  pub semantic_at : has_semantic (configs_in v n) ≡ true → (i : ℕ) × (i < n) × ((config_at v i).semantic ≡ 0 → ⊥)
  unfolding has_semantic
  semantic_at e = let r = any_at (λ x. not (eqb x.semantic 0)) v n e in (r.0, r.1, eqb-false _ 0 (not-true _ r.2))

  pub at_semantic : (i : ℕ) × (i < n) × ((config_at v i).semantic ≡ 0 → ⊥) → has_semantic (configs_in v n) ≡ true
  unfolding has_semantic
  at_semantic r = at_any (λ x. not (eqb x.semantic 0)) v n r.0 r.1 (ap not (ne_eqb _ 0 r.2))

  pub dips_at : dips (configs_in v n) ≡ true → (i : ℕ) × (i < n) × (0 < (config_at v i).reach)
  unfolding dips
  dips_at e = let r = any_at (λ x. ltb 0 x.reach) v n e in (r.0, r.1, ltb-true 0 _ r.2)

  pub at_dips : (i : ℕ) × (i < n) × (0 < (config_at v i).reach) → dips (configs_in v n) ≡ true
  unfolding dips
  at_dips r = at_any (λ x. ltb 0 x.reach) v n r.0 r.1 (lt-ltb 0 _ r.2)

-- ---- a sound set's parts

module _ (k : ℕ) (S : Set) (g : good_set k S ≡ true) where
  pub good_few : length S.configs ≤ most_configs
  unfolding good_set
  good_few = leb-true _ _ (and_left _ _ g)

  pub good_known : all (λ x. ltb x.context k) S.configs ≡ true
  unfolding good_set
  good_known = and_left _ (distinct S.configs) (and_right (leb (length S.configs) most_configs) _ g)

  pub good_distinct : distinct S.configs ≡ true
  unfolding good_set
  good_distinct = and_right (all (λ x. ltb x.context k) S.configs) _ (and_right (leb (length S.configs) most_configs) _ g)

-- ---- words that hold a sound set are sound

pub held_sound : (k : ℕ) (v : List ℕ) (S : Set) → HeldSet v S → good_set k S ≡ true → SoundSet k v
unfolding flag
held_sound k v S h g =
    let cs : configs_in v (config_count v) ≡ S.configs = ap (configs_in v) h.count ∙ h.configs in
    let word : flag_word v ≡ four S.full (has_semantic S.configs) (dips S.configs) S.closed = h.flags ∙ flags_are S in
    let second : flag 2 v ≡ has_semantic (configs_in v (config_count v)) =
    ap (λ (n : ℕ). eqb (n / 2 % 2) 1) word ∙ four_second S.full (has_semantic S.configs) (dips S.configs) S.closed ∙ ap has_semantic (sym cs) in
    let third : flag 4 v ≡ dips (configs_in v (config_count v)) =
    ap (λ (n : ℕ). eqb (n / 4 % 2) 1) word ∙ four_third S.full (has_semantic S.configs) (dips S.configs) S.closed ∙ ap dips (sym cs) in
    record {
      counted = omega (arith, h.few, h.count);
      known = λ i l. ltb-true _ k (all_at (λ x. ltb x.context k) v (config_count v) (rw cs (good_known k S g)) i l);
      differ = distinct_at v (config_count v) (rw cs (good_distinct k S g));
      semantic = (λ e. semantic_at v (config_count v) (sym second ∙ e), λ r. second ∙ at_semantic v (config_count v) r);
      dipping = (λ e. dips_at v (config_count v) (sym third ∙ e), λ r. third ∙ at_dips v (config_count v) r);
      flags = rw word (four_below S.full (has_semantic S.configs) (dips S.configs) S.closed);
      unused = λ j l. h.unused j (omega (arith, h.count));
    }

-- ---- sound words hold the set that they are read as

module _ (k : ℕ) (v : List ℕ) (s : SoundSet k v) where
  pub sound_second : flag 2 v ≡ has_semantic (configs_in v (config_count v))
  sound_second =
      bool_iff (flag 2 v) (has_semantic (configs_in v (config_count v)))
      (λ e. at_semantic v (config_count v) (s.semantic.0 e))
      (λ e. s.semantic.1 (semantic_at v (config_count v) e))

  pub sound_third : flag 4 v ≡ dips (configs_in v (config_count v))
  sound_third =
      bool_iff (flag 4 v) (dips (configs_in v (config_count v)))
      (λ e. at_dips v (config_count v) (s.dipping.0 e))
      (λ e. s.dipping.1 (dips_at v (config_count v) e))

  pub sound_flags : flag_word v ≡ flags_of (set_of v)
  unfolding flag
  sound_flags = four_of (flag_word v) s.flags ∙ rw (flags_are (set_of v), ← sound_second, ← sound_third)

  pub sound_good : good_set k (set_of v) ≡ true
  unfolding good_set
  sound_good =
      both_true _ _ (le-leb (length (configs_in v (config_count v))) most_configs (omega (arith, s.counted, configs_length v (config_count v))))
      (both_true _ _ (at_all (λ x. ltb x.context k) v (config_count v) (λ i l. lt-ltb _ k (s.known i l))) (at_distinct v (config_count v) s.differ))

  pub sound_held : length v ≡ set_words_length → HeldSet v (set_of v)
  sound_held l =
      let n : length (configs_in v (config_count v)) ≡ config_count v = configs_length v (config_count v) in
      record {
        sized = l;
        few = omega (arith, s.counted);
        count = sym n;
        flags = sound_flags;
        configs = ap (configs_in v) n;
        unused = λ j h. s.unused j (omega arith);
      }

  pub sound_words : length v ≡ set_words_length → v ≡ set_words (set_of v)
  sound_words l = held_words v (set_of v) (sound_held l)

-- ---- the words of a sound set

module _ (k : ℕ) (S : Set) (g : good_set k S ≡ true) where
  pub words_sound : SoundSet k (set_words S)
  words_sound = held_sound k (set_words S) S (words_held S (good_few k S g)) g

  pub set_of_words : set_of (set_words S) ≡ S
  set_of_words = held_set (set_words S) S (words_held S (good_few k S g))

-- Words of the right length are sound exactly when they are the words of a sound set.
pub set_exactly : (k : ℕ) (v : List ℕ) → length v ≡ set_words_length → SoundSet k v ↔ ((S : Set) × (good_set k S ≡ true) × (v ≡ set_words S))
set_exactly k v l = (
  λ s. (set_of v, sound_good k v s, sound_words k v s l),
  λ r. subst (SoundSet k) (sym r.2) (words_sound k r.0 r.1),
)

-- And that set is the only one.
pub set_unique : (k m : ℕ) (S T : Set) → good_set k S ≡ true → good_set m T ≡ true → set_words S ≡ set_words T → S ≡ T
set_unique k m S T g h e = sym (set_of_words k S g) ∙ ap set_of e ∙ set_of_words m T h

-- ---- the test decides

module _ (k : ℕ) (v : List ℕ) where
  pub sound_set_true : sound_set k v ≡ true → SoundSet k v
  unfolding sound_set
  sound_set_true e =
      subst (SoundSet k) (sym (same_words_lem v (set_words (set_of v)) (and_right (good_set k (set_of v)) _ e)))
      (words_sound k (set_of v) (and_left _ (same_words v (set_words (set_of v))) e))

  pub true_sound_set : length v ≡ set_words_length → SoundSet k v → sound_set k v ≡ true
  unfolding sound_set
  true_sound_set l s =
      both_true _ _ (sound_good k v s) (subst (λ (u : List ℕ). same_words v u ≡ true) (sound_words k v s l) (words_same v))

  pub sound_set_false : (SoundSet k v → ⊥) → sound_set k v ≡ false
  sound_set_false n = is_false _ (λ e. n (sound_set_true e))
