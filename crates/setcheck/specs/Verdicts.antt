-- From the judgements of the configs to the verdict on the set, and back. Nothing here has to be believed.
use Rattle.std.specs.Prelude.{◌≡◌, refl, Bool, true, false, List, ℕ, ◌<◌, ◌≤◌, ◌+◌, ◌*◌, ◌/◌, ◌%◌, eqb, length, Option, Some, None}
use Rattle.std.proofs.Math.Path.{sym, ap}
use Rattle.std.proofs.Common.{◌∙◌, arith}
use Rattle.std.specs.Int.Bits.{bit_and}
use Rattle.std.proofs.lemmas.Nat.Bits.{and_high}
use Rattle.words.specs.Lent.{all_zero, cleared_range}
use Rattle.words.specs.Lent.Laws.{length_cleared_range, cleared_range_before, cleared_range_inside, all_zero_at, all_zero_of}
use Rattle.layout.specs.Layout.{scratch_words}
use Rattle.words.specs.Bools.{never_both}
use Rattle.sets.specs.Layout.{most_configs, config_words, first_config, set_words_length, config_count, flag_word, flag}
use Rattle.sets.specs.Sets.{empty_set, with_configs, has_semantic, dips}
use Rattle.sets.specs.Words.{flags_of, configs_in, set_of, SoundSet}
use Rattle.sets.specs.Flags.{four, flags_are, four_of, four_second, four_third, four_middle}
use Rattle.sets.proofs.Sound.{semantic_at, at_semantic, dips_at, at_dips, sound_flags}
use Rattle.sets.specs.Chains.{chain_empty}
use Rattle.setcheck.specs.Keys.{key_heads, key_links, Keyed}
use Rattle.setcheck.specs.Judged.{SameIndex, GoodConfig, PassedConfigs, Gathered, JudgedConfigs, SetVerdict}

-- ---- empty chains

module _ (v z : List ℕ) (k : ℕ) (lv : length v ≡ set_words_length) (lz : length z ≡ scratch_words) (y : List ℕ) (e : y ≡ cleared_range z key_heads key_links) where
  pub start_passed : PassedConfigs v y k 0
  start_passed = rw e (record {
    sized = lv;
    lent = length_cleared_range z key_heads key_links (omega arith) (omega arith) ∙ lz;
    chains = chain_empty _ key_heads key_links _ (λ b l. cleared_range_inside z key_heads key_links (omega arith) (omega arith) (key_heads + b) (omega arith) (omega arith));
    good = λ i l. absurd (omega arith);
  })

  pub start_same : SameIndex z y
  start_same = rw e (λ j l. cleared_range_before z key_heads key_links (omega arith) (omega arith) j l)

-- ---- the flags of the configs alone

middle : (n : ℕ) → bit_and n 6 ≡ n / 2 % 4 * 2
middle n = and_high n 2 1

module _ (k : ℕ) (v : List ℕ) (s : SoundSet k v) where
  pub sound_configs : (i : ℕ) → i < config_count v → GoodConfig v k i
  sound_configs i l = record { known = s.known i l; new = λ j h. s.differ j i h l }

  pub sound_middle : bit_and (flag_word v) 6 ≡ flags_of (with_configs (empty_set false) (configs_in v (config_count v)))
  sound_middle =
      middle (flag_word v) ∙ rw (sound_flags k v s, flags_are (set_of v), flags_are (with_configs (empty_set false) (configs_in v (config_count v))))
      (four_middle (flag 1 v) (has_semantic (configs_in v (config_count v))) (dips (configs_in v (config_count v))) (flag 8 v))

  pub sound_unused : all_zero v (first_config + config_words * config_count v) set_words_length ≡ true
  sound_unused = all_zero_of v (first_config + config_words * config_count v) set_words_length s.unused

-- ---- the judgements give soundness

module _ {v z u : List ℕ} {k f : ℕ} (g : Gathered v z k (config_count v) f u) (few : config_count v ≤ most_configs) (small : flag_word v < 16)
    (same : bit_and (flag_word v) 6 ≡ f) (zeros : all_zero v (first_config + config_words * config_count v) set_words_length ≡ true) where
  -- the two words of flags agree in the second and the third
  agree : four false (flag 2 v) (flag 4 v) false ≡ four false (has_semantic (configs_in v (config_count v))) (dips (configs_in v (config_count v))) false
  unfolding flag
  agree =
      sym (four_middle (flag 1 v) (flag 2 v) (flag 4 v) (flag 8 v))
      ∙ ap (λ (n : ℕ). n / 2 % 4 * 2) (sym (four_of (flag_word v) small))
      ∙ sym (middle (flag_word v)) ∙ same ∙ g.flags ∙ flags_are (with_configs (empty_set false) (configs_in v (config_count v)))

  second : flag 2 v ≡ has_semantic (configs_in v (config_count v))
  second = sym (four_second false (flag 2 v) (flag 4 v) false) ∙ ap (λ (n : ℕ). eqb (n / 2 % 2) 1) agree ∙ four_second false _ _ false

  third : flag 4 v ≡ dips (configs_in v (config_count v))
  third = sym (four_third false (flag 2 v) (flag 4 v) false) ∙ ap (λ (n : ℕ). eqb (n / 4 % 2) 1) agree ∙ four_third false _ _ false

  pub gathered_sound : SoundSet k v
  gathered_sound = record {
    counted = few;
    known = λ i l. (g.passed.good i l).known;
    differ = λ i j h l. (g.passed.good j l).new i h;
    semantic = (λ e. semantic_at v (config_count v) (sym second ∙ e), λ r. second ∙ at_semantic v (config_count v) r);
    dipping = (λ e. dips_at v (config_count v) (sym third ∙ e), λ r. third ∙ at_dips v (config_count v) r);
    flags = small;
    unused = all_zero_at v (first_config + config_words * config_count v) set_words_length zeros;
  }

-- a verdict whose answer is computed
pub verdict_if : (v z u : List ℕ) (k : ℕ) (b : Bool) → (b ≡ true → SoundSet k v) → (b ≡ false → SoundSet k v → ⊥) → length u ≡ scratch_words
    → Keyed v (config_count v) u → SameIndex z u → SetVerdict v z k b u
verdict_if v z u k true is isnt l c i = (is refl, l, c, i)
verdict_if v z u k false is isnt l c i = (isnt refl, l)

-- ---- the whole check

module _ (v z : List ℕ) (k : ℕ) (lv : length v ≡ set_words_length) (lz : length z ≡ scratch_words) (y : List ℕ) (e : y ≡ cleared_range z key_heads key_links)
    (n : ℕ) (counted : n ≡ config_count v) (few : n ≤ most_configs) (u : List ℕ) (r : Option ℕ) (j : JudgedConfigs v y k n r u) where
  pub bad_verdict : r ≡ None → SetVerdict v z k false u
  bad_verdict q = let bad = rw q at j in (λ s. bad.0 (λ i l. sound_configs k v s i (rw counted at l)), bad.1)

  module _ (f : ℕ) (q : r ≡ Some f) where
    gathered : Gathered v y k (config_count v) f u
    gathered = rw counted at (rw q at j)

    -- the flags are not those of the configs
    pub other_flags : (held : ℕ) → held ≡ flag_word v → (bit_and held 6 ≡ f → ⊥) → SetVerdict v z k false u
    other_flags held h d = (λ s. d (ap (λ (m : ℕ). bit_and m 6) h ∙ sound_middle k v s ∙ sym gathered.flags), gathered.passed.lent)

    pub last_verdict : (held : ℕ) → held ≡ flag_word v → held < 16 → bit_and held 6 ≡ f → (b : Bool) → b ≡ all_zero v (first_config + config_words * n) set_words_length
        → SetVerdict v z k b u
    last_verdict held h small same b z₀ =
        let unused = z₀ ∙ ap (λ (m : ℕ). all_zero v (first_config + config_words * m) set_words_length) counted in
        verdict_if v z u k b
        (λ t. gathered_sound gathered (rw counted at few) (rw h at small) (rw h at same) (sym unused ∙ t))
        (λ t s. never_both (sound_unused k v s) (sym unused ∙ t))
        gathered.passed.lent gathered.passed.chains (λ i l. gathered.index i l ∙ start_same v z k lv lz y e i l)
