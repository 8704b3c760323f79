-- A config that goes last. Nothing here has to be believed.
use Rattle.std.specs.Prelude.{◌≡◌, ℕ, suc, ◌<◌, ◌≤◌, ◌+◌, set}
use Rattle.std.proofs.Math.Path.{sym, ap}
use Rattle.std.proofs.Common.{◌∙◌, arith, length-append, le-leb}
use mathlib.Core.List.{List, [], ◌∷◌, ◌++◌}
use Rattle.std.proofs.Math.ListN.{length, length-set}
use Rattle.std.proofs.Math.Seq.{get_or-set_same, get_or-set_other}
use Rattle.std.proofs.lemmas.Bool.{lt-leb}
use Rattle.sets.specs.Config.{Config}
use Rattle.sets.specs.Layout.{most_configs, set_words_length, config_count, flag_word, config_at}
use Rattle.sets.specs.Sets.{Set, with_configs}
use Rattle.sets.specs.Words.{set_words, configs_in, set_of}
use Rattle.sets.specs.Held.{HeldSet, held_words}
use Rattle.sets.specs.Listed.{configs_agree}
use Rattle.store.specs.Checks.{given, unless}
use Rattle.store.specs.Checks.Laws.{unless_first, unless_next}
use Rattle.sets.specs.Calls.{refused, added, set_left}
use Rattle.setcheck.specs.Flags.{joined_flags, joined_more}
use Rattle.configs.specs.Writes.{put_config, put_length, put_after, put_here, put_other, head_config, head_other}
use Rattle.configs.specs.Adding.{insert_call}

-- config n put, the count raised, and the flags
abbrev last_put : List ℕ → ℕ → Config → ℕ → List ℕ
last_put v n x b = set (set (put_config v n x) 0 (n + 1)) 1 b

module _ (v : List ℕ) (S : Set) (h : HeldSet v S) (x : Config) (n : ℕ) (e : n ≡ length S.configs) (few : n < most_configs) (b : ℕ) (f : b ≡ joined_flags (flag_word v) x) where
  one : List ℕ
  one = put_config v n x

  one_sized : length one ≡ set_words_length
  unfolding one
  one_sized = put_length v n x ∙ h.sized

  config_same : (i : ℕ) → config_at (last_put v n x b) i ≡ config_at one i
  unfolding one
  config_same i = head_config (set (put_config v n x) 0 (n + 1)) 1 b (omega arith) i ∙ head_config (put_config v n x) 0 (n + 1) (omega arith) i

  more_length : length (S.configs ++ (x ∷ [])) ≡ suc n
  more_length = length-append S.configs (x ∷ []) ∙ omega arith

  configs_now : configs_in (last_put v n x b) (suc n) ≡ S.configs ++ (x ∷ [])
  unfolding configs_in one
  configs_now =
      let last = config_same n ∙ put_here v n x h.sized few in
      let before : configs_in (last_put v n x b) n ≡ S.configs =
      configs_agree (last_put v n x b) v n (λ i l. config_same i ∙ put_other v n x i (omega arith)) ∙ ap (configs_in v) e ∙ h.configs in
      rw (last, before)

  insert_held : HeldSet (last_put v n x b) (with_configs S (S.configs ++ (x ∷ [])))
  unfolding one config_count flag_word
  insert_held =
      let l = one_sized in
      let l₁ : length (set one 0 (n + 1)) ≡ set_words_length = length-set one 0 (n + 1) ∙ l in
      record {
        sized = length-set (set one 0 (n + 1)) 1 b ∙ l₁;
        few = omega (arith, more_length);
        count = get_or-set_other (set one 0 (n + 1)) 1 0 b 0 (omega arith) ∙ get_or-set_same one 0 (n + 1) 0 (omega arith) ∙ omega (arith, more_length);
        flags = get_or-set_same (set one 0 (n + 1)) 1 b 0 (omega arith) ∙ f ∙ ap (λ (m : ℕ). joined_flags m x) h.flags ∙ joined_more S x;
        configs = ap (configs_in (last_put v n x b)) more_length ∙ configs_now;
        unused = λ j p q.
            head_other (set one 0 (n + 1)) 1 b (omega arith) j (omega arith) ∙ head_other one 0 (n + 1) (omega arith) j (omega arith)
            ∙ put_after v n x j (omega (arith, more_length)) ∙ h.unused j (omega (arith, more_length)) q;
      }

module _ (v : List ℕ) (h : HeldSet v (set_of v)) (x : Config) (n : ℕ) (e : n ≡ config_count v) (w z : List ℕ) where
  pub insert_full : most_configs ≤ n → set_left (refused 8) w v z ≡ insert_call w v z x
  unfolding insert_call
  insert_full f = sym (unless_first _ _ (given 8 _) [] (le-leb most_configs (length (set_of v).configs) (omega (arith, h.count))))

  pub insert_done : n < most_configs → (m : ℕ) → m ≡ flag_word v → (b : ℕ) → b ≡ joined_flags m x → (u : List ℕ) → u ≡ put_config v n x
      → set_left (added 1) w (set (set u 0 (n + 1)) 1 b) z ≡ insert_call w v z x
  unfolding insert_call unless
  insert_done few m em b eb u eu =
      let S : Set = set_of v in
      rw (
        eu,
        held_words (last_put v n x b) (with_configs S (S.configs ++ (x ∷ [])))
            (insert_held v S h x n (e ∙ h.count) few b (eb ∙ ap (λ (k : ℕ). joined_flags k x) em)),
      )
      (sym (unless_next (λ k. set_left (refused k) w v z) (set_left (added 1) w (set_words (with_configs S (S.configs ++ (x ∷ [])))) z) (given 8 _) []
      (lt-leb most_configs (length S.configs) (omega (arith, h.count)))))
