-- The words that code of this crate writes, and what they hold then. Nothing here has to be believed.
use Rattle.std.specs.Prelude.{◌≡◌, refl, ◌≢◌, List, [], ◌∷◌, ℕ, suc, ◌<◌, ◌≤◌, ◌+◌, ◌*◌, length, get_or, set}
use Rattle.std.proofs.Common.{◌∙◌, arith, length-set, get_or-set_same, get_or-set_other}
use Rattle.words.specs.Numbers.{three}
use Rattle.sets.specs.Config.{Config}
use Rattle.sets.specs.Layout.{most_configs, config_words, first_config, set_words_length, fields, field, config_at, config_count, flag_word}
use Rattle.sets.specs.Held.{reads, fields_config, config_agree}

-- words put from place j + f on
unfoldable pub put_fields : List ℕ → ℕ → ℕ → List ℕ → List ℕ
put_fields v j f [] = v
put_fields v j f (a ∷ more) = put_fields (set v (j + f) a) j (suc f) more

-- config i
unfoldable pub put_config : List ℕ → ℕ → Config → List ℕ
put_config v i x = put_fields v (first_config + config_words * i) 0 (fields x)

fields_length : (v : List ℕ) (j f : ℕ) (xs : List ℕ) → length (put_fields v j f xs) ≡ length v
unfolding put_fields
fields_length v j f [] = refl
fields_length v j f (a ∷ xs) = fields_length (set v (j + f) a) j (suc f) xs ∙ length-set v (j + f) a

fields_before : (v : List ℕ) (j f : ℕ) (xs : List ℕ) (m : ℕ) → m < j + f → get_or (put_fields v j f xs) m 0 ≡ get_or v m 0
unfolding put_fields
fields_before v j f [] m h = refl
fields_before v j f (a ∷ xs) m h =
    fields_before (set v (j + f) a) j (suc f) xs m (omega arith) ∙ get_or-set_other v (j + f) m a 0 (omega arith)

fields_after : (v : List ℕ) (j f : ℕ) (xs : List ℕ) (m : ℕ) → j + f + length xs ≤ m → get_or (put_fields v j f xs) m 0 ≡ get_or v m 0
unfolding put_fields
fields_after v j f [] m h = refl
fields_after v j f (a ∷ xs) m h =
    fields_after (set v (j + f) a) j (suc f) xs m (omega arith) ∙ get_or-set_other v (j + f) m a 0 (omega arith)

fields_read : (v : List ℕ) (j f : ℕ) (xs : List ℕ) → j + f + length xs ≤ length v → reads (put_fields v j f xs) j f (length xs) ≡ xs
unfolding put_fields reads
fields_read v j f [] h = refl
fields_read v j f (a ∷ xs) h =
    rw (
      fields_before (set v (j + f) a) j (suc f) xs (j + f) (omega arith) ∙ get_or-set_same v (j + f) a 0 (omega arith),
      fields_read (set v (j + f) a) j (suc f) xs (simp length-set (omega arith)),
    )

-- ---- one config put

module _ (v : List ℕ) (i : ℕ) (x : Config) where
  pub put_length : length (put_config v i x) ≡ length v
  unfolding put_config
  put_length = fields_length v (first_config + config_words * i) 0 (fields x)

  pub put_before : (m : ℕ) → m < first_config + config_words * i → get_or (put_config v i x) m 0 ≡ get_or v m 0
  unfolding put_config
  put_before m h = fields_before v (first_config + config_words * i) 0 (fields x) m (omega arith)

  pub put_after : (m : ℕ) → first_config + config_words * i + config_words ≤ m → get_or (put_config v i x) m 0 ≡ get_or v m 0
  unfolding put_config fields
  put_after m h = fields_after v (first_config + config_words * i) 0 (fields x) m (omega arith)

  pub put_count : config_count (put_config v i x) ≡ config_count v
  unfolding config_count
  put_count = put_before 0 (omega arith)

  pub put_flags : flag_word (put_config v i x) ≡ flag_word v
  unfolding flag_word
  put_flags = put_before 1 (omega arith)

  pub put_here : length v ≡ set_words_length → i < most_configs → config_at (put_config v i x) i ≡ x
  unfolding put_config fields config_at field reads
  put_here l h =
      fields_config (config_at (put_config v i x) i) x (fields_read v (first_config + config_words * i) 0 (fields x) (omega arith))

  pub put_other : (j : ℕ) → j ≢ i → config_at (put_config v i x) j ≡ config_at v j
  put_other j d =
      config_agree (put_config v i x) v j
      (λ m a b. three j i (λ h. put_before m (omega arith)) (λ e. absurd (d e)) (λ h. put_after m (omega arith)))

-- ---- count and flags put

module _ (v : List ℕ) (j a : ℕ) (h : j < first_config) where
  -- no config is touched
  pub head_config : (i : ℕ) → config_at (set v j a) i ≡ config_at v i
  head_config i = config_agree (set v j a) v i (λ m p q. get_or-set_other v j m a 0 (omega arith))

  pub head_other : (m : ℕ) → first_config ≤ m → get_or (set v j a) m 0 ≡ get_or v m 0
  head_other m p = get_or-set_other v j m a 0 (omega arith)
