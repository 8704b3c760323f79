-- Words that hold a set are its words, and a set's words hold it. Nothing here has to be believed.
use Rattle.std.specs.Prelude.{◌≡◌, refl, take, drop}
use Rattle.std.proofs.Common.{sym, ◌∙◌, arith, length-drop, take-append-drop, drop-cons, take-add, drop-drop, get_or-drop, ext_get_or}
use Rattle.std.proofs.Math.Path.{ap}
use mathlib.Core.List.{List, [], ◌∷◌, ◌++◌, append_assoc, flat_map}
use Prim.Native.Nat.{ℕ, zero, suc, ◌<◌, ◌≤◌, ◌+◌, ◌*◌, ◌-◌}
use Rattle.std.proofs.Math.ListN.{length, get_or, length-append}
use Rattle.std.proofs.Math.Seq.{take_at, get_or-append-add}
use Rattle.encoding.specs.Layout.{blank}
use Rattle.encoding.specs.Writes.{length_blank, get_or_blank}
use Rattle.sets.specs.Config.{Config}
use Rattle.sets.specs.Layout.{most_configs, config_words, first_config, set_words_length, fields, field, config_at, config_count, flag_word, flag}
use Rattle.sets.specs.Sets.{Set, has_semantic, dips}
use Rattle.sets.specs.Words.{flags_of, set_words, configs_in, set_of}
use Rattle.sets.specs.Flags.{flags_are, four_first, four_fourth}
use Rattle.sets.specs.Listed.{configs_length}

-- ---- the words of a config, read and written

-- n words from place j + f on
unfoldable pub reads : List ℕ → ℕ → ℕ → ℕ → List ℕ
reads v j f zero = []
reads v j f (suc n) = get_or v (j + f) 0 ∷ reads v j (suc f) n

reads_taken : (v : List ℕ) (j f n : ℕ) → j + f + n ≤ length v → reads v j f n ≡ take n (drop (j + f) v)
unfolding reads
reads_taken v j f zero h = refl
reads_taken v j f (suc n) h =
    let e : suc (j + f) ≡ j + suc f = omega arith in
    rw (drop-cons v (j + f) 0 (omega arith), e, reads_taken v j (suc f) n (omega arith))

pub fields_taken : (v : List ℕ) (i : ℕ) → first_config + config_words * i + config_words ≤ length v
    → fields (config_at v i) ≡ take config_words (drop (first_config + config_words * i) v)
unfolding fields config_at field reads
fields_taken v i h =
    let e : first_config + config_words * i + 0 ≡ first_config + config_words * i = omega arith in
    reads_taken v (first_config + config_words * i) 0 config_words (omega arith) ∙ ap (λ (j : ℕ). take config_words (drop j v)) e

-- a config from its words
pub fields_config : (x y : Config) → fields x ≡ fields y → x ≡ y
unfolding fields config_at field
fields_config x y e = ap (λ (l : List ℕ). config_at (0 ∷ 0 ∷ l) 0) e

-- configs whose words agree are equal
reads_agree : (u v : List ℕ) (j f n : ℕ) → ((m : ℕ) → j + f ≤ m → m < j + f + n → get_or u m 0 ≡ get_or v m 0) → reads u j f n ≡ reads v j f n
unfolding reads
reads_agree u v j f zero h = refl
reads_agree u v j f (suc n) h =
    rw (h (j + f) (omega arith) (omega arith), reads_agree u v j (suc f) n (λ m a b. h m (omega arith) (omega arith)))

pub config_agree : (u v : List ℕ) (i : ℕ)
    → ((m : ℕ) → first_config + config_words * i ≤ m → m < first_config + config_words * i + config_words → get_or u m 0 ≡ get_or v m 0)
    → config_at u i ≡ config_at v i
unfolding fields config_at field reads
config_agree u v i h =
    fields_config (config_at u i) (config_at v i)
    (reads_agree u v (first_config + config_words * i) 0 config_words (λ m a b. h m (omega arith) (omega arith)))

-- ---- the words of all configs

all_more : (cs : List Config) (x : Config) → flat_map fields (cs ++ (x ∷ [])) ≡ flat_map fields cs ++ fields x
unfolding flat_map fields
all_more [] x = refl
all_more (y ∷ ys) x = ap (λ (l : List ℕ). fields y ++ l) (all_more ys x) ∙ sym (append_assoc (fields y) (flat_map fields ys) (fields x))

all_taken : (v : List ℕ) (n : ℕ) → first_config + config_words * n ≤ length v → flat_map fields (configs_in v n) ≡ take (config_words * n) (drop first_config v)
unfolding configs_in flat_map
all_taken v zero h = refl
all_taken v (suc n) h =
    let e : config_words * suc n ≡ config_words * n + config_words = omega arith in
    all_more (configs_in v n) (config_at v n)
    ∙ rw (all_taken v n (omega arith), fields_taken v n (omega arith), e, take-add (config_words * n) config_words (drop first_config v), drop-drop (config_words * n) first_config v)

pub all_length : (cs : List Config) → length (flat_map fields cs) ≡ config_words * length cs
unfolding flat_map fields
all_length [] = refl
all_length (x ∷ xs) = omega (arith, all_length xs)

all_configs : (xs ys : List Config) → length xs ≡ length ys → flat_map fields xs ≡ flat_map fields ys → xs ≡ ys
unfolding flat_map fields
all_configs [] [] l e = refl
all_configs [] (y ∷ ys) l e = absurd (omega arith)
all_configs (x ∷ xs) [] l e = absurd (omega arith)
all_configs (x ∷ xs) (y ∷ ys) l e =
    rw (fields_config x y (ap (take config_words) e), all_configs xs ys (omega arith) (ap (drop config_words) e))

-- ---- words that hold a set

pub record HeldSet (v : List ℕ) (S : Set) : Type 0 where
  pub sized : length v ≡ set_words_length
  pub few : length S.configs ≤ most_configs
  pub count : config_count v ≡ length S.configs
  pub flags : flag_word v ≡ flags_of S
  pub configs : configs_in v (length S.configs) ≡ S.configs
  pub unused : (j : ℕ) → first_config + config_words * length S.configs ≤ j → j < set_words_length → get_or v j 0 ≡ 0

first_two : (v : List ℕ) → 2 ≤ length v → v ≡ get_or v 0 0 ∷ get_or v 1 0 ∷ drop 2 v
first_two [] h = absurd (omega arith)
first_two (a ∷ []) h = absurd (omega arith)
first_two (a ∷ b ∷ l) h = refl

pub held_words : (v : List ℕ) (S : Set) → HeldSet v S → v ≡ set_words S
unfolding set_words config_count flag_word
held_words v S h =
    let n : ℕ = length S.configs in
    let j : ℕ = config_words * n in
    let body : drop first_config v ≡ flat_map fields S.configs ++ drop j (drop first_config v) =
    sym (take-append-drop j (drop first_config v))
    ∙ ap (λ (l : List ℕ). l ++ drop j (drop first_config v)) (sym (all_taken v n (omega (arith, h.sized, h.few))) ∙ ap (flat_map fields) h.configs) in
    first_two v (omega (arith, h.sized))
    ∙ rw (h.count, h.flags, body, rest)
  where
    rest : drop (config_words * length S.configs) (drop first_config v) ≡ blank (config_words * (most_configs - length S.configs))
    rest =
        let n : ℕ = length S.configs in
        let m : ℕ = config_words * (most_configs - n) in
        let d : drop (config_words * n) (drop first_config v) ≡ drop (first_config + config_words * n) v = drop-drop (config_words * n) first_config v in
        let l : length (drop (first_config + config_words * n) v) ≡ m = length-drop (first_config + config_words * n) v ∙ omega (arith, h.sized, h.few) in
        d ∙ ext_get_or 0 (drop (first_config + config_words * n) v) (blank m) (l ∙ sym (length_blank m))
        (λ i k. get_or-drop (first_config + config_words * n) v i 0 ∙ h.unused (first_config + config_words * n + i) (omega arith) (omega (arith, h.few)) ∙ sym (get_or_blank m i (omega arith)))

module _ (S : Set) (few : length S.configs ≤ most_configs) where
  abbrev zs : List ℕ
  zs = blank (config_words * (most_configs - length S.configs))

  words_sized : length (set_words S) ≡ set_words_length
  unfolding set_words
  words_sized =
      omega (arith, length-append (flat_map fields S.configs) zs, all_length S.configs, length_blank (config_words * (most_configs - length S.configs)))

  words_unused : (j : ℕ) → first_config + config_words * length S.configs ≤ j → j < set_words_length → get_or (set_words S) j 0 ≡ 0
  unfolding set_words
  words_unused j h k =
      let m : ℕ = j - (first_config + config_words * length S.configs) in
      let e : j ≡ suc (suc (length (flat_map fields S.configs) + m)) = omega (arith, all_length S.configs) in
      ap (λ (i : ℕ). get_or (set_words S) i 0) e ∙ get_or-append-add (flat_map fields S.configs) zs m 0
      ∙ get_or_blank (config_words * (most_configs - length S.configs)) m (omega arith)

  words_configs : configs_in (set_words S) (length S.configs) ≡ S.configs
  unfolding set_words
  words_configs =
      let n : ℕ = length S.configs in
      all_configs (configs_in (set_words S) n) S.configs (configs_length (set_words S) n)
      (all_taken (set_words S) n (omega (arith, words_sized)) ∙ take_at (flat_map fields S.configs) zs (config_words * n) (all_length S.configs))

  pub words_held : HeldSet (set_words S) S
  unfolding set_words config_count flag_word
  words_held = record { sized = words_sized; few = few; count = refl; flags = refl; configs = words_configs; unused = words_unused }

-- the set that words hold is the one that they are read as
pub held_set : (v : List ℕ) (S : Set) → HeldSet v S → set_of v ≡ S
unfolding flag
held_set v S h =
    rw (
      h.flags,
      flags_are S,
      four_first S.full (has_semantic S.configs) (dips S.configs) S.closed,
      four_fourth S.full (has_semantic S.configs) (dips S.configs) S.closed,
      h.count,
      h.configs,
    )
