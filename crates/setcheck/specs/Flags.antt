-- The flags that configs decide, one config at a time. Nothing here has to be believed.
use Rattle.std.specs.Prelude.{◌≡◌, Bool, true, false, not, ◌||◌, [], ◌∷◌, ◌++◌, ℕ, eqb, ltb}
use Rattle.std.proofs.Common.{ap, ◌∙◌, arith, eq-eqb, ne_eqb, lt-ltb, le-ltb}
use Rattle.std.proofs.Math.Bool.{or-true, or-false}
use Rattle.std.specs.Int.Bits.{bit_or}
use Rattle.words.specs.Numbers.{two}
use Rattle.sets.specs.Config.{Config}
use Rattle.sets.specs.Sets.{Set, with_configs, has_semantic, dips}
use Rattle.sets.specs.Words.{flags_of}
use Rattle.sets.specs.Flags.{four, flags_are, or_second, or_third, semantic_more, dips_more}

-- the flags n, with b where the word is not 0
unfoldable pub with_flag : ℕ → ℕ → ℕ → ℕ
with_flag n b word = elim (eqb word 0) [ true ↦ n | false ↦ bit_or n b ]

unfoldable pub joined_flags : ℕ → Config → ℕ
joined_flags n x = with_flag (with_flag n 2 x.semantic) 4 x.reach

module _ (n b word : ℕ) where
  pub flag_none : word ≡ 0 → with_flag n b word ≡ n
  unfolding with_flag
  flag_none e = rw (eq-eqb word 0 e, with_flag)

  pub flag_some : (word ≡ 0 → ⊥) → with_flag n b word ≡ bit_or n b
  unfolding with_flag
  flag_some e = rw (ne_eqb word 0 e, with_flag)

-- ---- bit by bit

module _ (f s d c : Bool) (word : ℕ) where
  with_second : with_flag (four f s d c) 2 word ≡ four f (s || not (eqb word 0)) d c
  with_second =
      two word 0
      (λ e. flag_none (four f s d c) 2 word e ∙ rw (eq-eqb word 0 e, or-false s))
      (λ e. flag_some (four f s d c) 2 word e ∙ or_second f s d c ∙ rw (ne_eqb word 0 e, or-true s))

  with_third : with_flag (four f s d c) 4 word ≡ four f s (d || ltb 0 word) c
  with_third =
      two word 0
      (λ e. flag_none (four f s d c) 4 word e ∙ rw (le-ltb 0 word (omega arith), or-false d))
      (λ e. flag_some (four f s d c) 4 word e ∙ or_third f s d c ∙ rw (lt-ltb 0 word (omega arith), or-true d))

pub joined_four : (f s d c : Bool) (x : Config) → joined_flags (four f s d c) x ≡ four f (s || not (eqb x.semantic 0)) (d || ltb 0 x.reach) c
unfolding joined_flags
joined_four f s d c x = rw (with_second f s d c x.semantic) (with_third f (s || not (eqb x.semantic 0)) d c x.reach)

-- the flags of a set with one config more
pub joined_more : (S : Set) (x : Config) → joined_flags (flags_of S) x ≡ flags_of (with_configs S (S.configs ++ (x ∷ [])))
joined_more S x =
    ap (λ (n : ℕ). joined_flags n x) (flags_are S) ∙ joined_four S.full (has_semantic S.configs) (dips S.configs) S.closed x
    ∙ rw (flags_are (with_configs S (S.configs ++ (x ∷ []))), semantic_more S.configs x, dips_more S.configs x)
