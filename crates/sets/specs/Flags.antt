-- The word of a set's flags, bit by bit. Nothing here has to be believed.
use Rattle.std.specs.Prelude.{◌≡◌, refl, Bool, true, false, not, ◌||◌, List, [], ◌∷◌, ◌++◌, ℕ, ◌+◌, ◌*◌, ◌/◌, ◌%◌, ◌<◌, ◌≤◌, eqb, ltb}
use Rattle.std.proofs.Common.{sym, ap, ◌∙◌, arith, eq-eqb, ne_eqb}
use Rattle.std.specs.Int.Bits.{bit_or, or_add_and, and_high}
use Rattle.encoding.specs.Numbers.{two}
use Rattle.sets.specs.Config.{Config}
use Rattle.sets.specs.Lists.Laws.{any_more}
use Rattle.sets.specs.Sets.{Set, has_semantic, dips}
use Rattle.sets.specs.Words.{bit, flags_of}

-- ---- a bit

pub bit_times : (b : Bool) (n : ℕ) → bit b n ≡ n * bit b 1
unfolding bit
bit_times true n = omega arith
bit_times false n = omega arith

pub bit_le : (b : Bool) → bit b 1 ≤ 1
unfolding bit
bit_le true = omega arith
bit_le false = omega arith

pub eqb_bit : (b : Bool) → eqb (bit b 1) 1 ≡ b
unfolding bit
eqb_bit true = refl
eqb_bit false = refl

bit_eqb : (n : ℕ) → n < 2 → bit (eqb n 1) 1 ≡ n
unfolding bit
bit_eqb n h = two n 1 (λ e. rw (eq-eqb n 1 e) (sym e)) (λ d. rw (ne_eqb n 1 d) (omega arith))

-- ---- the word of four bits

abbrev pub four : Bool → Bool → Bool → Bool → ℕ
four f s d c = bit f 1 + bit s 2 + bit d 4 + bit c 8

module _ (f s d c : Bool) where
  pub four_sum : four f s d c ≡ bit f 1 + 2 * bit s 1 + 4 * bit d 1 + 8 * bit c 1
  four_sum = rw (bit_times s 2, bit_times d 4, bit_times c 8)

  bit_first : four f s d c / 1 % 2 ≡ bit f 1
  bit_first = omega (arith, four_sum, bit_le f)

  bit_second : four f s d c / 2 % 2 ≡ bit s 1
  bit_second = omega (arith, four_sum, bit_le f, bit_le s)

  bit_third : four f s d c / 4 % 2 ≡ bit d 1
  bit_third = omega (arith, four_sum, bit_le f, bit_le s, bit_le d)

  bit_fourth : four f s d c / 8 % 2 ≡ bit c 1
  bit_fourth = omega (arith, four_sum, bit_le f, bit_le s, bit_le d, bit_le c)

  pub four_first : eqb (four f s d c / 1 % 2) 1 ≡ f
  four_first = ap (λ (n : ℕ). eqb n 1) bit_first ∙ eqb_bit f

  pub four_second : eqb (four f s d c / 2 % 2) 1 ≡ s
  four_second = ap (λ (n : ℕ). eqb n 1) bit_second ∙ eqb_bit s

  pub four_third : eqb (four f s d c / 4 % 2) 1 ≡ d
  four_third = ap (λ (n : ℕ). eqb n 1) bit_third ∙ eqb_bit d

  pub four_fourth : eqb (four f s d c / 8 % 2) 1 ≡ c
  four_fourth = ap (λ (n : ℕ). eqb n 1) bit_fourth ∙ eqb_bit c

  pub four_below : four f s d c < 16
  four_below = omega (arith, four_sum, bit_le f, bit_le s, bit_le d, bit_le c)

  -- the second and the third alone
  pub four_middle : four f s d c / 2 % 4 * 2 ≡ four false s d false
  unfolding bit
  four_middle = omega (arith, four_sum, bit_times s 2, bit_times d 4, bit_le f, bit_le s, bit_le d, bit_le c)

  -- a bit set by an OR
  pub or_second : bit_or (four f s d c) 2 ≡ four f true d c
  unfolding bit
  or_second = omega (arith, or_add_and (four f s d c) 2, and_high (four f s d c) 1 1, bit_second, bit_times s 2)

  pub or_third : bit_or (four f s d c) 4 ≡ four f s true c
  unfolding bit
  or_third = omega (arith, or_add_and (four f s d c) 4, and_high (four f s d c) 1 2, bit_third, bit_times d 4)

  pub or_fourth : bit_or (four f s d c) 8 ≡ four f s d true
  unfolding bit
  or_fourth = omega (arith, or_add_and (four f s d c) 8, and_high (four f s d c) 1 3, bit_fourth, bit_times c 8)

-- a word below 16 is its four bits
pub four_of : (n : ℕ) → n < 16 → n ≡ four (eqb (n / 1 % 2) 1) (eqb (n / 2 % 2) 1) (eqb (n / 4 % 2) 1) (eqb (n / 8 % 2) 1)
four_of n h =
    let a = bit_eqb (n / 1 % 2) (omega arith) in
    let b = bit_eqb (n / 2 % 2) (omega arith) in
    let c = bit_eqb (n / 4 % 2) (omega arith) in
    let d = bit_eqb (n / 8 % 2) (omega arith) in
    let p : n ≡ 2 * (n / 2) + n / 1 % 2 = omega arith in
    let q : n / 2 ≡ 2 * (n / 4) + n / 2 % 2 = omega arith in
    let r : n / 4 ≡ 2 * (n / 8) + n / 4 % 2 = omega arith in
    let t : n / 8 ≡ n / 8 % 2 = omega arith in
    omega (arith, four_sum (eqb (n / 1 % 2) 1) (eqb (n / 2 % 2) 1) (eqb (n / 4 % 2) 1) (eqb (n / 8 % 2) 1))

-- ---- the flags of a set

pub flags_are : (S : Set) → flags_of S ≡ four S.full (has_semantic S.configs) (dips S.configs) S.closed
unfolding flags_of
flags_are S = refl

-- with one config more
pub semantic_more : (cs : List Config) (x : Config) → has_semantic (cs ++ (x ∷ [])) ≡ (has_semantic cs || not (eqb x.semantic 0))
unfolding has_semantic
semantic_more cs x = any_more (λ y. not (eqb y.semantic 0)) cs x

pub dips_more : (cs : List Config) (x : Config) → dips (cs ++ (x ∷ [])) ≡ (dips cs || ltb 0 x.reach)
unfolding dips
dips_more cs x = any_more (λ y. ltb 0 y.reach) cs x
