-- Bits of words as arithmetic: which ORs are 0, a rotation as an OR of two shifts, and bit 31 alone and in an OR. Assumes nothing.
use Rattle.std.proofs.Common.{◌≡◌, ℕ, zero, suc, ◌+◌, ◌*◌, ◌/◌, ◌%◌, ◌^◌, ◌<◌, max, Bool, ◌&&◌, eqb, sym, refl, ap, ◌∙◌, add-zero, arith, shr_lt, ne_eqb}
use native.Mathlib.Nat.{mul-mod_left}
use lib.Bits.{bit_and, bit_or, or_zero_l, or_zero_r, or_add_and, or_block, or_shifted, and_high, and_le_r}
use lib.Pow.{mod-pow-add, shl-shr}
use Rattle.words.specs.Provenance.{id_of, mark_of, merged_marks}

-- an OR is 0 exactly where both sides are
pub or_zero : (a b : ℕ) → eqb (bit_or a b) 0 ≡ (eqb a 0 && eqb b 0)
or_zero zero b = ap (λ (n : ℕ). eqb n 0) (or_zero_l b)
or_zero (suc a) b =
    ne_eqb (bit_or (suc a) b) 0 (λ e. omega (arith, or_add_and (suc a) b, and_le_r (suc a) b))
    ∙ ap (λ (t : Bool). t && eqb b 0) (sym (ne_eqb (suc a) 0 (λ e. omega arith)))

-- a shift to the left by k, of j + k bits, loses the upper k
shifted : (x j k : ℕ) → (x * 2 ^ k) % 2 ^ (j + k) ≡ x % 2 ^ j * 2 ^ k
shifted x j k = mod-pow-add (x * 2 ^ k) j k ∙ rw (shl-shr x k, mul-mod_left x (2 ^ k)) (add-zero (x % 2 ^ j * 2 ^ k))

-- of k + j bits, the upper k come in below the lower j
pub rotation : (x j k : ℕ) → x < 2 ^ (k + j) → bit_or ((x * 2 ^ k) % 2 ^ (j + k)) (x / 2 ^ j) ≡ x % 2 ^ j * 2 ^ k + x / 2 ^ j
rotation x j k h = ap (λ (n : ℕ). bit_or n (x / 2 ^ j)) (shifted x j k) ∙ or_shifted (x % 2 ^ j) k (x / 2 ^ j) (shr_lt k j h)

pub mark_alone : (w : ℕ) → w < 2 ^ 32 → bit_and w 0x8000_0000 ≡ mark_of w
unfolding mark_of
mark_alone w h = and_high w 1 31 ∙ omega arith

or_bit : (a b : ℕ) → a < 2 → b < 2 → bit_or a b ≡ max a b
or_bit zero zero h k = refl
or_bit zero (suc zero) h k = refl
or_bit (suc zero) zero h k = refl
or_bit (suc zero) (suc zero) h k = refl
or_bit zero (suc (suc b)) h k = absurd (omega arith)
or_bit (suc zero) (suc (suc b)) h k = absurd (omega arith)
or_bit (suc (suc a)) b h k = absurd (omega arith)

-- the OR of a word and another's mark
pub or_mark : (w v : ℕ) → w < 2 ^ 32 → v < 2 ^ 32 → bit_or w (mark_of v) ≡ merged_marks w v
unfolding id_of mark_of merged_marks
or_mark w v h k =
    let a : ℕ = w / 2 ^ 31 in
    let b : ℕ = v / 2 ^ 31 in
    let r : ℕ = w % 2 ^ 31 in
    let whole : w ≡ a * 2 ^ 31 + r = omega arith in
    let empty : b * 2 ^ 31 ≡ b * 2 ^ 31 + 0 = omega arith in
    let bit : bit_or a b ≡ max a b = or_bit a b (omega arith) (omega arith) in
    ap (λ (n : ℕ). bit_or n (b * 2 ^ 31)) whole
    ∙ ap (bit_or (a * 2 ^ 31 + r)) empty
    ∙ or_block 31 a b r 0 (omega arith) (omega arith)
    ∙ omega (arith, or_zero_r r)
