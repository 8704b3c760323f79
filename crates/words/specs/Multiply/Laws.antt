-- What each step of the multiplication rests on: one bit, bits after bits, and all 64 of them. Nothing here has to be believed.
use Rattle.std.specs.Prelude.{◌≡◌, ℕ, ◌+◌, ◌*◌, ◌/◌, ◌%◌, ◌^◌, ◌<◌}
use Rattle.std.proofs.Common.{sym, ap, ◌∙◌, mod-eq_of_lt, arith, pow-add}
use Rattle.std.proofs.Math.Nat.{add-mul-mod_self_right, mod-add-mod}
use Rattle.std.proofs.lemmas.Nat.{mod-pow-add}
use Rattle.words.specs.Multiply.{taken}

-- a carry is a multiple of 2 ^ 64, and stays one however often it is doubled: it may fall away at once
carry : (a k b : ℕ) → (a % 2 ^ 64 * k + b) % 2 ^ 64 ≡ (a * k + b) % 2 ^ 64
carry a k b =
    let c : ℕ = a / 2 ^ 64 in
    let r : ℕ = a % 2 ^ 64 in
    let whole : a ≡ r + c * 2 ^ 64 = omega arith in
    let apart : (r + c * 2 ^ 64) * k + b ≡ r * k + b + c * k * 2 ^ 64 = omega arith in
    sym (ap (λ (n : ℕ). (n * k + b) % 2 ^ 64) whole ∙ ap (λ (n : ℕ). n % 2 ^ 64) apart ∙ add-mul-mod_self_right (r * k + b) (c * k) (2 ^ 64))

-- a bit that is not set doubles the sum, since x times 0 is nothing
pub clear_bit : (sum x bits : ℕ) → bits % 2 ≡ 0 → (sum * 2) % 2 ^ 64 ≡ taken 1 sum x bits
unfolding taken
clear_bit sum x bits e =
    let nothing : sum * 2 ≡ sum * 2 + x * 0 = omega arith in
    ap (λ (n : ℕ). n % 2 ^ 64) nothing ∙ sym (ap (λ (b : ℕ). (sum * 2 + x * b) % 2 ^ 64) e)

-- a set bit doubles the sum and adds x, since x times 1 is x
pub set_bit : (sum x bits : ℕ) → bits % 2 ≡ 1 → ((sum * 2) % 2 ^ 64 + x) % 2 ^ 64 ≡ taken 1 sum x bits
unfolding taken
set_bit sum x bits e =
    let once : sum * 2 + x ≡ sum * 2 + x * 1 = omega arith in
    mod-add-mod (sum * 2) (2 ^ 64) x ∙ ap (λ (n : ℕ). n % 2 ^ 64) once ∙ sym (ap (λ (b : ℕ). (sum * 2 + x * b) % 2 ^ 64) e)

-- m bits and then the n bits below them are m + n bits: as a number, the upper ones times 2 ^ n, and the lower ones
then_below : (m n start x high bits : ℕ) → high ≡ bits / 2 ^ n → taken n (taken m start x high) x bits ≡ taken (m + n) start x bits
unfolding taken
then_below m n start x high bits e =
    let p : ℕ = 2 ^ m in
    let q : ℕ = 2 ^ n in
    let h : ℕ = high % 2 ^ m in
    let l : ℕ = bits % 2 ^ n in
    let regrouped : (start * p + x * h) * q + x * l ≡ start * (p * q) + x * (h * q + l) = omega arith in
    let together : bits % 2 ^ (m + n) ≡ h * q + l = mod-pow-add bits m n ∙ ap (λ (u : ℕ). u % 2 ^ m * 2 ^ n + bits % 2 ^ n) (sym e) in
    carry (start * p + x * h) q (x * l)
    ∙ ap (λ (u : ℕ). u % 2 ^ 64) regrouped
    ∙ sym (ap (λ (u : ℕ). (start * (p * q) + x * u) % 2 ^ 64) together)
    ∙ sym (ap (λ (u : ℕ). (start * u + x * (bits % 2 ^ (m + n))) % 2 ^ 64) (pow-add 2 m n))

-- the same for a sum after m bits, and the next after n bits more
pub then : (m n start x high bits : ℕ) {sum next : ℕ}
    → sum ≡ taken m start x high
    → next ≡ taken n sum x bits
    → high ≡ bits / 2 ^ n
    → next ≡ taken (m + n) start x bits
then m n start x high bits first second e = second ∙ ap (λ (u : ℕ). taken n u x bits) first ∙ then_below m n start x high bits e

-- 64 bits taken from 0 on are all of y
pub all_taken : (x y : ℕ) → y < 2 ^ 64 → taken 64 0 x y ≡ (x * y) % 2 ^ 64
unfolding taken
all_taken x y h =
    let nothing : 0 * 2 ^ 64 + x * (y % 2 ^ 64) ≡ x * (y % 2 ^ 64) = omega arith in
    ap (λ (u : ℕ). u % 2 ^ 64) nothing ∙ ap (λ (u : ℕ). (x * u) % 2 ^ 64) (mod-eq_of_lt h)
