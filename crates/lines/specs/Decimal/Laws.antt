-- A number in decimal: by its last digit; how many digits it has; and that its digits are it, the first of them no 0.
-- Nothing here has to be believed.
use Rattle.std.specs.Prelude.{◌≡◌, refl, List, [], ◌∷◌, ◌++◌, ℕ, zero, suc, ◌+◌, ◌-◌, ◌*◌, ◌/◌, ◌%◌, ◌^◌, ◌<◌, ◌≤◌, length, get_or}
use Rattle.std.proofs.Common.{sym, ap, ◌∙◌, pow-suc, div-lt_iff_lt-mul, arith, length-append, lt-ltb, le-ltb}
use Rattle.std.proofs.Math.ListN.{get_or-append}
use Rattle.words.specs.Numbers.{below?}
use Rattle.lines.specs.Decimal.{digits, decimal}

-- ---- the last digit

digits_small : (k n : ℕ) → n < 10 → digits (suc k) n ≡ (48 + n) ∷ []
unfolding digits
digits_small k n h = rw (lt-ltb n 10 h, digits)

digits_more : (k n : ℕ) → 10 ≤ n → digits (suc k) n ≡ digits k (n / 10) ++ (48 + n % 10) ∷ []
unfolding digits
digits_more k n h = rw (le-ltb n 10 h, digits)

-- as many as there are, or more, are all of them
digits_enough : (k j n : ℕ) → n < k → n < j → digits k n ≡ digits j n
digits_enough zero j n h l = absurd (omega arith)
digits_enough (suc k) zero n h l = absurd (omega arith)
digits_enough (suc k) (suc j) n h l =
    below? n 10
    (λ s. digits_small k n s ∙ sym (digits_small j n s))
    (λ s. digits_more k n s
    ∙ ap (λ (d : List ℕ). d ++ (48 + n % 10) ∷ []) (digits_enough k j (n / 10) (omega arith) (omega arith))
    ∙ sym (digits_more j n s))

pub decimal_small : (n : ℕ) → n < 10 → decimal n ≡ (48 + n) ∷ []
unfolding decimal
decimal_small n h = digits_small n n h

pub decimal_more : (n : ℕ) → 10 ≤ n → decimal n ≡ decimal (n / 10) ++ (48 + n % 10) ∷ []
unfolding decimal
decimal_more n h =
    digits_more n n h
    ∙ ap (λ (d : List ℕ). d ++ (48 + n % 10) ∷ []) (digits_enough n (suc (n / 10)) (n / 10) (omega arith) (omega arith))

-- ---- how many digits

pub length_small : (n : ℕ) → n < 10 → length (decimal n) ≡ 1
length_small n h = ap length (decimal_small n h)

pub length_more : (n : ℕ) → 10 ≤ n → length (decimal n) ≡ length (decimal (n / 10)) + 1
length_more n h = ap length (decimal_more n h) ∙ length-append (decimal (n / 10)) ((48 + n % 10) ∷ [])

-- a number below 10 ^ k has k digits at most
pub length_decimal : (k n : ℕ) → n < 10 ^ suc k → length (decimal n) ≤ suc k
length_decimal zero n h = omega (arith, length_small n h)
length_decimal (suc k) n h =
    below? n 10
    (λ s. omega (arith, length_small n s))
    (λ s. omega (arith, length_more n s, length_decimal k (n / 10) ((div-lt_iff_lt-mul {k = 10} (omega arith)).1 (rw (pow-suc 10 (suc k)) at h))))

-- a 32-bit number has ten digits at most
pub word_digits : (n : ℕ) → n < 4294967296 → length (decimal n) ≤ 10
word_digits n h = length_decimal 9 n (omega arith)

-- ---- the digits are the number

-- the number that digits stand for, after the number a
unfoldable pub value_from : ℕ → List ℕ → ℕ
value_from a [] = a
value_from a (x ∷ xs) = value_from (a * 10 + (x - 48)) xs

value_append : (a : ℕ) (xs ys : List ℕ) → value_from a (xs ++ ys) ≡ value_from (value_from a xs) ys
unfolding value_from
value_append a [] ys = refl
value_append a (x ∷ xs) ys = value_append (a * 10 + (x - 48)) xs ys

value_last : (a x : ℕ) → value_from a (x ∷ []) ≡ a * 10 + (x - 48)
unfolding value_from
value_last a x = refl

-- read back, the digits give the number
value_of : (k n : ℕ) → n < k → value_from 0 (decimal n) ≡ n
value_of zero n h = absurd (omega arith)
value_of (suc k) n h =
    below? n 10
    (λ s. ap (value_from 0) (decimal_small n s) ∙ value_last 0 (48 + n) ∙ omega arith)
    (λ s. ap (value_from 0) (decimal_more n s)
    ∙ value_append 0 (decimal (n / 10)) ((48 + n % 10) ∷ [])
    ∙ ap (λ (v : ℕ). value_from v ((48 + n % 10) ∷ [])) (value_of k (n / 10) (omega arith))
    ∙ value_last (n / 10) (48 + n % 10)
    ∙ omega arith)

pub decimal_value : (n : ℕ) → value_from 0 (decimal n) ≡ n
decimal_value n = value_of (suc n) n (omega arith)

-- ---- each is a digit, and the first is no 0 unless it is alone

abbrev pub Digit : ℕ → Type 0
Digit x = (48 ≤ x) × (x ≤ 57)

pub data Digits : List ℕ → Type 0 where
  one : (x : ℕ) → Digit x → Digits (x ∷ [])
  more : (xs : List ℕ) (x : ℕ) → Digits xs → Digit x → Digits (xs ++ x ∷ [])

digits_of : (k n : ℕ) → n < k → Digits (decimal n)
digits_of zero n h = absurd (omega arith)
digits_of (suc k) n h =
    below? n 10
    (λ s. rw (decimal_small n s) (one (48 + n) (omega arith, omega arith)))
    (λ s. rw (decimal_more n s) (more (decimal (n / 10)) (48 + n % 10) (digits_of k (n / 10) (omega arith)) (omega arith, omega arith)))

pub decimal_digits : (n : ℕ) → Digits (decimal n)
decimal_digits n = digits_of (suc n) n (omega arith)

first_of : (k n : ℕ) → n < k → 0 < n → 48 < get_or (decimal n) 0 0
first_of zero n h p = absurd (omega arith)
first_of (suc k) n h p =
    below? n 10
    (λ s. rw (decimal_small n s) (omega arith))
    (λ s.
    let r : 0 < length (decimal (n / 10)) = some (n / 10) in
    rw (decimal_more n s, get_or-append (decimal (n / 10)) ((48 + n % 10) ∷ []) 0 0 r) (first_of k (n / 10) (omega arith) (omega arith)))
  where
    some : (m : ℕ) → 0 < length (decimal m)
    some m = below? m 10 (λ s. omega (arith, length_small m s)) (λ s. omega (arith, length_more m s))

-- no leading zero
pub decimal_first : (n : ℕ) → 0 < n → 48 < get_or (decimal n) 0 0
decimal_first n p = first_of (suc n) n (omega arith) p
