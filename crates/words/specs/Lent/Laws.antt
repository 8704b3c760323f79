-- Laws of cleared and copied words and of the test for are_zeros. Cleared words are the library's `paste` of are_zeros and copied words its `paste` of the source,
-- so each law of length and elements is stated of `paste` once. Nothing here has to be believed.
use Rattle.std.specs.Prelude.{◌≡◌, ℕ, zero, suc, ◌+◌, ◌-◌, ◌<◌, ◌≤◌, Bool, true, ◌&&◌, List, [], ◌∷◌, ◌++◌, length, take, drop, set, replicate, ◌==◌, slice_index, slice_range, slice_set, refl}
use Rattle.std.proofs.Common.{sym, ap, ◌∙◌, append-nil, lt_of_not-le, add-one, arith, eqb-true, eq-eqb, length-drop, length-take, drop_of_length-le, length-take-le, get_or-append-add, get_or-take, take-suc, ext_get_or}
use Rattle.std.proofs.Math.Bool.{and-true, and_assoc}
use Rattle.std.proofs.Math.Decide.{dec_le}
use Rattle.std.proofs.lemmas.List.{length-replicate, get_or-replicate}
use Rattle.std.proofs.Math.ListN.{get_or-append}
use Rattle.std.proofs.Math.Seq.{paste, paste-zero, paste-suc, length-paste, length_paste_head, get_or-drop}
use Rattle.words.specs.Lent.{all_zero, cleared_range, copied_range, are_zeros}
use Rattle.cases.specs.Bools.{and_both}

-- ---- the elements of a `paste`

module _ (d : List ℕ) (at : ℕ) (s : List ℕ) (n : ℕ) (fits : at + n ≤ length d) (enough : n ≤ length s) where
  pub get_or_paste_before : (j : ℕ) → j < at → slice_index (paste d at s n) j ≡ slice_index d j
  get_or_paste_before j h =
      let head : length (take at d) ≡ at = length-take-le at d (omega arith) in
      get_or-append (take at d ++ take n s) (drop (at + n) d) 0 j (omega (arith, length_paste_head d at s n (omega arith) enough))
      ∙ get_or-append (take at d) (take n s) 0 j (omega arith)
      ∙ get_or-take at d j 0 h

  pub get_or_paste_inside : (j : ℕ) → j < n → slice_index (paste d at s n) (at + j) ≡ slice_index s j
  get_or_paste_inside j h =
      let head : length (take at d) ≡ at = length-take-le at d (omega arith) in
      get_or-append (take at d ++ take n s) (drop (at + n) d) 0 (at + j) (omega (arith, length_paste_head d at s n (omega arith) enough))
      ∙ ap (λ (k : ℕ). slice_index (take at d ++ take n s) (k + j)) (sym head)
      ∙ get_or-append-add (take at d) (take n s) j 0
      ∙ get_or-take n s j 0 h

  pub get_or_paste_after : (j : ℕ) → at + n ≤ j → slice_index (paste d at s n) j ≡ slice_index d j
  get_or_paste_after j h =
      let k : ℕ = j - (at + n) in
      let e : j ≡ at + n + k = omega arith in
      let head : length (take at d ++ take n s) ≡ at + n = length_paste_head d at s n (omega arith) enough in
      ap (λ (i : ℕ). slice_index (paste d at s n) i) (e ∙ ap (λ (i : ℕ). i + k) (sym head))
      ∙ get_or-append-add (take at d ++ take n s) (drop (at + n) d) k 0
      ∙ get_or-drop (at + n) d k 0
      ∙ ap (λ (i : ℕ). slice_index d i) (sym e)

-- ---- cleared words

-- n words that are 0
abbrev blank : ℕ → List ℕ
blank n = replicate n 0

length_blank : (n : ℕ) → length (blank n) ≡ n
length_blank n = length-replicate n 0

take_blank : (j n : ℕ) → j ≤ n → take j (blank n) ≡ blank j
take_blank zero n h = refl
take_blank (suc j) zero h = absurd (omega arith)
take_blank (suc j) (suc n) h = ap (λ (t : List ℕ). 0 ∷ t) (take_blank j n (omega arith))

cleared_paste : (ws : List ℕ) (from to : ℕ) → from ≤ to → to ≤ length ws → cleared_range ws from to ≡ paste ws from (blank (length ws)) (to - from)
unfolding cleared_range
cleared_paste ws from to h k =
    let e : from + (to - from) ≡ to = omega arith in
    rw (take_blank (to - from) (length ws) (omega arith), e)

pub cleared_range_none : (ws : List ℕ) (from : ℕ) → from ≤ length ws → cleared_range ws from from ≡ ws
cleared_range_none ws from h =
    let e : from - from ≡ 0 = omega arith in
    cleared_paste ws from from (omega arith) h
    ∙ ap (paste ws from (blank (length ws))) e
    ∙ sym (paste-zero ws from (blank (length ws)))

-- a store of a 0 of zs just past what is pasted of it
paste_more : (ws zs : List ℕ) (from j i : ℕ) → from + j ≡ i → i < length ws → j < length zs → slice_index zs j ≡ 0 → slice_set (paste ws from zs j) i 0 ≡ paste ws from zs (suc j)
paste_more ws zs from j i at h k z =
    ap (λ (m : ℕ). set (paste ws from zs j) m 0) (sym at)
    ∙ ap (set (paste ws from zs j) (from + j)) (sym z)
    ∙ paste-suc ws from zs j 0 (omega arith) k

-- a store of 0 just past what is cleared
pub cleared_range_more : (ws : List ℕ) (from i : ℕ) → from ≤ i → i < length ws → slice_set (cleared_range ws from i) i 0 ≡ cleared_range ws from (i + 1)
cleared_range_more ws from i h k =
    let at : from + (i - from) ≡ i = omega arith in
    let next : suc (i - from) ≡ i + 1 - from = omega arith in
    let below : i - from < length (blank (length ws)) = omega (arith, length_blank (length ws)) in
    ap (λ (t : List ℕ). set t i 0) (cleared_paste ws from i h (omega arith))
    ∙ paste_more ws (blank (length ws)) from (i - from) i at k below (get_or-replicate (length ws) (i - from) 0 0 (omega arith))
    ∙ ap (paste ws from (blank (length ws))) next
    ∙ sym (cleared_paste ws from (i + 1) (omega arith) (omega arith))

pub cleared_range_all : (ws : List ℕ) → cleared_range ws 0 (length ws) ≡ replicate (length ws) 0
unfolding cleared_range
cleared_range_all ws =
    let e : length ws - 0 ≡ length ws = omega arith in
    rw (e, drop_of_length-le ws {i = length ws} (omega arith)) (append-nil (blank (length ws)))

module _ (ws : List ℕ) (from to : ℕ) (h : from ≤ to) (k : to ≤ length ws) where
  enough : to - from ≤ length (blank (length ws))
  enough = omega (arith, length_blank (length ws))

  pub length_cleared_range : length (cleared_range ws from to) ≡ length ws
  length_cleared_range = ap length (cleared_paste ws from to h k) ∙ length-paste ws from (blank (length ws)) (to - from) (omega arith) enough

  pub cleared_range_before : (j : ℕ) → j < from → slice_index (cleared_range ws from to) j ≡ slice_index ws j
  cleared_range_before j p =
      ap (λ (t : List ℕ). slice_index t j) (cleared_paste ws from to h k)
      ∙ get_or_paste_before ws from (blank (length ws)) (to - from) (omega arith) enough j p

  pub cleared_range_inside : (j : ℕ) → from ≤ j → j < to → slice_index (cleared_range ws from to) j ≡ 0
  cleared_range_inside j p q =
      let zs : List ℕ = blank (length ws) in
      let i : ℕ = j - from in
      let e : j ≡ from + i = omega arith in
      ap (λ (t : List ℕ). slice_index t j) (cleared_paste ws from to h k)
      ∙ ap (λ (m : ℕ). slice_index (paste ws from zs (to - from)) m) e
      ∙ get_or_paste_inside ws from zs (to - from) (omega arith) enough i (omega arith)
      ∙ get_or-replicate (length ws) i 0 0 (omega arith)

  pub cleared_range_after : (j : ℕ) → to ≤ j → slice_index (cleared_range ws from to) j ≡ slice_index ws j
  cleared_range_after j p =
      ap (λ (t : List ℕ). slice_index t j) (cleared_paste ws from to h k)
      ∙ get_or_paste_after ws from (blank (length ws)) (to - from) (omega arith) enough j (omega arith)

-- ---- copied words

module _ (target : List ℕ) (at : ℕ) (source : List ℕ) (from count : ℕ) (fits : at + count ≤ length target) (enough : from + count ≤ length source) where
  rest_enough : count ≤ length (drop from source)
  rest_enough = omega (arith, length-drop from source)

  pub length_copied_range : length (copied_range target at source from count) ≡ length target
  unfolding copied_range
  length_copied_range = length-paste target at (drop from source) count fits rest_enough

  pub copied_range_before : (j : ℕ) → j < at → slice_index (copied_range target at source from count) j ≡ slice_index target j
  unfolding copied_range
  copied_range_before j h = get_or_paste_before target at (drop from source) count fits rest_enough j h

  pub copied_range_inside : (j : ℕ) → j < count → slice_index (copied_range target at source from count) (at + j) ≡ slice_index source (from + j)
  unfolding copied_range
  copied_range_inside j h = get_or_paste_inside target at (drop from source) count fits rest_enough j h ∙ get_or-drop from source j 0

  pub copied_range_after : (j : ℕ) → at + count ≤ j → slice_index (copied_range target at source from count) j ≡ slice_index target j
  unfolding copied_range
  copied_range_after j h = get_or_paste_after target at (drop from source) count fits rest_enough j h

pub copied_range_none : (target : List ℕ) (at : ℕ) (source : List ℕ) (from : ℕ) → copied_range target at source from 0 ≡ target
unfolding copied_range
copied_range_none target at source from = sym (paste-zero target at (drop from source))

-- a store of the next word just past what is copied
pub copied_range_more : (target : List ℕ) (at : ℕ) (source : List ℕ) (from i : ℕ) → at + i < length target → from + i < length source
    → slice_set (copied_range target at source from i) (at + i) (slice_index source (from + i)) ≡ copied_range target at source from (i + 1)
unfolding copied_range
copied_range_more target at source from i h k =
    let rest : List ℕ = drop from source in
    ap (set (paste target at rest i) (at + i)) (sym (get_or-drop from source i 0))
    ∙ paste-suc target at rest i 0 h (omega (arith, length-drop from source))
    ∙ ap (paste target at rest) (sym (add-one i))

-- ---- are_zeros

zeros_append : (xs ys : List ℕ) → are_zeros (xs ++ ys) ≡ (are_zeros xs && are_zeros ys)
unfolding are_zeros
zeros_append [] ys = refl
zeros_append (x ∷ xs) ys = ap (λ (b : Bool). (x == 0) && b) (zeros_append xs ys) ∙ sym (and_assoc (x == 0) (are_zeros xs) (are_zeros ys))

zeros_at : (ws : List ℕ) → are_zeros ws ≡ true → (j : ℕ) → slice_index ws j ≡ 0
unfolding are_zeros
zeros_at [] e j = refl
zeros_at (w ∷ ws) e zero = eqb-true w 0 (and_both (w == 0) (are_zeros ws) e).0
zeros_at (w ∷ ws) e (suc j) = zeros_at ws (and_both (w == 0) (are_zeros ws) e).1 j

zeros_of : (ws : List ℕ) → ((j : ℕ) → j < length ws → slice_index ws j ≡ 0) → are_zeros ws ≡ true
unfolding are_zeros
zeros_of [] f = refl
zeros_of (w ∷ ws) f = ap (λ (b : Bool). b && are_zeros ws) (eq-eqb w 0 (f 0 (omega arith))) ∙ zeros_of ws (λ j h. f (suc j) (omega arith))

pub all_zero_none : (ws : List ℕ) (from : ℕ) → all_zero ws from from ≡ true
unfolding all_zero are_zeros
all_zero_none ws from = let e : from - from ≡ 0 = omega arith in rw e

-- one word more
pub all_zero_more : (ws : List ℕ) (from i : ℕ) → from ≤ i → i < length ws → all_zero ws from (i + 1) ≡ (all_zero ws from i && slice_index ws i == 0)
unfolding all_zero are_zeros
all_zero_more ws from i h k =
    let rest : List ℕ = drop from ws in
    let j : ℕ = i - from in
    let next : i + 1 - from ≡ suc j = omega arith in
    let at : from + j ≡ i = omega arith in
    ap (λ (m : ℕ). are_zeros (take m rest)) next
    ∙ ap are_zeros (take-suc rest j 0 (omega (arith, length-drop from ws)))
    ∙ zeros_append (take j rest) (slice_index rest j ∷ [])
    ∙ ap (λ (b : Bool). are_zeros (take j rest) && b) (and-true (slice_index rest j == 0))
    ∙ ap (λ (w : ℕ). are_zeros (take j rest) && w == 0) (get_or-drop from ws j 0 ∙ ap (λ (m : ℕ). slice_index ws m) at)

-- one word more of a list that is walked from its start
pub are_zeros_more : (ws : List ℕ) (i : ℕ) → i < length ws → are_zeros (take (i + 1) ws) ≡ (are_zeros (take i ws) && slice_index ws i == 0)
unfolding are_zeros
are_zeros_more ws i h =
    ap (λ (n : ℕ). are_zeros (take n ws)) (add-one i)
    ∙ ap are_zeros (take-suc ws i 0 h)
    ∙ zeros_append (take i ws) (slice_index ws i ∷ [])
    ∙ ap (λ (b : Bool). are_zeros (take i ws) && b) (and-true (slice_index ws i == 0))

pub all_zero_at : (ws : List ℕ) (from to : ℕ) → all_zero ws from to ≡ true → (j : ℕ) → from ≤ j → j < to → slice_index ws j ≡ 0
unfolding all_zero
all_zero_at ws from to e j h k =
    let i : ℕ = j - from in
    let at : j ≡ from + i = omega arith in
    ap (λ (m : ℕ). slice_index ws m) at
    ∙ sym (get_or-drop from ws i 0)
    ∙ sym (get_or-take (to - from) (drop from ws) i 0 (omega arith))
    ∙ zeros_at (slice_range ws from to) e i

pub all_zero_of : (ws : List ℕ) (from to : ℕ) → ((j : ℕ) → from ≤ j → j < to → slice_index ws j ≡ 0) → all_zero ws from to ≡ true
unfolding all_zero
all_zero_of ws from to f =
    let n : ℕ = to - from in
    zeros_of (take n (drop from ws))
    (λ j h.
    let below : j < n = omega (arith, length-take n (drop from ws)) in
    get_or-take n (drop from ws) j 0 below ∙ get_or-drop from ws j 0 ∙ f (from + j) (omega arith) (omega arith))

-- words that are 0 already are not changed by clearing
pub cleared_range_same : (ws : List ℕ) (from to : ℕ) → from ≤ to → to ≤ length ws → all_zero ws from to ≡ true → cleared_range ws from to ≡ ws
cleared_range_same ws from to h k e =
    ext_get_or 0 (cleared_range ws from to) ws (length_cleared_range ws from to h k)
    (λ j l.
    elim (dec_le from j) [
      | no n ↦ cleared_range_before ws from to h k j (lt_of_not-le n)
      | yes p ↦ elim (dec_le to j) [
        | yes q ↦ cleared_range_after ws from to h k j q
        | no m ↦ cleared_range_inside ws from to h k j p (lt_of_not-le m) ∙ sym (all_zero_at ws from to e j p (lt_of_not-le m))
      ]
    ])

-- cleared words are 0
pub all_zero_cleared : (ws : List ℕ) (from to : ℕ) → from ≤ to → to ≤ length ws → all_zero (cleared_range ws from to) from to ≡ true
all_zero_cleared ws from to h k = all_zero_of (cleared_range ws from to) from to (cleared_range_inside ws from to h k)
