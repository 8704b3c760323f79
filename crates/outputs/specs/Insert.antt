-- Insertion among rising words, as code does it: the seat, the gap, and that they come to `insert`. Nothing here has to be believed.
use Rattle.std.specs.Prelude.{◌≡◌, refl, Bool, true, false, eqb, leb, drop}
use Rattle.std.proofs.Math.Path.{sym, ap, ap₂}
use Rattle.std.proofs.Common.{◌∙◌, length-append, length-take, length-drop, length-set, take-append-drop, get_or-take, get_or-drop, take-suc, take_at, drop_at, le-leb, eq-eqb, ne_eqb, eqb-true}
use mathlib.Core.List.{List, [], ◌∷◌, ◌++◌, append_assoc}
use Prim.Native.Nat.{ℕ, zero, suc, ◌<◌, ◌≤◌, ◌+◌, ◌-◌, min}
use native.Mathlib.Omega.{arith}
use Rattle.std.proofs.Math.ListN.{length, get_or, take, set, replicate}
use Rattle.std.proofs.lemmas.List.{set_split, take-set-le, drop-set-add}
use Rattle.std.proofs.Math.Seq.{length-take-le}
use Rattle.std.proofs.lemmas.Bool.{lt-leb}
use Rattle.words.specs.Numbers.{two, three}
use Rattle.groups.specs.LayoutLayout.{blank}
use Rattle.words.specs.Bools.{never_both}
use Rattle.groups.specs.Lists.{All, Rising}
use Rattle.groups.specs.Lists.Laws.{every_map}
use Rattle.groups.specs.Groups.{insert}
use Rattle.groups.proofs.Rising.{insert_less, insert_equal, insert_greater}
use Rattle.outputs.specs.Outputs.{padded}

-- n words from place f on
abbrev pub part : List ℕ → ℕ → ℕ → List ℕ
part o f n = take n (drop f o)

-- how many of them are not above a, looked for from the right
unfoldable pub seat_of : List ℕ → ℕ → ℕ → ℕ → ℕ
seat_of o f zero a = 0
seat_of o f (suc n) a = elim (leb (get_or o (f + suc n - 1) 0) a) [ true ↦ suc n | false ↦ seat_of o f n a ]

-- is a the last of n words from place f on?
unfoldable pub ends_in : List ℕ → ℕ → ℕ → ℕ → Bool
ends_in o f n a = elim (eqb n 0) [ true ↦ false | false ↦ eqb (get_or o (f + n - 1) 0) a ]

-- the words with n of them, from place k on, moved up by one
unfoldable pub gap : List ℕ → ℕ → ℕ → List ℕ
gap o k zero = o
gap o k (suc n) = gap (set o (k + suc n) (get_or o (k + suc n - 1) 0)) k n

-- the words up to place f, then xs, then zeros
unfoldable pub row_with : List ℕ → ℕ → List ℕ → List ℕ
row_with o f xs = padded (length o) (take f o ++ xs)

-- n rising words from place f on, then zeros, with room for a
pub record Row (o : List ℕ) (f n a : ℕ) : Type 0 where
  pub within : f + n ≤ length o
  pub rises : Rising (part o f n)
  pub rest : o ≡ row_with o f (part o f n)
  pub room : f + length (insert a (part o f n)) ≤ length o

-- ---- how many of rising numbers are not above a

unfoldable pub below : ℕ → List ℕ → ℕ
below a [] = 0
below a (x ∷ xs) = elim (leb x a) [ true ↦ suc (below a xs) | false ↦ 0 ]

module _ (a x : ℕ) (xs : List ℕ) where
  below_in : x ≤ a → below a (x ∷ xs) ≡ suc (below a xs)
  unfolding below
  below_in h = rw (le-leb x a h, below)

  below_out : a < x → below a (x ∷ xs) ≡ 0
  unfolding below
  below_out h = rw (lt-leb x a h, below)

-- low or high
low? {ℓ} : {X : Type ℓ} (x a : ℕ) → (x ≤ a → X) → (a < x → X) → X
low? x a f g = three x a (λ h. f (omega arith)) (λ h. f (omega arith)) g

pub below_most : (a : ℕ) (xs : List ℕ) → below a xs ≤ length xs
unfolding below
below_most a [] = omega arith
below_most a (x ∷ xs) = low? x a (λ h. omega (arith, below_in a x xs h, below_most a xs)) (λ h. omega (arith, below_out a x xs h))

-- where one is above, there are no more
above_below : (a : ℕ) (xs : List ℕ) (n : ℕ) → n < length xs → a < get_or xs n 0 → below a xs ≤ n
above_below a [] n h k = absurd (omega arith)
above_below a (x ∷ xs) zero h k = omega (arith, below_out a x xs k)
above_below a (x ∷ xs) (suc n) h k =
    low? x a (λ l. omega (arith, below_in a x xs l, above_below a xs n (omega arith) k)) (λ l. omega (arith, below_out a x xs l))

every_get_or : (P : ℕ → Type 0) (xs : List ℕ) → All P xs → (n : ℕ) → n < length xs → P (get_or xs n 0)
every_get_or P [] v n h = absurd (omega arith)
every_get_or P (x ∷ xs) v zero h = v.0
every_get_or P (x ∷ xs) v (suc n) h = every_get_or P xs v.1 n (omega arith)

-- where one is not above, there are so many
low_below : (a : ℕ) (xs : List ℕ) → Rising xs → (n : ℕ) → n < length xs → get_or xs n 0 ≤ a → suc n ≤ below a xs
low_below a [] v n h k = absurd (omega arith)
low_below a (x ∷ xs) v zero h k = omega (arith, below_in a x xs k)
low_below a (x ∷ xs) v (suc n) h k =
    let l = every_get_or (λ y. x < y) xs v.0 n (omega arith) in
    omega (arith, below_in a x xs (omega arith), low_below a xs v.1 n (omega arith) k)

-- ---- the seat is that number

module _ (o : List ℕ) (f : ℕ) (n a : ℕ) where
  pub seat_here : get_or o (f + suc n - 1) 0 ≤ a → seat_of o f (suc n) a ≡ suc n
  unfolding seat_of
  seat_here h = rw (le-leb (get_or o (f + suc n - 1) 0) a h, seat_of)

  pub seat_on : a < get_or o (f + suc n - 1) 0 → seat_of o f (suc n) a ≡ seat_of o f n a
  unfolding seat_of
  seat_on h = rw (lt-leb (get_or o (f + suc n - 1) 0) a h, seat_of)

-- over the words that hold xs
module _ (o : List ℕ) (f : ℕ) (xs : List ℕ) (a : ℕ) (v : Rising xs) (held : (i : ℕ) → i < length xs → get_or o (f + i) 0 ≡ get_or xs i 0) where
  seat_min : (n : ℕ) → n ≤ length xs → seat_of o f n a ≡ min n (below a xs)
  unfolding seat_of
  seat_min zero h = omega arith
  seat_min (suc n) h =
      let j : f + suc n - 1 ≡ f + n = omega arith in
      let e : get_or o (f + suc n - 1) 0 ≡ get_or xs n 0 = ap (λ (i : ℕ). get_or o i 0) j ∙ held n h in
      low? (get_or xs n 0) a
      (λ l. seat_here o f n a (rw e l) ∙ omega (arith, low_below a xs v n h l))
      (λ l. seat_on o f n a (rw e l) ∙ seat_min n (omega arith) ∙ omega (arith, above_below a xs n h l))

  pub seat_below : seat_of o f (length xs) a ≡ below a xs
  seat_below = seat_min (length xs) (omega arith) ∙ omega (arith, below_most a xs)

-- ---- what insertion comes to

pub insert_there : (a : ℕ) (xs : List ℕ) → Rising xs → 0 < below a xs → get_or xs (below a xs - 1) 0 ≡ a → insert a xs ≡ xs
unfolding below
insert_there a [] v h e = absurd (omega arith)
insert_there a (x ∷ xs) v h e =
    low? x a
    (λ l.
    let b = below_in a x xs l in
    let i : below a (x ∷ xs) - 1 ≡ below a xs = omega arith in
    let g : get_or (x ∷ xs) (below a xs) 0 ≡ a = ap (λ (j : ℕ). get_or (x ∷ xs) j 0) (sym i) ∙ e in
    two (below a xs) 0
    (λ z. insert_equal a x xs (sym (ap (λ (j : ℕ). get_or (x ∷ xs) j 0) (sym z) ∙ g)))
    (λ z.
    let s : suc (below a xs - 1) ≡ below a xs = omega arith in
    let k : get_or xs (below a xs - 1) 0 ≡ a = ap (λ (j : ℕ). get_or (x ∷ xs) j 0) s ∙ g in
    let m = every_get_or (λ y. x < y) xs v.0 (below a xs - 1) (omega (arith, below_most a xs)) in
    insert_greater a x xs (omega arith) ∙ ap (λ (l : List ℕ). x ∷ l) (insert_there a xs v.1 (omega arith) k)))
    (λ l. absurd (omega (arith, below_out a x xs l)))

none_below : (a : ℕ) (xs : List ℕ) → All (λ x. a < x) xs → below a xs ≡ 0
unfolding below
none_below a [] v = refl
none_below a (x ∷ xs) v = below_out a x xs v.0

pub insert_new : (a : ℕ) (xs : List ℕ) → Rising xs → (0 < below a xs → get_or xs (below a xs - 1) 0 ≡ a → ⊥)
    → insert a xs ≡ take (below a xs) xs ++ (a ∷ drop (below a xs) xs)
unfolding below insert
insert_new a [] v n = refl
insert_new a (x ∷ xs) v n =
    low? x a
    (λ l.
    let b = below_in a x xs l in
    let i : below a (x ∷ xs) - 1 ≡ below a xs = omega arith in
    let differ : x ≡ a → ⊥ = λ e.
    n (omega arith) (ap (λ (j : ℕ). get_or (x ∷ xs) j 0) (i ∙ none_below a xs (every_map (λ y. x < y) (λ y. a < y) xs (λ y k. omega arith) v.0)) ∙ e) in
    let later : 0 < below a xs → get_or xs (below a xs - 1) 0 ≡ a → ⊥ = λ h e.
    let s : below a xs ≡ suc (below a xs - 1) = omega arith in
    n (omega arith) (ap (λ (j : ℕ). get_or (x ∷ xs) j 0) (i ∙ s) ∙ e) in
    rw b (insert_greater a x xs (two x a (λ e. absurd (differ e)) (λ d. omega arith)) ∙ ap (λ (l : List ℕ). x ∷ l) (insert_new a xs v.1 later)))
    (λ l. rw (below_out a x xs l) (insert_less a x xs l))

-- ---- the gap

gap_set : (o : List ℕ) (k n a : ℕ) → k + n < length o → set (gap o k n) k a ≡ take k o ++ (a ∷ (take n (drop k o) ++ drop (suc (k + n)) o))
unfolding gap
gap_set o k zero a h = let e : k + 0 ≡ k = omega arith in rw e (set_split o k a (omega arith))
gap_set o k (suc n) a h =
    let x : ℕ = get_or o (k + suc n - 1) 0 in
    let u : List ℕ = set o (k + suc n) x in
    let j : k + suc n - 1 ≡ k + n = omega arith in
    let s : suc (k + n) ≡ k + suc n = omega arith in
    let held : get_or (drop k o) n 0 ≡ x = get_or-drop k o n 0 ∙ ap (λ (i : ℕ). get_or o i 0) (sym j) in
    let front : take k u ≡ take k o = take-set-le k o (k + suc n) x (omega arith) in
    let middle : take n (drop k u) ≡ take n (drop k o) = ap (take n) (drop-set-add k o (suc n) x) ∙ take-set-le n (drop k o) (suc n) x (omega arith) in
    let back : drop (suc (k + n)) u ≡ x ∷ drop (suc (k + suc n)) o =
    ap (λ (i : ℕ). drop i u) s ∙ dropped o (k + suc n) x h in
    gap_set u k n a (simp length-set (omega arith))
    ∙ ap₂ (λ (p q : List ℕ). p ++ (a ∷ q)) front (ap₂ ◌++◌ middle back ∙ more (drop k o) n x (drop (suc (k + suc n)) o) held (omega (arith, length-drop k o)))
  where
    dropped : (l : List ℕ) (i x : ℕ) → i < length l → drop i (set l i x) ≡ x ∷ drop (suc i) l
    dropped (y ∷ l) zero x h = refl
    dropped (y ∷ l) (suc i) x h = dropped l i x (omega arith)
    dropped [] i x h = absurd (omega arith)

    more : (l : List ℕ) (n x : ℕ) (r : List ℕ) → get_or l n 0 ≡ x → n < length l → take n l ++ (x ∷ r) ≡ take (suc n) l ++ r
    more l n x r e h = sym (ap (λ (t : List ℕ). t ++ r) (take-suc l n 0 h ∙ ap (λ (y : ℕ). take n l ++ (y ∷ [])) e) ∙ append_assoc (take n l) (x ∷ []) r)

-- of words that are given in parts
pub gap_put : (A B C : List ℕ) (y a k n : ℕ) → length A ≡ k → length B ≡ n → set (gap (A ++ (B ++ (y ∷ C))) k n) k a ≡ A ++ (a ∷ (B ++ C))
gap_put A B C y a k n ea eb =
    let o : List ℕ = A ++ (B ++ (y ∷ C)) in
    let size : length o ≡ k + (n + suc (length C)) = length-append A (B ++ (y ∷ C)) ∙ omega (arith, ea, eb, length-append B (y ∷ C)) in
    let whole : o ≡ (A ++ (B ++ (y ∷ []))) ++ C = sym (append_assoc A (B ++ (y ∷ [])) C ∙ ap (λ (l : List ℕ). A ++ l) (append_assoc B (y ∷ []) C)) in
    gap_set o k n a (omega arith)
    ∙ ap₂ (λ (p q : List ℕ). p ++ (a ∷ q)) (take_at A (B ++ (y ∷ C)) k ea)
    (ap₂ ◌++◌ (ap (take n) (drop_at A (B ++ (y ∷ C)) k ea) ∙ take_at B (y ∷ C) n eb)
    (ap (drop (suc (k + n))) whole ∙ drop_at (A ++ (B ++ (y ∷ []))) C (suc (k + n)) (length-append A (B ++ (y ∷ [])) ∙ omega (arith, ea, eb, length-append B (y ∷ [])))))

-- ---- the words of a row, in parts

module _ {o : List ℕ} {f n a : ℕ} (r : Row o f n a) where
  abbrev xs : List ℕ
  xs = part o f n

  abbrev p : ℕ
  p = below a (part o f n)

  xs_length : length xs ≡ n
  xs_length = length-take n (drop f o) ∙ omega (arith, length-drop f o, r.within)

  front_length : length (take f o) ≡ f
  front_length = length-take-le f o (omega (arith, r.within))

  held : (i : ℕ) → i < length xs → get_or o (f + i) 0 ≡ get_or xs i 0
  held i h = sym (get_or-take n (drop f o) i 0 (omega (arith, xs_length)) ∙ get_or-drop f o i 0)

  -- the seat that the code finds
  pub row_seat : seat_of o f n a ≡ p
  row_seat = ap (λ (m : ℕ). seat_of o f m a) (sym xs_length) ∙ seat_below o f xs a r.rises held

  pub seat_most : p ≤ n
  seat_most = omega (arith, below_most a xs, xs_length)

  last_held : 0 < p → get_or o (f + p - 1) 0 ≡ get_or xs (p - 1) 0
  last_held h = let e : f + p - 1 ≡ f + (p - 1) = omega arith in ap (λ (i : ℕ). get_or o i 0) e ∙ held (p - 1) (omega (arith, seat_most, xs_length))

  -- it is there already
  module _ (h : 0 < p) (e : get_or o (f + p - 1) 0 ≡ a) where
    there : insert a xs ≡ xs
    there = insert_there a xs r.rises h (sym (last_held h) ∙ e)

    pub row_there : (n ≡ length (insert a xs)) × (o ≡ row_with o f (insert a xs))
    row_there = (sym (ap length there ∙ xs_length), r.rest ∙ ap (row_with o f) (sym there))

  -- it is not
  module _ (d : 0 < p → get_or o (f + p - 1) 0 ≡ a → ⊥) where
    new : insert a xs ≡ take p xs ++ (a ∷ drop p xs)
    new = insert_new a xs r.rises (λ h e. d h (last_held h ∙ e))

    one_more : length (insert a xs) ≡ n + 1
    one_more =
        ap length new ∙ length-append (take p xs) (a ∷ drop p xs)
        ∙ omega (arith, length-take-le p xs (omega (arith, seat_most, xs_length)), length-drop p xs, seat_most, xs_length)

    pub row_room : f + p + (n - p) < length o
    row_room = omega (arith, r.room, one_more, seat_most)

    abbrev zs : List ℕ
    zs = blank (length o - (f + n + 1))

    zeros_left : blank (length o - length (take f o ++ xs)) ≡ 0 ∷ zs
    unfolding blank
    zeros_left =
        let e : length o - length (take f o ++ xs) ≡ suc (length o - (f + n + 1)) =
        ap (λ (m : ℕ). length o - m) (length-append (take f o) xs) ∙ omega (arith, front_length, xs_length, r.room, one_more) in
        ap (λ (m : ℕ). replicate m 0) e

    in_parts : o ≡ (take f o ++ take p xs) ++ (drop p xs ++ (0 ∷ zs))
    unfolding row_with padded
    in_parts =
        r.rest
        ∙ ap₂ (λ (l m : List ℕ). (take f o ++ l) ++ m) (sym (take-append-drop p xs)) zeros_left
        ∙ ap (λ (l : List ℕ). l ++ (0 ∷ zs)) (sym (append_assoc (take f o) (take p xs) (drop p xs)))
        ∙ append_assoc (take f o ++ take p xs) (drop p xs) (0 ∷ zs)

    joined : (take f o ++ take p xs) ++ (a ∷ (drop p xs ++ zs)) ≡ (take f o ++ insert a xs) ++ blank (length o - length (take f o ++ insert a xs))
    joined =
        let size : length o - (f + n + 1) ≡ length o - length (take f o ++ insert a xs) =
        ap (λ (m : ℕ). length o - m) (sym (length-append (take f o) (insert a xs) ∙ omega (arith, front_length, one_more))) in
        regroup ∙ ap₂ (λ (l : List ℕ) (m : ℕ). (take f o ++ l) ++ blank m) (sym new) size
      where
        regroup : (take f o ++ take p xs) ++ (a ∷ (drop p xs ++ zs)) ≡ (take f o ++ (take p xs ++ (a ∷ drop p xs))) ++ zs
        regroup = simp append_assoc

    pub row_new : (n + 1 ≡ length (insert a xs)) × (set (gap o (f + p) (n - p)) (f + p) a ≡ row_with o f (insert a xs))
    unfolding row_with padded
    row_new = (
      sym one_more,
      ap (λ (l : List ℕ). set (gap l (f + p) (n - p)) (f + p) a) in_parts
          ∙ gap_put (take f o ++ take p xs) (drop p xs) zs 0 a (f + p) (n - p)
          (length-append (take f o) (take p xs) ∙ omega (arith, front_length, length-take-le p xs (omega (arith, seat_most, xs_length))))
          (length-drop p xs ∙ omega (arith, xs_length))
          ∙ joined,
    )

-- ---- one turn of each loop

module _ (o : List ℕ) (f m a : ℕ) (h : 0 < m) where
  prev : m ≡ suc (m - 1)
  prev = omega arith

  pub seat_stop : get_or o (f + m - 1) 0 ≤ a → seat_of o f m a ≡ m
  seat_stop k = ap (λ (i : ℕ). seat_of o f i a) prev ∙ seat_here o f (m - 1) a (rw (← prev) k) ∙ sym prev

  pub seat_turn : a < get_or o (f + m - 1) 0 → seat_of o f m a ≡ seat_of o f (m - 1) a
  seat_turn k = ap (λ (i : ℕ). seat_of o f i a) prev ∙ seat_on o f (m - 1) a (rw (← prev) k)

  pub gap_turn : gap o f m ≡ gap (set o (f + m) (get_or o (f + m - 1) 0)) f (m - 1)
  unfolding gap
  gap_turn = ap (gap o f) prev ∙ ap (λ (i : ℕ). gap (set o (f + i) (get_or o (f + i - 1) 0)) f (m - 1)) (sym prev)

-- ---- as the code has it

ends_true : (o : List ℕ) (f n a : ℕ) → ends_in o f n a ≡ true → (0 < n) × (get_or o (f + n - 1) 0 ≡ a)
unfolding ends_in
ends_true o f n a e =
    two n 0
    (λ z. never_both e (rw (eq-eqb n 0 z, ends_in)))
    (λ z. (omega arith, eqb-true (get_or o (f + n - 1) 0) a (rw (ne_eqb n 0 z, ends_in) at e)))

ends_false : (o : List ℕ) (f n a : ℕ) → ends_in o f n a ≡ false → 0 < n → get_or o (f + n - 1) 0 ≡ a → ⊥
unfolding ends_in
ends_false o f n a e h q = never_both (rw (ne_eqb n 0 (omega arith), ends_in) (eq-eqb (get_or o (f + n - 1) 0) a q)) e

-- what insertion leaves: m is how many words there are then, u the words
abbrev pub Inserted : List ℕ → ℕ → ℕ → ℕ → ℕ → List ℕ → Type 0
Inserted o f n a m u = (m ≡ length (insert a (part o f n))) × (u ≡ row_with o f (insert a (part o f n)))

module _ {o : List ℕ} {f n a : ℕ} (r : Row o f n a) {s : ℕ} (e : s ≡ seat_of o f n a) where
  at_seat : s ≡ below a (part o f n)
  at_seat = e ∙ row_seat r

  pub seat_few : s ≤ n
  seat_few = omega (arith, at_seat, seat_most r)

  pub insert_known : {b : Bool} → b ≡ ends_in o f s a → b ≡ true → Inserted o f n a n o
  insert_known d h = let q = ends_true o f s a (sym d ∙ h) in row_there r (rw at_seat at q.0) (rw at_seat at q.1)

  module _ {b : Bool} (d : b ≡ ends_in o f s a) (h : b ≡ false) where
    absent : 0 < below a (part o f n) → get_or o (f + below a (part o f n) - 1) 0 ≡ a → ⊥
    absent = rw at_seat at (ends_false o f s a (sym d ∙ h))

    pub insert_room : f + s + (n - s) < length o
    insert_room = rw at_seat (row_room r absent)

    pub insert_unknown : {u : List ℕ} → u ≡ set (gap o (f + s) (n - s)) (f + s) a → Inserted o f n a (n + 1) u
    insert_unknown q = let w = row_new r absent in (w.0, q ∙ rw at_seat w.1)
