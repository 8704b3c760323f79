-- Laws by which a caller hashes a list piece by piece, by induction on the list. Nothing here has to be believed.
use Rattle.std.specs.Prelude.{◌≡◌, ℕ, ◌+◌, ◌*◌, ◌^◌, ◌<◌, List, [], ◌∷◌, ◌++◌, length, take, bit_xor, slice_index, refl}
use Rattle.std.proofs.Common.{ap, ◌∙◌, add-one, arith, take-suc}
use Rattle.words.specs.Hash.{array_words, hash_from, hash_of, mixed, rotated}

pub mixed_below : (h v : ℕ) → mixed h v < 2 ^ 64
unfolding mixed
mixed_below h v = let x : ℕ = bit_xor (rotated h) v * 0x517cc1b727220a95 in omega arith

pub hash_from_below : (h : ℕ) (vs : List ℕ) → h < 2 ^ 64 → hash_from h vs < 2 ^ 64
unfolding hash_from
hash_from_below h [] l = l
hash_from_below h (v ∷ vs) l = hash_from_below (mixed h v) vs (mixed_below h v)

pub hash_of_below : (vs : List ℕ) → hash_of vs < 2 ^ 64
hash_of_below vs = hash_from_below 0 vs (omega arith)

pub hash_from_append : (h : ℕ) (us vs : List ℕ) → hash_from h (us ++ vs) ≡ hash_from (hash_from h us) vs
unfolding hash_from
hash_from_append h [] vs = refl
hash_from_append h (u ∷ us) vs = hash_from_append (mixed h u) us vs

pub hash_from_snoc : (h : ℕ) (us : List ℕ) (v : ℕ) → hash_from h (us ++ v ∷ []) ≡ mixed (hash_from h us) v
unfolding hash_from
hash_from_snoc h us v = hash_from_append h us (v ∷ [])

pub hash_of_append : (us vs : List ℕ) → hash_of (us ++ vs) ≡ hash_from (hash_of us) vs
hash_of_append us vs = hash_from_append 0 us vs

pub hash_of_snoc : (us : List ℕ) (v : ℕ) → hash_of (us ++ v ∷ []) ≡ mixed (hash_of us) v
hash_of_snoc us v = hash_from_snoc 0 us v

-- one word more of a list that is walked from its start
pub hash_from_take : (h : ℕ) (vs : List ℕ) (i : ℕ) → i < length vs → hash_from h (take (i + 1) vs) ≡ mixed (hash_from h (take i vs)) (slice_index vs i)
hash_from_take h vs i l =
    ap (λ (n : ℕ). hash_from h (take n vs)) (add-one i)
    ∙ ap (hash_from h) (take-suc vs i 0 l)
    ∙ hash_from_snoc h (take i vs) (slice_index vs i)

-- an array's hash in the order in which a walk of its entries makes it
pub hash_of_array : (ps ss : List ℕ) → hash_of (array_words ps ss) ≡ hash_from (mixed (hash_from (mixed (mixed 0 2) (length ps)) ps) (length ss)) ss
unfolding hash_from
hash_of_array ps ss = hash_from_append (mixed (mixed 0 2) (length ps)) ps (length ss ∷ ss)
