-- The interner's hash and the words of each kind of context, as document 01 lists them. No answer depends on it, so nothing here has to be believed.
pub mod Laws
use Rattle.std.specs.Prelude.{ℕ, ◌+◌, ◌*◌, ◌/◌, ◌%◌, ◌^◌, List, [], ◌∷◌, ◌++◌, length, bit_xor}

-- x, of 64 bits, rotated left by 5: the lower 59 bits go up by 5, the upper 5 come in below
unfoldable pub rotated : ℕ → ℕ
rotated x = x % 2 ^ 59 * 2 ^ 5 + x / 2 ^ 59

-- the hash h after one word v more
unfoldable pub mixed : ℕ → ℕ → ℕ
mixed h v = (bit_xor (rotated h) v * 0x517cc1b727220a95) % 2 ^ 64

-- the hash h after the words one by one
unfoldable pub hash_from : ℕ → List ℕ → ℕ
hash_from h [] = h
hash_from h (v ∷ vs) = hash_from (mixed h v) vs

-- the hash of a list of words
abbrev pub hash_of : List ℕ → ℕ
hash_of vs = hash_from 0 vs

-- context 0
abbrev pub empty_words : List ℕ
empty_words = 0 ∷ []

-- a singleton, from its parent's hash and its state
abbrev pub singleton_words : ℕ → ℕ → List ℕ
singleton_words parentHash state = 1 ∷ parentHash ∷ state ∷ []

-- an array, from its parents' hashes and its states, each list after its length
abbrev pub array_words : List ℕ → List ℕ → List ℕ
array_words parentHashes states = 2 ∷ length parentHashes ∷ (parentHashes ++ (length states ∷ states))
