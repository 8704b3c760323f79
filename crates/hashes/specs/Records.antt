-- A record: sixteen 64-bit words, little-endian, of which word 0 counts the list, words 1 to 14 are the list and word 15 is its hash.
-- Nothing here has to be believed.
use Rattle.std.specs.Prelude.{ℕ, suc, zero, ◌+◌, ◌*◌, Bool, true, false, List, [], ◌∷◌, ◌++◌, eqb, leb, get_or}
use Rattle.words.specs.Hash.{hash_of}

-- four bytes as a number
abbrev pub half_at : List ℕ → ℕ → ℕ
half_at bytes at =
    get_or bytes at 0 + get_or bytes (at + 1) 0 * 256 + get_or bytes (at + 2) 0 * 65536 + get_or bytes (at + 3) 0 * 16777216

-- word i of a record
abbrev pub word_at : List ℕ → ℕ → ℕ
word_at bytes i = half_at bytes (8 * i) + half_at bytes (8 * i + 4) * 4294967296

-- the first n words of the list, which starts at word 1
unfoldable pub list_in : List ℕ → ℕ → List ℕ
list_in bytes zero = []
list_in bytes (suc n) = list_in bytes n ++ word_at bytes (n + 1) ∷ []

-- is the hash of the list the recorded one
unfoldable pub agreeing : List ℕ → Bool
agreeing bytes =
    elim (leb (word_at bytes 0) 14) [
      | true ↦ eqb (hash_of (list_in bytes (word_at bytes 0))) (word_at bytes 15)
      | false ↦ false
    ]
