-- To believe: the 5,634 words of a store and the 16,384 words of the scratch, by name. `w` is a store's words, `z` the scratch's.
use Rattle.std.specs.Prelude.{List, ℕ, ◌+◌, ◌*◌, get_or, replicate}

-- how many words each has
abbrev pub store_words : ℕ
store_words = 5634

abbrev pub scratch_words : ℕ
scratch_words = 16384

-- the ceilings
abbrev pub most_contexts : ℕ
most_contexts = 512

abbrev pub most_entries : ℕ
most_entries = 2048

-- the state word of `$`
abbrev pub stop : ℕ
stop = 4294967295

-- so many zeros
unfoldable pub blank : ℕ → List ℕ
blank n = replicate n 0

-- ---- the store: two counts, 512 records of three words, 2,048 parents, 2,048 states

unfoldable pub count : List ℕ → ℕ
count w = get_or w 0 0

unfoldable pub used : List ℕ → ℕ
used w = get_or w 1 0

unfoldable pub kind : List ℕ → ℕ → ℕ
kind w c = get_or w (2 + 3 * c) 0

unfoldable pub first : List ℕ → ℕ → ℕ
first w c = get_or w (2 + 3 * c + 1) 0

unfoldable pub second : List ℕ → ℕ → ℕ
second w c = get_or w (2 + 3 * c + 2) 0

unfoldable pub parent : List ℕ → ℕ → ℕ
parent w i = get_or w (1538 + i) 0

unfoldable pub state : List ℕ → ℕ → ℕ
state w i = get_or w (3586 + i) 0
