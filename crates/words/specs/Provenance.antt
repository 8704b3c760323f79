-- To believe: the provenance word: its lower 31 bits are the id, bit 31 is the mark.
pub mod Laws
use Rattle.std.specs.Prelude.{ℕ, ◌+◌, ◌*◌, ◌/◌, ◌%◌, ◌^◌, max}

-- the id: what is left of the word below bit 31
unfoldable pub id_of : ℕ → ℕ
id_of w = w % 2 ^ 31

-- the mark at its place: of a 32-bit word 0 or 2 ^ 31
unfoldable pub mark_of : ℕ → ℕ
mark_of w = w / 2 ^ 31 * 2 ^ 31

-- the id of the kept word, with the mark of either
unfoldable pub merged_marks : ℕ → ℕ → ℕ
merged_marks kept other = id_of kept + max (mark_of kept) (mark_of other)
