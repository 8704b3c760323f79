-- Return states as stored, for the contracts of the two conversions, which only other crates of this library call. What a call answers is said
-- without them, so nothing here has to be believed.
pub mod Laws
use Rattle.std.specs.Prelude.{ℕ, true, false, ◌==◌, nat_lt, Result, Ok, Err}
use Rattle.words.specs.Names.{empty_mark}
use Rattle.words.specs.declared.names.CompactState.{CompactState}
use Rattle.words.specs.declared.refusals.Refusal.{Refusal}
use Rattle.words.specs.declared.refusals.Refusal.TheVariants.{StateOutOfRange}

-- the empty mark as stored, `$`
abbrev pub compact_mark : ℕ
compact_mark = 4294967295

-- the empty mark, stored as `$`; or a state below the stored mark, as it is; or neither
unfoldable pub compacted : ℕ → Result CompactState Refusal
compacted r =
    elim (r == empty_mark) [
      | true ↦ Ok (record { 0 = compact_mark })
      | false ↦ elim (nat_lt r compact_mark) [ true ↦ Ok (record { 0 = r }) | false ↦ Err StateOutOfRange ]
    ]

-- the marks answer one another, and every other state stands for itself
unfoldable pub expanded : ℕ → ℕ
expanded s = elim (s == compact_mark) [ true ↦ empty_mark | false ↦ s ]
