-- How a table of numbers writes a payload down: a length, or a mark. Nothing here has to be believed: `accepts` says what a payload may be.
use Rattle.std.specs.Prelude.{Bool, true, false, ℕ, ◌%◌, eqb, ltb}
use Rattle.format.specs.Payloads.{Payload, exactly, fours, none}

-- any multiple of 4
abbrev pub variable : ℕ
variable = 16384

-- no kind
abbrev pub no_kind : ℕ
no_kind = 32768

unfoldable pub entry : Payload → ℕ
entry (exactly n) = n
entry fours = variable
entry none = no_kind

-- what an entry of such a table accepts
unfoldable pub entry_accepts : ℕ → ℕ → Bool
entry_accepts e n =
    elim (ltb e no_kind) [
      | true ↦ elim (eqb e variable) [ true ↦ eqb (n % 4) 0 | false ↦ eqb n e ]
      | false ↦ false
    ]
