-- To believe: the empty mark at the border.
use Rattle.std.specs.Prelude.{ℕ}

abbrev pub empty_mark : ℕ
empty_mark = 18446744073709551615
