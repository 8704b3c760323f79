-- To believe: the lines of a script's output, as bytes.
pub mod Laws
use Rattle.std.specs.Prelude.{Bool, true, false, List, [], ◌∷◌, ◌++◌, ℕ}
use Rattle.layout.specs.Store.{Node, end, dollar, push}
use Rattle.layout.specs.Kinds.{size}
use Rattle.layout.specs.Layout.{count, used}
use Rattle.groups.specs.Answers.{Answer, none, only}
use Rattle.groups.specs.Reason as Reasons
use Rattle.groups.specs.Reason.{Reason, stop, one, clash}
use Rattle.lines.specs.Decimal.{decimal}

-- bytes of the buffer in which a line is laid
abbrev pub line_bytes : ℕ
line_bytes = 40000

-- a space and a number
abbrev pub spaced : ℕ → List ℕ
spaced n = 32 ∷ decimal n

-- a letter, a number, a line end
abbrev pub number_line : ℕ → ℕ → List ℕ
number_line letter n = letter ∷ spaced n ++ 10 ∷ []

-- a letter, two numbers, a line end
abbrev pub numbers_line : ℕ → ℕ → ℕ → List ℕ
numbers_line letter n k = letter ∷ spaced n ++ spaced k ++ 10 ∷ []

-- "`C` number"; then how many contexts the call made: "`C` and `A` lines get this figure as a last field" (request A3)
unfoldable pub context_line : ℕ → ℕ → List ℕ
context_line c made = numbers_line 67 c made

-- "`N`"
unfoldable pub new_set_line : List ℕ
new_set_line = 78 ∷ 10 ∷ []

-- "`A` 1 inserted or 0 merged"; then how many contexts the call made
unfoldable pub added_line : ℕ → ℕ → List ℕ
added_line n made = numbers_line 65 n made

-- "`S` states held"
unfoldable pub stops_line : ℕ → List ℕ
stops_line n = number_line 83 n

-- "Print `-` for none .. and let 0 mean alternative 0 only" (request A2)
unfoldable pub alternative_bytes : Answer → List ℕ
alternative_bytes none = 32 ∷ 45 ∷ []
alternative_bytes (only a) = spaced a

-- "verdict 1 or 0"
unfoldable pub verdict_bytes : Bool → List ℕ
verdict_bytes true = spaced 1
verdict_bytes false = spaced 0

-- "`V` subset count, unique alternative, viable alternative, verdict 1 or 0"
unfoldable pub figures_line : ℕ → Answer → Answer → Bool → List ℕ
figures_line n unique viable verdict = 86 ∷ spaced n ++ alternative_bytes unique ++ alternative_bytes viable ++ verdict_bytes verdict ++ 10 ∷ []

-- numbers, with a space before each
unfoldable pub spaced_all : List ℕ → List ℕ
spaced_all [] = []
spaced_all (x ∷ xs) = spaced x ++ spaced_all xs

-- "`W stop`, `W none`, `W one` s a, and `W clash` state, context, alternatives rising" (request A6)
unfoldable pub reason_line : Reason → List ℕ
reason_line stop = 87 ∷ 32 ∷ 115 ∷ 116 ∷ 111 ∷ 112 ∷ 10 ∷ []
reason_line Reasons.none = 87 ∷ 32 ∷ 110 ∷ 111 ∷ 110 ∷ 101 ∷ 10 ∷ []
reason_line (one s a) = 87 ∷ 32 ∷ 111 ∷ 110 ∷ 101 ∷ spaced s ++ spaced a ++ 10 ∷ []
reason_line (clash s k xs) = 87 ∷ 32 ∷ 99 ∷ 108 ∷ 97 ∷ 115 ∷ 104 ∷ spaced s ++ spaced k ++ spaced_all xs ++ 10 ∷ []

-- "`K`"
unfoldable pub closed_line : List ℕ
closed_line = 75 ∷ 10 ∷ []

-- "A refusal prints `R` number"
unfoldable pub refusal_line : ℕ → List ℕ
refusal_line n = number_line 82 n

-- "each entry as state`>`parent or `$`", with a space before it
unfoldable pub entries_bytes : Node → List ℕ
entries_bytes end = []
entries_bytes dollar = 32 ∷ 36 ∷ []
entries_bytes (push r p n) = (spaced r ++ 62 ∷ decimal p) ++ entries_bytes n

-- "`E` entry count, then each entry"
unfoldable pub entries_line : Node → List ℕ
entries_line n = 69 ∷ spaced (size n) ++ entries_bytes n ++ 10 ∷ []

-- "The end line is `T` contexts, pool entries": words 0 and 1 of the store
unfoldable pub end_line : List ℕ → List ℕ
end_line w = numbers_line 84 (count w) (used w)
