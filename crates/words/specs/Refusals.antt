-- To believe: document 01's number of each refusal, in its order of checking.
use Rattle.std.specs.Prelude.{ℕ}
use Rattle.words.specs.declared.refusals.Refusal.{Refusal}
use Rattle.words.specs.declared.refusals.Refusal.TheVariants.{WrongLength, UnsoundStore, UnsoundSet, TooManyStops, ReadOnlySet, UnknownContext, StateOutOfRange, FullSet, FullStore}
use Rattle.words.specs.declared.refusals.Refusal.TheVariants.{TooMuchWork, MalformedRecord}

-- 12 is document 02's; 13 to 15 come with their cases
abbrev pub number : Refusal → ℕ
number WrongLength = 2
number UnsoundStore = 1
number UnsoundSet = 3
number TooManyStops = 10
number ReadOnlySet = 7
number UnknownContext = 4
number StateOutOfRange = 5
number FullSet = 8
number FullStore = 6
number TooMuchWork = 12
number MalformedRecord = 9
