-- To believe: what an alternative, or none, is as an answer; alternative 0 is one.
pub mod Laws
use Rattle.std.specs.Prelude.{Option, Some, None}
use Rattle.words.specs.declared.names.Alternative.{Alternative}
use Rattle.groups.specs.Answers.{Answer, none, only}

abbrev pub one_alt : Option Alternative → Answer
one_alt (Some a) = only a.0
one_alt None = none
