-- To believe: what the answers of this crate stand for.
use Rattle.words.specs.Refusals.{number}
use Rattle.std.specs.Prelude.{List, ℕ, Result, Ok, Err}
use Rattle.store.specs.Calls.{Left, leaves, leaves_after, refused, context}
use Rattle.words.specs.declared.refusals.Refusal.{Refusal}
use Rattle.interning.specs.declared.numbered.Numbered.{Numbered}

-- a context's number and how many contexts were made, or a refusal's number alone; and the words of store and scratch
abbrev pub numbered : Result Numbered Refusal → List ℕ → List ℕ → Left
numbered (Ok d) w z = leaves_after 0 d.made (context d.context.0) w z
numbered (Err f) w z = leaves (refused (number f)) w z
