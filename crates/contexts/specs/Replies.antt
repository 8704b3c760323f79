-- To believe: what the answer of a merge stands for.
use Rattle.std.specs.Prelude.{List, ℕ, Result, Ok, Err}
use Rattle.words.specs.Refusals.{number}
use Rattle.store.specs.Calls.{Left, leaves, leaves_after, refused, context}
use Rattle.contexts.specs.declared.merges.Merged.{Merged}
use Rattle.words.specs.declared.refusals.Refusal.{Refusal}

-- a context's number, how many merges were counted and how many contexts made, or a refusal's number; and the words of store and scratch
abbrev pub merged : Result Merged Refusal → List ℕ → List ℕ → Left
merged (Ok d) w z = leaves_after d.tally.merges d.tally.made (context d.context.0) w z
merged (Err f) w z = leaves (refused (number f)) w z
