-- To believe: what the answers of this crate stand for; inserted is 1 and merged 0, with what was counted.
use Rattle.std.specs.Prelude.{List, ℕ, Result, Ok, Err}
use Rattle.words.specs.Refusals.{number}
use Rattle.sets.specs.Calls.{SetReply, refused, done, added, SetLeft, set_left, set_left_after}
use Rattle.words.specs.declared.refusals.Refusal.{Refusal}
use Rattle.configs.specs.declared.adding.Added.{Added}
use Rattle.configs.specs.declared.adding.Added.TheVariants.{Inserted, Merged}

abbrev pub settled : Result Unit Refusal → SetReply
settled (Ok _) = done
settled (Err f) = refused (number f)

abbrev pub added_left : Result Added Refusal → List ℕ → List ℕ → List ℕ → SetLeft
added_left (Ok Inserted) w v z = set_left (added 1) w v z
added_left (Ok (Merged k)) w v z = set_left_after k.merges k.made (added 0) w v z
added_left (Err f) w v z = set_left (refused (number f)) w v z
