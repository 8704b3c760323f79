-- To believe: what the answers of this crate stand for.
use Rattle.std.specs.Prelude.{◌≡◌, List, ℕ, ◌+◌, ◌*◌, ◌≤◌, length}
use Rattle.setcheck.specs.Configs.{config_of}
use Rattle.format.specs.declared.records.Record.{Record}
use Rattle.format.specs.declared.records.Record.TheVariants.{Singleton, Merge, Show, Stops, OnSet}
use Rattle.format.specs.declared.records.SetRecord.{SetRecord}
use Rattle.format.specs.declared.records.SetRecord.TheVariants.{NewSet, Add, Verdict, Close, Why}
use Rattle.format.specs.declared.records.Step.{Step}
use Rattle.format.specs.declared.records.Step.TheVariants.{Found, End, Malformed}
use Rattle.format.specs.Bytes.{words_at}
use Rattle.format.specs.Format.{singleton, merge, new_set, add, stops, verdict, show, close, why, Reading, found, ended, malformed, Record as Call}

-- a record of the code, by its fields' values; of stop states it has place and number, and they stand in the script's bytes s
abbrev pub set_call : SetRecord → Call
set_call (NewSet m) = new_set m
set_call (Add x) = add (config_of x)
set_call Verdict = verdict
set_call Close = close
set_call Why = why

abbrev pub call_in : List ℕ → Record → Call
call_in s (Singleton p r) = singleton p.0 r.0
call_in s (Merge a b m) = merge a.0 b.0 m
call_in s (Show c) = show c.0
call_in s (Stops p n) = stops (words_at s p n)
call_in s (OnSet x) = set_call x

-- what the decoder answers
abbrev pub reading : List ℕ → Step → Reading
reading s (Found r j) = found (call_in s r) j
reading s End = ended
reading s Malformed = malformed

-- stop states stand in the script, right before the place e
abbrev pub Before : List ℕ → ℕ → Record → Type 0
Before s e (Singleton p r) = Unit {0}
Before s e (Merge a b m) = Unit {0}
Before s e (Stops p n) = (p + 4 * n ≡ e) × (e ≤ length s)
Before s e (Show c) = Unit {0}
Before s e (OnSet x) = Unit {0}

abbrev pub Placed : List ℕ → Step → Type 0
Placed s (Found r j) = Before s j r
Placed s End = Unit {0}
Placed s Malformed = Unit {0}
