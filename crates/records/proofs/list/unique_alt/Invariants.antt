-- Whether the records before have the alternative of the first.
use Rattle.std.specs.Prelude.{◌≡◌, take}
use Rattle.records.specs.Records.{all_have}
use Rattle.records.proofs.list.unique_alt.Given as goal

abbrev pub invariant-loop-config : goal.invariant-loop-config
invariant-loop-config l = l.same ≡ all_have l.first.0 (take l.config-index l.configs)
