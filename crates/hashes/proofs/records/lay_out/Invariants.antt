-- `lay_out` leaves `list_in`. The loop's invariant: the first i words are laid out, and each store adds one at the end.
use mathlib.Core.Path.{◌≡◌}
use lib.ListN.{length, take}
use Rattle.hashes.specs.Records.{list_in}
use Rattle.hashes.proofs.records.lay_out.Given as goal

abbrev pub invariant-loop-i : goal.invariant-loop-i
invariant-loop-i l = (length l.list ≡ length l.initial.list) × (take l.i l.list ≡ list_in l.bytes l.i)
