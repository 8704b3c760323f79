-- The length is right for the kind, and the payload is within the script.
use native.Mathlib.Omega.{arith}
use mathlib.Core.Path.{sym}
use Rattle.format.specs.Whole.{whole}
use Rattle.format.proofs.records.read_record.Goals as goal

pub read_payload-requires : goal.read_payload-requires
read_payload-requires c = whole _ _ _ _ (sym c.if-not-payload_fits.ensures) (omega arith)
