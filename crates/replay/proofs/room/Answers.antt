-- The length of a repeat; with the levels written, so that no list of a million elements is computed.
use mathlib.Core.Path.{sym}
use Prim.Native.Nat.{ℕ}
use lib.ListN.{length-replicate}
use Rattle.replay.specs.Sample.{sample_bytes}
use Rattle.replay.proofs.room.Goals as goal

pub returns : goal.returns
returns c = sym {0} {A = ℕ} (length-replicate {0} {A = ℕ} sample_bytes 0)
