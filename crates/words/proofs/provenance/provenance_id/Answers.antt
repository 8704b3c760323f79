-- `provenance_id` is `id_of`: a mask of 31 ones is a remainder.
use lib.Bits.{and_mask}
use Rattle.words.specs.Provenance.{id_of}
use Rattle.words.proofs.provenance.provenance_id.Goals as goal

pub returns : goal.returns
unfolding id_of
returns c = and_mask c.args.word 31
