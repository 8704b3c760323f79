-- The two halves of a hash are put together; each is a 32-bit word.
use Rattle.index.specs.Records.{hash_in}
use Rattle.index.proofs.hash.context_hash.Goals as goal

pub returns : goal.returns
unfolding hash_in
returns c = rw (c.high_of-high.ensures, c.low_of-low.ensures)
