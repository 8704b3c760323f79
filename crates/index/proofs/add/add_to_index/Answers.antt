-- The stores are those of `put_index`, by computation.
use Rattle.layout.specs.Scratch.{head}
use Rattle.index.specs.Writes.{put_index}
use Rattle.index.proofs.add.add_to_index.Goals as goal

pub returns : goal.returns
unfolding put_index head
returns c = rw c.bucket-chain.ensures.0
