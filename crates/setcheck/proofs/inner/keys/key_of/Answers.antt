-- The four numbers of a key.
use Rattle.sets.specs.Sets.{key}
use Rattle.setcheck.proofs.inner.keys.key_of.Goals as goal

pub returns : goal.returns
unfolding key
returns c = rw c.provenance_id-id.ensures
