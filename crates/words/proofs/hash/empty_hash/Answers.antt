-- `empty_hash` is the hash of the one word of context 0: a list of one word is one `mixed`.
use Rattle.words.specs.Hash.{hash_from}
use Rattle.words.proofs.hash.empty_hash.Goals as goal

pub returns : goal.returns
unfolding hash_from
returns c = c.mix.ensures
