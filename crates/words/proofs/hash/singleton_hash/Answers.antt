-- `singleton_hash` is the hash of a singleton's three words: each call of `mix` takes one of them in.
use Rattle.std.proofs.Common.{refl}
use Rattle.words.specs.Hash.{hash_from}
use Rattle.words.proofs.hash.singleton_hash.Goals as goal

pub returns : goal.returns
unfolding hash_from
returns c = rw (c.mix-3.ensures, c.mix-2.ensures, c.mix.ensures, c.from.ensures) refl
