-- The kind is of 1 bit, each side of 9.
use Rattle.cache.specs.Keys.{key_made}
use Rattle.cache.proofs.keys.key_of.Goals as goal

pub returns : goal.returns
returns c = key_made c.args.root_is_wildcard c.args.smaller c.args.larger c.requires.0 c.requires.1
