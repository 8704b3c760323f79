-- `hash_words` is `hash_of`. The loop's invariant: the hash is that of the words so far.
use Rattle.std.proofs.Common.{◌≡◌, take}
use Rattle.words.specs.Hash.{hash_of}
use Rattle.words.proofs.hash.hash_words.Given as goal

abbrev pub invariant-loop-word : goal.invariant-loop-word
invariant-loop-word l = l.hash ≡ hash_of (take l.word-index l.words)
