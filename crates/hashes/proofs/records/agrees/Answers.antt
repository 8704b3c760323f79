-- A count above 14 by the first law, and otherwise by the hash that `list_hash` gives of that many words.
use mathlib.Core.Path.{sym, ap, ap₂, ◌∙◌}
use native.Mathlib.Omega.{arith}
use lib.Dec.{eqb}
use lib.Seq.{length-take-le}
use Prim.Native.Nat.{ℕ}
use Rattle.hashes.proofs.Laying.{agreeing_long, agreeing_short}
use Rattle.hashes.specs.Records.{list_in}
use Rattle.words.specs.Hash.{hash_of}
use Rattle.hashes.proofs.records.agrees.Goals as goal

pub returns-then-count-gt14 : goal.returns-then-count-gt14
returns-then-count-gt14 c = sym (agreeing_long _ (omega (arith, c.word_at-count.ensures)))

pub returns : goal.returns
returns c =
    let a = c.args in
    let count = c.word_at-count in
    ap₂ eqb
    (c.list_hash.ensures ∙ ap (λ (n : ℕ). hash_of (list_in a.bytes.now n)) (length-take-le count.result a.list.now (omega arith) ∙ count.ensures))
    c.word_at.ensures
    ∙ sym (agreeing_short _ (omega (arith, count.ensures)))
