-- The chains are those of what configs share; the test says whether one is alike.
use Rattle.grouping.specs.Alike.{alike_at}
use Rattle.grouping.specs.Led.{bucket_at}
use Rattle.grouping.specs.Find.{in_bucket, compared}
use Rattle.grouping.proofs.inner.lead.find_alike.Goals as goal

pub returns : goal.returns
returns c =
    let args = c.args in
    let pre = c.requires in
    c.last_chained.ensures (bucket_at args.set.now args.alike) (λ j. alike_at args.set.now args.alike j args.place) args.place
    pre.led.chains (in_bucket pre) (λ i a h t. compared args.set.now args.alike i args.place a _ t c.traits_of-traits.ensures)
