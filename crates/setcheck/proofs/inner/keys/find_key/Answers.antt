-- The chains are those of the keys; the test says whether a config has the sought one.
use mathlib.Core.Path.{sym, ◌∙◌}
use Rattle.sets.specs.Sets.{key}
use Rattle.sets.specs.Layout.{config_at}
use Rattle.setcheck.specs.Configs.{config_of}
use Rattle.setcheck.specs.Keys.{key_bucket, has_key, shared}
use Rattle.setcheck.proofs.inner.keys.find_key.Goals as goal

pub returns : goal.returns
returns c =
    let args = c.args in
    let pre = c.requires in
    let x = config_of args.config in
    c.last_chained.ensures (λ i. key_bucket (key (config_at args.set.now i))) (has_key args.set.now x) args.count pre.chains
    (λ i e. shared args.set.now x i e ∙ sym pre.bucket) (λ i a h t. t)
