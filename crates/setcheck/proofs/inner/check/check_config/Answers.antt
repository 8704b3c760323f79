-- The context is known and the chain has no equal key: then the config is good, and its key goes in front of its chain.
use mathlib.Core.Path.{sym, ◌∙◌}
use Rattle.setcheck.specs.Configs.{config_of}
use Rattle.setcheck.specs.Keys.{bucket_key, place_some, place_none}
use Rattle.setcheck.specs.Judged.{found_bad, new_passed}
use Rattle.setcheck.proofs.inner.check.check_config.Goals as goal

pub returns-then-is_some : goal.returns-then-is_some
returns-then-is_some c =
    let pre = c.requires in
    let b = bucket_key c.key_of.ensures c.bucket_of-bucket.ensures in
    let r = place_some c.find_key.result (sym c.is_some.ensures ∙ c.if-is_some.true) in
    (found_bad pre.0 pre.1 (config_of c.args.config) pre.2 c.bucket_of-bucket.result b.0 b.1 r.0 (sym c.find_key.ensures ∙ r.1), pre.0.lent)

pub returns : goal.returns
returns c =
    let pre = c.requires in
    let b = bucket_key c.key_of.ensures c.bucket_of-bucket.ensures in
    let r = place_none c.find_key.result (sym c.is_some.ensures ∙ c.if-is_some.false) in
    new_passed pre.0 pre.1 (config_of c.args.config) pre.2 c.bucket_of-bucket.result b.0 b.1 c.if-contexts-config.false
    (sym c.find_key.ensures ∙ r) c.link_key.new.scratch c.link_key.ensures
