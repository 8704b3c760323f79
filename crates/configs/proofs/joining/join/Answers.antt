-- The contexts are merged; a refused merge leaves all as it was, else the config and the flags are written.
use mathlib.Core.Path.{ap, ◌∙◌}
use mathlib.Core.Bool.{not}
use Rattle.std.proofs.lemmas.Result.{err_from_is_err_and}
use Rattle.words.specs.Refusals.{number}
use Rattle.layout.specs.Decode.{store_of}
use Rattle.arena.specs.Place.{merge_s}
use Rattle.store.specs.Counted.{counting}
use Rattle.sets.specs.Config.{Config}
use Rattle.sets.specs.Layout.{config_at, flag}
use Rattle.sets.specs.Sets.{joined}
use Rattle.setcheck.specs.Configs.{config_of}
use Rattle.contexts.specs.MergeCall.Laws.{merged_known}
use Rattle.configs.proofs.Joins.{join_live, join_known, join_refused, join_done}
use Rattle.configs.proofs.joining.join.Goals as goal

pub merge_known-requires : goal.merge_known-requires
merge_known-requires c =
    let config-at = c.config_at-held in
    let pre = c.requires in
    let old = ap (λ (y : Config). y.context) config-at.ensures in
    (join_live pre, rw old (join_known pre), pre.addable.known)

pub returns : goal.returns
unfolding merged_known
returns c =
    let joined_flags_lem = c.joined_flags in
    let flag_word = c.flag_word in
    let put-config = c.put_config in
    let joined-config = c.joined_config in
    let merge_known = c.merge_known in
    let has-flag = c.has_flag-wildcard in
    let config-at = c.config_at-held in
    let pre = c.requires in
    let args = c.args in
    let old = ap (λ (y : Config). y.context) config-at.ensures in
    let m = rw (c.in_ok-merged.was, has-flag.ensures, old) at merge_known.ensures in
    let y = joined-config.ensures ∙ ap (joined (config_of args.config) c.in_ok-merged.merged.context.0) config-at.ensures in
    let full = not (flag 1 args.set.now) in
    let s = store_of args.store.now in
    let here = (config_at args.set.now args.place).context in
    let work = c.in_ok-merged.merged.tally in
    join_done pre (counting full s here args.config.context.0) (merge_s full s here args.config.context.0)
    merge_known.new.store merge_known.new.scratch c.in_ok-merged.merged.context.0 work.merges work.made m (config_of joined-config.result) y
    put-config.new.set put-config.ensures flag_word.result flag_word.ensures joined_flags_lem.result joined_flags_lem.ensures

pub returns-in_err-merged : goal.returns-in_err-merged
unfolding merged_known
returns-in_err-merged c =
    let merge_known = c.merge_known in
    let has-flag = c.has_flag-wildcard in
    let config-at = c.config_at-held in
    let pre = c.requires in
    let args = c.args in
    let old = ap (λ (y : Config). y.context) config-at.ensures in
    let m = rw (c.in_err-merged.was, has-flag.ensures, old) at merge_known.ensures in
    let full = not (flag 1 args.set.now) in
    let s = store_of args.store.now in
    let here = (config_at args.set.now args.place).context in
    let p = err_from_is_err_and c.from_residual.result c.from_residual.ensures.1 in
    rw (p.1, p.2) (join_refused pre (counting full s here args.config.context.0) (merge_s full s here args.config.context.0)
    merge_known.new.store merge_known.new.scratch (number _) m)
