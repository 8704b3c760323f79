-- The configs are judged over empty chains, then the flags and the unused words.
use mathlib.Core.Path.{◌≡◌}
use Rattle.std.specs.Prelude.{Some}
use Rattle.setcheck.specs.Verdicts.{start_passed, other_flags, last_verdict}
use Rattle.setcheck.proofs.inner.check.check_set.Goals as goal

pub check_configs-requires : goal.check_configs-requires
check_configs-requires c =
    let args = c.args in
    let pre = c.requires in
    let clear-range = c.clear_range in
    let if1 = c.if-count-gt-MOST_CONFIGS in
    (start_passed args.set.now args.scratch.now args.contexts pre.0 pre.1 clear-range.new.words clear-range.ensures, if1.false)

pub returns-then-held-flags : goal.returns-then-held-flags
returns-then-held-flags c =
    let check-configs = c.check_configs in
    let args = c.args in
    let pre = c.requires in
    let config-count = c.config_count-count in
    let if1 = c.if-count-gt-MOST_CONFIGS in
    let flag_word = c.flag_word-held in
    let e : check-configs.result ≡ Some c.in-Some.flags = cc in
    other_flags args.set.now args.scratch.now args.contexts pre.0 pre.1 c.clear_range.new.words c.clear_range.ensures
    config-count.result config-count.ensures if1.false check-configs.new.scratch check-configs.result check-configs.ensures
    c.in-Some.flags e flag_word.result flag_word.ensures c.if-held-flags.true

pub returns : goal.returns
returns c =
    let check-configs = c.check_configs in
    let args = c.args in
    let pre = c.requires in
    let config-count = c.config_count-count in
    let if1 = c.if-count-gt-MOST_CONFIGS in
    let flag_word = c.flag_word-held in
    let if2 = c.if-held-ge-FLAGS_END in
    let e : check-configs.result ≡ Some c.in-Some.flags = cc in
    last_verdict args.set.now args.scratch.now args.contexts pre.0 pre.1 c.clear_range.new.words c.clear_range.ensures
    config-count.result config-count.ensures if1.false check-configs.new.scratch check-configs.result check-configs.ensures
    c.in-Some.flags e flag_word.result flag_word.ensures if2.false c.if-held-flags.false c.all_zero.result c.all_zero.ensures
