-- There is no room, or the config, the count and the flags are written.
use Rattle.setcheck.specs.Configs.{config_of}
use Rattle.configs.proofs.Inserts.{insert_full, insert_done}
use Rattle.configs.proofs.adding.insert.Goals as goal

pub returns-then-count-ge-MOST_CONFIGS : goal.returns-then-count-ge-MOST_CONFIGS
returns-then-count-ge-MOST_CONFIGS c w z =
    let args = c.args in
    let pre = c.requires in
    insert_full args.set.now pre (config_of args.config) c.config_count-count.result c.config_count-count.ensures w z c.if-count-ge-MOST_CONFIGS.true

pub returns : goal.returns
returns c w z =
    let args = c.args in
    let pre = c.requires in
    let config-count = c.config_count-count in
    let if1 = c.if-count-ge-MOST_CONFIGS in
    let flag_word = c.flag_word-flags in
    let put-config = c.put_config in
    insert_done args.set.now pre (config_of args.config) config-count.result config-count.ensures w z if1.false flag_word.result
    flag_word.ensures c.joined_flags.result c.joined_flags.ensures put-config.new.set put-config.ensures
