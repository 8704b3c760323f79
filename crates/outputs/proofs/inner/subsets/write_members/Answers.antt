-- From config to config of the subset; what is known at each is `Collecting`.
use mathlib.Core.Path.{ap}
use native.Mathlib.Omega.{arith}
use Rattle.groups.specs.Config.{Config}
use Rattle.outputs.specs.Members.{collect_begin, collect_end, here, collect_asks, collect_next}
use Rattle.outputs.proofs.inner.subsets.write_members.Goals as goal

pub loop-next-init : goal.loop-next-init
loop-next-init c =
    let pre = c.requires in
    collect_begin pre

pub config_at-requires : goal.config_at-requires
config_at-requires c =
    let loop = c.loop-next in
    let pre = c.requires in
    (pre.led.words.sized, omega (arith, (here pre loop.invariant c.loop-next-test.true).1, pre.led.words.few, pre.led.words.lent))

pub insert_alt-count-requires : goal.insert_alt-count-requires
insert_alt-count-requires c =
    let loop = c.loop-next in
    let loop-test = c.loop-next-test in
    let pre = c.requires in
    collect_asks pre loop.invariant loop-test.true c.config_at.result.alt.0 (ap (λ (k : Config). k.alternative) c.config_at.ensures)

pub loop-next-smaller : goal.loop-next-smaller
loop-next-smaller c =
    let insert-alt = c.insert_alt-count in
    let loop = c.loop-next in
    let loop-test = c.loop-next-test in
    let pre = c.requires in
    (collect_next pre loop.invariant loop-test.true c.config_at.result.alt.0 (ap (λ (k : Config). k.alternative) c.config_at.ensures) insert-alt.result insert-alt.new.words insert-alt.ensures).1

pub loop-next-preserved : goal.loop-next-preserved
loop-next-preserved c =
    let insert-alt = c.insert_alt-count in
    let loop = c.loop-next in
    let loop-test = c.loop-next-test in
    let pre = c.requires in
    (collect_next pre loop.invariant loop-test.true c.config_at.result.alt.0 (ap (λ (k : Config). k.alternative) c.config_at.ensures) insert-alt.result insert-alt.new.words insert-alt.ensures).0

pub returns : goal.returns
returns c =
    let loop = c.loop-next in
    let pre = c.requires in
    collect_end pre loop.next loop.count loop.output loop.invariant c.loop-next-test.false
