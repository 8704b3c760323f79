-- Nothing, or three words and the alternatives; `Written` says what they come to.
use mathlib.Core.Path.{ap}
use native.Mathlib.Omega.{arith}
use lib.ListN.{length-set}
use Rattle.groups.specs.Config.{Config}
use Rattle.outputs.specs.Written.{listing_length, ending_old, room, roomy, ending_new, members_length}
use Rattle.outputs.proofs.inner.subsets.write_group.Goals as goal

pub returns-then-scratch-place : goal.returns-then-scratch-place
returns-then-scratch-place c = ending_old c.requires c.if-scratch-place.true

pub offset_bounds-output-at : goal.offset_bounds-output-at
offset_bounds-output-at c = omega (arith, room c.requires c.if-scratch-place.false)

pub bounds-output-at : goal.bounds-output-at
bounds-output-at c = omega (arith, room c.requires c.if-scratch-place.false, listing_length c.requires)

pub overflow_add-output : goal.overflow_add-output
overflow_add-output c = omega (arith, room c.requires c.if-scratch-place.false)

pub overflow_add-output-2 : goal.overflow_add-output-2
overflow_add-output-2 c = omega (arith, room c.requires c.if-scratch-place.false)

pub offset_bounds-output-at-2 : goal.offset_bounds-output-at-2
offset_bounds-output-at-2 c = omega (arith, room c.requires c.if-scratch-place.false)

pub bounds-output-at-2 : goal.bounds-output-at-2
bounds-output-at-2 c = simp length-set (omega (arith, room c.requires c.if-scratch-place.false, listing_length c.requires))

pub overflow_add-at : goal.overflow_add-at
overflow_add-at c = omega (arith, room c.requires c.if-scratch-place.false)

pub write_members-count-requires : goal.write_members-count-requires
write_members-count-requires c =
    let if1 = c.if-scratch-place in
    let pre = c.requires in
    roomy pre if1.false _ _ (ap (λ (k : Config). k.state) c.config_at-config.ensures) (ap (λ (k : Config). k.context) c.config_at-config.ensures)

pub overflow_cast-output : goal.overflow_cast-output
overflow_cast-output c = omega (arith, room c.requires c.if-scratch-place.false, c.write_members-count.ensures.0)

pub offset_bounds-output-at-3 : goal.offset_bounds-output-at-3
offset_bounds-output-at-3 c = omega (arith, room c.requires c.if-scratch-place.false)

pub bounds-output-at-3 : goal.bounds-output-at-3
bounds-output-at-3 c =
    let if1 = c.if-scratch-place in
    let pre = c.requires in
    let write-members = c.write_members-count in
    omega (arith, room pre if1.false, members_length pre if1.false _ _ (ap (λ (k : Config). k.state) c.config_at-config.ensures) (ap (λ (k : Config). k.context) c.config_at-config.ensures) write-members.new.output write-members.ensures.1)

pub overflow_add-result : goal.overflow_add-result
overflow_add-result c = omega (arith, room c.requires c.if-scratch-place.false)

pub overflow_add-result-2 : goal.overflow_add-result-2
overflow_add-result-2 c = omega (arith, room c.requires c.if-scratch-place.false, c.write_members-count.ensures.0)

pub returns : goal.returns
returns c =
    let if1 = c.if-scratch-place in
    let pre = c.requires in
    let write-members = c.write_members-count in
    ending_new pre if1.false _ _ (ap (λ (k : Config). k.state) c.config_at-config.ensures) (ap (λ (k : Config). k.context) c.config_at-config.ensures) write-members.result write-members.new.output write-members.ensures
