-- From config to config of the subset; what is known at each is `Collecting`.
use Rattle.groups.specs.Layout.{config_count}
use Rattle.outputs.specs.Members.{Collecting, left_at}
use Rattle.outputs.proofs.inner.subsets.write_members.Given as goal

abbrev pub invariant-loop-next : goal.invariant-loop-next
invariant-loop-next l = Collecting l.set l.place l.from l.next l.count l.initial.output l.output

abbrev pub decreases-loop-next : goal.decreases-loop-next
decreases-loop-next l = left_at (config_count l.set) l.next
