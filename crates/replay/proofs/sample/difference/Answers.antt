-- By the answer of `replays`.
use Rattle.replay.specs.Sample.{same, other}
use Rattle.replay.proofs.sample.difference.Goals as goal

pub returns-then-replays : goal.returns-then-replays
returns-then-replays c = same c.if-replays.ensures

pub returns : goal.returns
returns c = other c.if-replays.ensures
