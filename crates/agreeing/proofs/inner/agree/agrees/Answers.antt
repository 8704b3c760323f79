-- The library's test.
use Rattle.agreeing.specs.Agreeing.{agrees_tells}
use Rattle.agreeing.proofs.inner.agree.agrees.Goals as goal

pub returns : goal.returns
returns c = agrees_tells c.args.answer.now c.args.out.now c.args.at c.args.wrote c.starts_with.result c.requires.0 c.starts_with.ensures.value
