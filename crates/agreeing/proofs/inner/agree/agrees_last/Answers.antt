-- The end line is laid out and compared.
use Rattle.agreeing.specs.Agreeing.{last_tells}
use Rattle.agreeing.proofs.inner.agree.agrees_last.Goals as goal

pub returns : goal.returns
returns c = last_tells c.args.answer.now c.args.at c.requires _ _ _ _ c.lay_end-wrote.ensures c.eq.result c.eq.ensures
