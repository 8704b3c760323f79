-- To believe: what the answers of this crate stand for, and what a step leaves.
pub mod Laws
use Rattle.std.specs.Prelude.{List, ℕ, length}
use Rattle.lines.specs.Laid.{laid}
use Rattle.steps.specs.declared.run.Ran.{Ran}
use Rattle.steps.specs.declared.run.Ran.TheVariants.{Next, Over}
use Rattle.replies.specs.Replies.{Lent}
use Rattle.steps.specs.Steps.{After, goes, over, Stepped}

-- where a step goes on, and how many bytes it laid out
abbrev pub after_of : Ran → After
after_of (Next n j) = goes j
after_of (Over n) = over

abbrev pub wrote_of : Ran → ℕ
wrote_of (Next n j) = n
wrote_of (Over n) = n

-- what a step leaves: where it goes on, the number of bytes of the reply, and each byte and word lent to it
pub record Behind : Type 0 where
  pub after : After
  pub wrote : ℕ
  pub buffer : List ℕ
  pub words : Lent

abbrev pub behind : Ran → List ℕ → Lent → Behind
behind r b l = record { after = after_of r; wrote = wrote_of r; buffer = b; words = l }

-- the same of the definition, over the buffer b
abbrev pub laid_out : List ℕ → Stepped → Behind
laid_out b t = record {
  after = t.after;
  wrote = length t.printed.reply;
  buffer = laid b 0 t.printed.reply;
  words = t.printed.words;
}
