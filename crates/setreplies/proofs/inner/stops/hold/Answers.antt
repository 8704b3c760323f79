-- Refused, or held.
use native.Mathlib.Omega.{arith}
use Rattle.format.specs.Bytes.{words_at}
use Rattle.format.specs.Bytes.Laws.{length_words}
use Rattle.setreplies.specs.Holds.{too_many, held_call}
use Rattle.setreplies.proofs.inner.stops.hold.Goals as goal

pub returns-then-count-gt-MOST_STOPS : goal.returns-then-count-gt-MOST_STOPS
returns-then-count-gt-MOST_STOPS c =
    let args = c.args in
    too_many args.out.now _ _ args.stops.now (words_at args.bytes.now args.at args.count)
    (omega (arith, length_words args.bytes.now args.at args.count)) c.lay_refusal.ensures

pub returns : goal.returns
returns c =
    let args = c.args in
    held_call args.out.now _ _ args.stops.now (words_at args.bytes.now args.at args.count) args.count _
    (length_words args.bytes.now args.at args.count) (omega arith) c.fill.ensures c.lay_line.ensures
