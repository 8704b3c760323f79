-- `merge_marks` is `merged_marks`: the other word's mark alone, and then its OR with the kept word.
use Rattle.std.proofs.Common.{ap, ◌∙◌}
use lib.Bits.{bit_or}
use Rattle.words.proofs.Bits.{mark_alone, or_mark}
use Rattle.words.proofs.provenance.merge_marks.Goals as goal

pub returns : goal.returns
returns c =
    let kept = c.ranges.kept.fits in
    let other = c.ranges.other.fits in
    ap (bit_or c.args.kept) (mark_alone c.args.other other) ∙ or_mark c.args.kept c.args.other kept other
