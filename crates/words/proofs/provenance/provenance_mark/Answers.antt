-- `provenance_mark` is `mark_of`: a mask of bit 31.
use Rattle.words.proofs.Bits.{mark_alone}
use Rattle.words.proofs.provenance.provenance_mark.Goals as goal

pub returns : goal.returns
returns c = mark_alone c.args.word c.ranges.word.fits
