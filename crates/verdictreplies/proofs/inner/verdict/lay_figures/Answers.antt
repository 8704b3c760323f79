-- `V`, the figures, the line end.
use Rattle.deciding.specs.OneAlt.{one_alt}
use Rattle.replies.specs.Replies.{verdict_line_of}
use Rattle.verdictreplies.specs.Figured.{figures_line_lem}
use Rattle.verdictreplies.proofs.inner.verdict.lay_figures.Goals as goal

pub returns : goal.returns
unfolding verdict_line_of
returns c =
    let args = c.args in
    let put_byte = c.put_byte-at in
    let put-number = c.put_number-at in
    let put-alternative = c.put_alternative-at in
    let put-alternative2 = c.put_alternative-at-2 in
    let put-verdict = c.put_verdict-at in
    let put-byte2 = c.put_byte in
    let all = args.all in
    figures_line_lem args.out.now all.subsets (one_alt all.unique) (one_alt all.viable) all.verdict
    put_byte.ensures put-number.ensures put-alternative.ensures put-alternative2.ensures put-verdict.ensures put-byte2.ensures
