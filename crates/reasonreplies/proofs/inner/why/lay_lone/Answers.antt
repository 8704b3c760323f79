-- `W one`, the state, the alternative, the line end.
use Rattle.reasonreplies.specs.Because.{one_line}
use Rattle.reasonreplies.proofs.inner.why.lay_lone.Goals as goal

pub returns : goal.returns
returns c =
    let args = c.args in
    let put-bytes = c.put_bytes-at in
    let put-number = c.put_number-at in
    let put-number2 = c.put_number-at-2 in
    let put_byte = c.put_byte in
    one_line args.out.now args.state args.alternative put-bytes.ensures put-number.ensures put-number2.ensures put_byte.ensures
