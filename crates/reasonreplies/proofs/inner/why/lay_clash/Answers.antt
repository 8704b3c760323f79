-- `W clash`, state, context, alternatives, the line end.
use Rattle.reasonreplies.specs.Because.{clash_line}
use Rattle.reasonreplies.proofs.inner.why.lay_clash.Goals as goal

pub returns : goal.returns
returns c =
    let args = c.args in
    let put-bytes = c.put_bytes-at in
    let put-number = c.put_number-at in
    let put-number2 = c.put_number-at-2 in
    let put-numbers = c.put_numbers-at in
    let put_byte = c.put_byte in
    rw c.held.ensures at
    (clash_line args.out.now args.state args.context _ put-bytes.ensures put-number.ensures put-number2.ensures put-numbers.ensures
    put_byte.ensures)
