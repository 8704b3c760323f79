-- 11 bytes are enough for a space and a number.
use native.Mathlib.Omega.{arith}
use Rattle.verdictreplies.specs.Figured.{piece_number, number_room}
use Rattle.verdictreplies.proofs.inner.verdict.put_number.Goals as goal

pub put_spaced-requires : goal.put_spaced-requires
put_spaced-requires c =
    let args = c.args in
    let pre = c.requires in
    number_room args.out.now args.at args.n (omega arith) pre

pub returns : goal.returns
returns c =
    let args = c.args in
    let put-spaced = c.put_spaced in
    piece_number args.out.now args.at args.n _ _ (omega arith) put-spaced.ensures
