-- The bytes are copied.
use Rattle.reasonreplies.specs.Because.{wrote_bytes}
use Rattle.reasonreplies.proofs.inner.pieces.put_bytes.Goals as goal

pub returns : goal.returns
returns c = wrote_bytes c.args.out.now c.args.bytes.now _ c.args.at c.requires c.copy_from_slice.ensures.after
