-- By the reason.
use Rattle.lines.specs.Lines.{reason_line}
use Rattle.verdictreplies.specs.Replies.{verdict_line_of}
use Rattle.reasonreplies.proofs.inner.why.lay_reason.Goals as goal

pub returns-in-Stop : goal.returns-in-Stop
unfolding verdict_line_of reason_line
returns-in-Stop c = rw c.in-Stop.is c.put_bytes.ensures

pub returns-in-NoClash : goal.returns-in-NoClash
unfolding verdict_line_of reason_line
returns-in-NoClash c = rw c.in-NoClash.is c.put_bytes-in-NoClash.ensures

pub returns-in-One : goal.returns-in-One
unfolding verdict_line_of
returns-in-One c = rw c.in-One.is c.lay_lone.ensures

pub returns-in-Clash : goal.returns-in-Clash
unfolding verdict_line_of
returns-in-Clash c = rw c.in-Clash.is c.lay_clash.ensures
