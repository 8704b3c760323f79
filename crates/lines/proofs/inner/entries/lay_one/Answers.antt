-- The heading, the entry, the line end.
use native.Mathlib.Omega.{arith}
use Rattle.lines.specs.Entries.{entry_bytes}
use Rattle.lines.specs.Entries.Laws.{entry_any}
use Rattle.lines.specs.Lines.Laws.{number_room, more_room, end_room, headed_line}
use Rattle.lines.proofs.inner.entries.lay_one.Goals as goal

pub put_spaced-at-requires : goal.put_spaced-at-requires
put_spaced-at-requires c =
    let args = c.args in
    let put_byte = c.put_byte-at in
    number_room args.out.now (omega arith) 69 1 (omega arith) put_byte.ensures

pub put_entry-at-requires : goal.put_entry-at-requires
put_entry-at-requires c =
    let args = c.args in
    let put_byte = c.put_byte-at in
    let put-spaced = c.put_spaced-at in
    more_room args.out.now (omega arith) 69 1 (omega arith) put_byte.ensures put-spaced.ensures _
    (omega (arith, entry_any args.entry.state.0 args.entry.parent.0 (omega arith) (omega arith)))

pub put_byte-requires : goal.put_byte-requires
put_byte-requires c =
    let args = c.args in
    let put_byte = c.put_byte-at in
    let put-spaced = c.put_spaced-at in
    let put-entry = c.put_entry-at in
    omega (
      arith,
      end_room args.out.now (omega arith) 69 1 (omega arith) put_byte.ensures put-spaced.ensures (entry_bytes args.entry.state.0 args.entry.parent.0)
          (omega (arith, entry_any args.entry.state.0 args.entry.parent.0 (omega arith) (omega arith))) put-entry.ensures,
    )

pub returns : goal.returns
returns c =
    let args = c.args in
    let put_byte = c.put_byte-at in
    let put-spaced = c.put_spaced-at in
    let put-entry = c.put_entry-at in
    headed_line args.out.now (omega arith) 69 1 (omega arith) put_byte.ensures put-spaced.ensures (entry_bytes args.entry.state.0 args.entry.parent.0)
    (omega (arith, entry_any args.entry.state.0 args.entry.parent.0 (omega arith) (omega arith))) put-entry.ensures c.put_byte.ensures
