-- The heading, the entries, the line end: 15 bytes an entry are enough.
use native.Mathlib.Omega.{arith}
use Rattle.lines.specs.Entries.{pool_node}
use Rattle.lines.specs.Entries.Laws.{pool_room}
use Rattle.lines.specs.Lines.{entries_bytes}
use Rattle.lines.specs.Lines.Laws.{number_room, more_room, end_room, headed_line}
use Rattle.lines.proofs.inner.entries.lay_many.Goals as goal

pub put_spaced-at-requires : goal.put_spaced-at-requires
put_spaced-at-requires c =
    let args = c.args in
    let put_byte = c.put_byte-at in
    number_room args.out.now (omega arith) 69 args.n (omega arith) put_byte.ensures

pub put_entries-at-requires : goal.put_entries-at-requires
put_entries-at-requires c =
    let args = c.args in
    let put_byte = c.put_byte-at in
    let put-spaced = c.put_spaced-at in (
      c.requires,
      more_room args.out.now (omega arith) 69 args.n (omega arith) put_byte.ensures put-spaced.ensures _
          (omega (arith, pool_room args.store.now args.from args.n c.requires)),
    )

pub put_byte-requires : goal.put_byte-requires
put_byte-requires c =
    let args = c.args in
    let put_byte = c.put_byte-at in
    let put-spaced = c.put_spaced-at in
    let put_entries = c.put_entries-at in
    omega (
      arith,
      end_room args.out.now (omega arith) 69 args.n (omega arith) put_byte.ensures put-spaced.ensures
          (entries_bytes (pool_node args.store.now args.from args.n))
          (omega (arith, pool_room args.store.now args.from args.n c.requires)) put_entries.ensures,
    )

pub returns : goal.returns
returns c =
    let args = c.args in
    let put_byte = c.put_byte-at in
    let put-spaced = c.put_spaced-at in
    let put_entries = c.put_entries-at in
    headed_line args.out.now (omega arith) 69 args.n (omega arith) put_byte.ensures put-spaced.ensures
    (entries_bytes (pool_node args.store.now args.from args.n))
    (omega (arith, pool_room args.store.now args.from args.n c.requires)) put_entries.ensures c.put_byte.ensures
