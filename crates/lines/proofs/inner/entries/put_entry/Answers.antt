-- `$`, or the state, `>` and the parent.
use native.Mathlib.Omega.{arith}
use mathlib.Core.Path.{ap}
use mathlib.Core.List.{◌∷◌}
use lib.ListN.{length, length-append}
use Rattle.lines.specs.Decimal.{decimal}
use Rattle.lines.specs.Lines.{spaced}
use Rattle.lines.specs.Entries.Laws.{entry_stop, entry_more}
use Rattle.lines.specs.Laid.Laws.{wrote_then, wrote_length}
use Rattle.lines.proofs.inner.entries.put_entry.Goals as goal

pub put_byte-at-requires : goal.put_byte-at-requires
put_byte-at-requires c =
    let args = c.args in
    omega (arith, ap length (entry_stop args.entry.state.0 args.entry.parent.0 c.if-entry-eq-COMPACT_EMPTY_RETURN_STATE.true), c.requires)

pub put_byte-requires : goal.put_byte-requires
put_byte-requires c =
    let args = c.args in
    let pre = c.requires in
    let if1 = c.if-entry-eq-COMPACT_EMPTY_RETURN_STATE in
    let put_byte = c.put_byte-at in
    omega (arith, ap length (entry_stop args.entry.state.0 args.entry.parent.0 if1.true), pre, put_byte.ensures.after, wrote_length put_byte.ensures)

pub returns-then-entry-eq-COMPACT_EMPTY_RETURN_STATE : goal.returns-then-entry-eq-COMPACT_EMPTY_RETURN_STATE
returns-then-entry-eq-COMPACT_EMPTY_RETURN_STATE c =
    let args = c.args in
    let if1 = c.if-entry-eq-COMPACT_EMPTY_RETURN_STATE in
    let put_byte = c.put_byte-at in
    rw (entry_stop args.entry.state.0 args.entry.parent.0 if1.true) (wrote_then put_byte.ensures c.put_byte.ensures)

pub put_spaced-at-requires : goal.put_spaced-at-requires
put_spaced-at-requires c =
    let args = c.args in
    omega (
      arith,
      ap length (entry_more args.entry.state.0 args.entry.parent.0 c.if-entry-eq-COMPACT_EMPTY_RETURN_STATE.false),
      length-append (spaced args.entry.state.0)
          (62 ∷ decimal args.entry.parent.0),
      c.requires,
    )

pub put_byte-at-requires-2 : goal.put_byte-at-requires-2
put_byte-at-requires-2 c =
    let args = c.args in
    let pre = c.requires in
    let if1 = c.if-entry-eq-COMPACT_EMPTY_RETURN_STATE in
    let put-spaced = c.put_spaced-at in
    omega (
      arith,
      ap length (entry_more args.entry.state.0 args.entry.parent.0 if1.false),
      length-append (spaced args.entry.state.0)
          (62 ∷ decimal args.entry.parent.0),
      pre,
      put-spaced.ensures.after,
      wrote_length put-spaced.ensures,
    )

pub put_decimal-requires : goal.put_decimal-requires
put_decimal-requires c =
    let args = c.args in
    let pre = c.requires in
    let if1 = c.if-entry-eq-COMPACT_EMPTY_RETURN_STATE in
    let put-spaced = c.put_spaced-at in
    let put-byte3 = c.put_byte-at-2 in
    omega (
      arith,
      ap length (entry_more args.entry.state.0 args.entry.parent.0 if1.false),
      length-append (spaced args.entry.state.0)
          (62 ∷ decimal args.entry.parent.0),
      pre,
      put-spaced.ensures.after,
      wrote_length put-spaced.ensures,
      put-byte3.ensures.after,
      wrote_length put-byte3.ensures,
    )

pub returns : goal.returns
returns c =
    let args = c.args in
    let if1 = c.if-entry-eq-COMPACT_EMPTY_RETURN_STATE in
    let put-spaced = c.put_spaced-at in
    let put-byte3 = c.put_byte-at-2 in
    rw (entry_more args.entry.state.0 args.entry.parent.0 if1.false)
    (wrote_then put-spaced.ensures (wrote_then put-byte3.ensures c.put_decimal.ensures))
