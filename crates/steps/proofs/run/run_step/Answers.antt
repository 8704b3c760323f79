-- An overlong script, then by what stands at the place.
use native.Mathlib.Omega.{arith}
use mathlib.Core.Path.{sym, ap, ◌∙◌}
use mathlib.Core.List.{[]}
use Rattle.format.specs.Answers.{reading, call_in}
use Rattle.lines.specs.Lines.{refusal_line}
use Rattle.lines.specs.Laid.Laws.{wrote_none, wrote_length}
use Rattle.replies.specs.Replies.{lent}
use Rattle.steps.specs.Answers.Laws.{step_long, step_ended, step_malformed, step_found, ran_over, ran_next}
use Rattle.steps.proofs.run.run_step.Goals as goal

pub returns-then-bytes-gt-MOST_BYTES : goal.returns-then-bytes-gt-MOST_BYTES
returns-then-bytes-gt-MOST_BYTES c =
    let args = c.args in
    let refuse = c.refuse in
    let if1 = c.if-bytes-gt-MOST_BYTES in
    let words = lent args.store.now args.set.now args.stops.now args.scratch.now in record {
      as_the_step = ran_over args.out.now _ _ _ (refusal_line 9) words _ refuse.ensures.wrote refuse.ensures.scratch_after
          (step_long args.bytes.now args.at words if1.true);
      result_in_bounds = omega (arith, refuse.ensures.wrote.within, wrote_length refuse.ensures.wrote);
    }

pub returns-in-Found : goal.returns-in-Found
returns-in-Found c =
    let args = c.args in
    let run-record = c.run_record in
    let if1 = c.if-bytes-gt-MOST_BYTES in
    let decode = c.decode in
    let words = lent args.store.now args.set.now args.stops.now args.scratch.now in
    let next = c.in-Found.next in record {
      as_the_step = ran_next args.out.now _ _ _ _ next _ run-record.ensures
          (step_found args.bytes.now args.at words if1.false (call_in args.bytes.now c.in-Found.call) next
          (sym (ap (reading args.bytes.now) c.in-Found.is) ∙ decode.ensures.0));
      result_in_bounds = omega (arith, run-record.ensures.wrote.within, wrote_length run-record.ensures.wrote);
    }

pub returns-in-End : goal.returns-in-End
returns-in-End c =
    let args = c.args in
    let wipe = c.wipe in
    let if1 = c.if-bytes-gt-MOST_BYTES in
    let decode = c.decode in
    let words = lent args.store.now args.set.now args.stops.now args.scratch.now in record {
      as_the_step = ran_over args.out.now 0 _ _ [] words _ (wrote_none args.out.now 0 (omega arith)) wipe.ensures
          (step_ended args.bytes.now args.at words if1.false (sym (ap (reading args.bytes.now) c.in-End.is) ∙ decode.ensures.0));
      result_in_bounds = omega arith;
    }

pub returns-in-Malformed : goal.returns-in-Malformed
returns-in-Malformed c =
    let args = c.args in
    let refuse = c.refuse-in-Malformed in
    let if1 = c.if-bytes-gt-MOST_BYTES in
    let decode = c.decode in
    let words = lent args.store.now args.set.now args.stops.now args.scratch.now in record {
      as_the_step = ran_over args.out.now _ _ _ (refusal_line 9) words _ refuse.ensures.wrote refuse.ensures.scratch_after
          (step_malformed args.bytes.now args.at words if1.false (sym (ap (reading args.bytes.now) c.in-Malformed.is) ∙ decode.ensures.0));
      result_in_bounds = omega (arith, refuse.ensures.wrote.within, wrote_length refuse.ensures.wrote);
    }
