-- The lines show the figures, and their sum is `T`'s count of contexts less 1. Nothing here has to be believed.
use Rattle.std.specs.Prelude.{◌≡◌, Bool, ℕ, zero, suc, ◌+◌, ◌-◌, ◌≤◌, length}
use Rattle.std.proofs.Math.Path.{refl, ap}
use mathlib.Core.List.{List, []}
use native.Mathlib.Omega.{arith}
use Rattle.std.proofs.Common.{lt-ltb, le-ltb}
use Rattle.words.specs.Numbers.{below?, never}
use Rattle.layout.specs.Layout.{blank, used, count as contexts}
use Rattle.layout.specs.Encode.{put_counts, put_node, written, words_of}
use Rattle.store.specs.Checks.Laws.{by_unless}
use Rattle.store.specs.Calls.{Left, refusal, done, asked}
use Rattle.store.specs.Calls.Laws.{refusal_store}
use Rattle.sets.specs.Config.{Config}
use Rattle.sets.specs.Calls.{SetLeft, add_call, close_call}
use Rattle.sets.proofs.Refusals.{refusal_keeps}
use Rattle.interning.specs.SingletonCall.{singleton_call}
use Rattle.interning.proofs.Promises.{singleton_figure}
use Rattle.configs.specs.MergeCall.{merge_call}
use Rattle.configs.specs.Promises.{merge_figure}
use Rattle.configs.proofs.Sentences.{add_figure}
use Rattle.format.specs.Format.{Record, singleton, merge, new_set, add, stops, verdict, show, close, why, Reading, found, ended, malformed, read_at}
use Rattle.lines.specs.Lines.{numbers_line, end_line}
use Rattle.replies.specs.Replies.{Lent, line_of, set_line_of, new_set_call, call_of}
use Rattle.steps.specs.Steps.{most_bytes, fresh, goes, over, reading_step, step_of, run_from, run_of}
use Rattle.steps.specs.Steps.Laws.{after?, run_over, run_next}
use Rattle.steps.specs.ContextsMade.{made_by, sum_from, sum_of}

module _ (l : Lent) where
  -- ---- what is printed is what was made: on a refusal's line the figure does not stand

  pub singleton_prints : (p r : ℕ) → let call = call_of l (singleton p r) in call.reply ≡ line_of [] (made_by l call) (singleton_call l.store l.scratch p r).reply
  unfolding call_of
  singleton_prints p r =
      let x = singleton_call l.store l.scratch p r in
      let e : x.made ≡ contexts x.store - contexts l.store = omega (arith, singleton_figure l.store l.scratch p r) in
      ap (λ (k : ℕ). line_of [] k x.reply) e

  pub merge_prints : (a b : ℕ) (m : Bool) → let call = call_of l (merge a b m) in call.reply ≡ line_of [] (made_by l call) (merge_call l.store l.scratch a b m).reply
  unfolding call_of
  merge_prints a b m =
      let x = merge_call l.store l.scratch a b m in
      let e : x.made ≡ contexts x.store - contexts l.store = omega (arith, merge_figure l.store l.scratch a b m) in
      ap (λ (k : ℕ). line_of [] k x.reply) e

  pub add_prints : (x : Config) → let call = call_of l (add x) in call.reply ≡ set_line_of [] (made_by l call) (add_call l.store l.set l.scratch x).reply
  unfolding call_of
  add_prints x =
      let y = add_call l.store l.set l.scratch x in
      let e : y.made ≡ contexts y.store - contexts l.store = omega (arith, add_figure l.store l.set l.scratch x) in
      ap (λ (k : ℕ). set_line_of [] k y.reply) e

  -- ---- one step: no context goes

  shown_store : (c : ℕ) → (asked l.store l.scratch c done).store ≡ l.store
  unfolding asked
  shown_store c = by_unless (refusal l.store l.scratch) _ (λ (x : Left). x.store ≡ l.store) (refusal_store l.store l.scratch) refl _

  closed_store : (close_call l.store l.set l.scratch).store ≡ l.store
  unfolding close_call
  closed_store = by_unless _ _ (λ (x : SetLeft). x.store ≡ l.store) (λ n. (refusal_keeps l.store l.set l.scratch n).0) refl _

  call_keeps : (r : Record) → contexts l.store ≤ contexts (call_of l r).words.store
  unfolding call_of new_set_call
  call_keeps (singleton p r) = omega (arith, singleton_figure l.store l.scratch p r)
  call_keeps (merge a b m) = omega (arith, merge_figure l.store l.scratch a b m)
  call_keeps (new_set m) = omega arith
  call_keeps (add x) = omega (arith, add_figure l.store l.set l.scratch x)
  call_keeps (stops xs) = omega arith
  call_keeps verdict = omega arith
  call_keeps (show c) = omega (arith, ap contexts (shown_store c))
  call_keeps close = omega (arith, ap contexts closed_store)
  call_keeps why = omega arith

  reading_keeps : (x : Reading) → contexts l.store ≤ contexts (reading_step l x).printed.words.store
  unfolding reading_step
  reading_keeps (found r j) = call_keeps r
  reading_keeps ended = omega arith
  reading_keeps malformed = omega arith

  reading_over : (x : Reading) → (reading_step l x).after ≡ over → (reading_step l x).printed.words.store ≡ l.store
  unfolding reading_step
  reading_over (found r j) e = never (cc)
  reading_over ended e = refl
  reading_over malformed e = refl

module _ (s : List ℕ) (i : ℕ) (l : Lent) where
  step_keeps : contexts l.store ≤ contexts (step_of s i l).printed.words.store
  unfolding step_of
  step_keeps =
      below? most_bytes (length s)
      (λ h. rw (lt-ltb most_bytes (length s) h, step_of) (omega arith))
      (λ h. rw (le-ltb most_bytes (length s) h, step_of) (reading_keeps l (read_at s i)))

  step_over : (step_of s i l).after ≡ over → (step_of s i l).printed.words.store ≡ l.store
  unfolding step_of
  step_over q =
      below? most_bytes (length s)
      (λ h. rw (lt-ltb most_bytes (length s) h, step_of))
      (λ h. rw (le-ltb most_bytes (length s) h, step_of) (reading_over l (read_at s i) (rw (le-ltb most_bytes (length s) h, step_of) at q)))

  sum_over : (k : ℕ) → (step_of s i l).after ≡ over → sum_from (suc k) s i l ≡ 0
  unfolding sum_from
  sum_over k q = rw (q, sum_from)

  sum_next : (k j : ℕ) → (step_of s i l).after ≡ goes j → sum_from (suc k) s i l ≡ made_by l (step_of s i l).printed + sum_from k s j (step_of s i l).printed.words
  unfolding sum_from
  sum_next k j q = rw (q, sum_from)

-- ---- the sum

sum_from_lem : (k : ℕ) (s : List ℕ) (i : ℕ) (l : Lent) → contexts l.store + sum_from k s i l ≡ contexts (run_from k s i l).words.store
unfolding sum_from run_from
sum_from_lem zero s i l = omega arith
sum_from_lem (suc k) s i l =
    let t = step_of s i l in
    after? t.after
    (λ j q. rw (run_next s i l k j q) (omega (arith, sum_next s i l k j q, step_keeps s i l, sum_from_lem k s j t.printed.words)))
    (λ q. rw (run_over s i l k q) (omega (arith, sum_over s i l k q, ap contexts (step_over s i l q))))

fresh_contexts : contexts fresh.store ≡ 1
unfolding fresh contexts words_of written put_counts put_node blank
fresh_contexts = refl

-- the sum of all figures is `T`'s count of contexts less 1
pub sum_of_figures : (s : List ℕ) → contexts (run_of s).words.store ≡ 1 + sum_of s
unfolding run_of sum_of
sum_of_figures s = omega (arith, sum_from_lem (suc (length s)) s 0 fresh, fresh_contexts)

-- as the end line says it
pub sum_printed : (s : List ℕ) → end_line (run_of s).words.store ≡ numbers_line 84 (1 + sum_of s) (used (run_of s).words.store)
unfolding end_line
sum_printed s = ap (λ (n : ℕ). numbers_line 84 n (used (run_of s).words.store)) (sum_of_figures s)
