-- A step goes on past its place, so that the steps of a script are enough to its end; it leaves the scratch 0; and a run, one step at a time.
-- Nothing here has to be believed.
use Rattle.std.specs.Prelude.{◌≡◌, List, ℕ, zero, suc, ◌-◌, ◌<◌, ◌≤◌, length}
use Rattle.std.proofs.Math.Path.{refl}
use Rattle.std.proofs.Common.{sym, ap, ◌∙◌, lt-ltb, le-ltb}
use native.Mathlib.Omega.{arith}
use Rattle.words.specs.Numbers.{below?}
use Rattle.store.specs.Calls.{zeros}
use Rattle.format.specs.Format.{Reading, found, ended, malformed, read_at}
use Rattle.format.specs.Format.Laws.{read_forward}
use Rattle.replies.specs.Replies.{Lent, Printed}
use Rattle.replies.specs.Zeros.{Sized, wiped_zero, call_zero}
use Rattle.steps.specs.Steps.{most_bytes, After, goes, over, reading_step, step_of, onto, run_from}

never : {X : Type 0} → ◌≡◌ {A = ℕ} 0 1 → X
never e = absurd (omega arith)

pub after? : {X : Type 0} (x : After) → ((j : ℕ) → x ≡ goes j → X) → (x ≡ over → X) → X
after? (goes j) g o = g j refl
after? over g o = o refl

module _ (s : List ℕ) (i : ℕ) (l : Lent) where
  -- ---- forward

  reading_forward : (r : Reading) → read_at s i ≡ r → (j : ℕ) → (reading_step l r).after ≡ goes j → (i < j) × (j ≤ length s)
  unfolding reading_step
  reading_forward (found x k) e j q = let f = read_forward s i x k e in let g : k ≡ j = cc in (omega arith, omega arith)
  reading_forward ended e j q = never (cc)
  reading_forward malformed e j q = never (cc)

  pub step_forward : (j : ℕ) → (step_of s i l).after ≡ goes j → (i < j) × (j ≤ length s)
  unfolding step_of
  step_forward j q =
      below? most_bytes (length s)
      (λ h. let q' : over ≡ goes j = rw (lt-ltb most_bytes (length s) h, step_of) at q in never (cc))
      (λ h. reading_forward (read_at s i) refl j (rw (le-ltb most_bytes (length s) h, step_of) at q))

  -- ---- "Scratch: .. all 0 on return"; of the right length

  module _ (k : Sized l) where
    reading_zero : (r : Reading) → (reading_step l r).printed.words.scratch ≡ zeros
    unfolding reading_step
    reading_zero (found x j) = call_zero l k x
    reading_zero ended = wiped_zero l.scratch k.scratch
    reading_zero malformed = wiped_zero l.scratch k.scratch

    pub step_zero : (step_of s i l).printed.words.scratch ≡ zeros
    unfolding step_of
    step_zero =
        below? most_bytes (length s)
        (λ h. rw (lt-ltb most_bytes (length s) h, step_of) (wiped_zero l.scratch k.scratch))
        (λ h. rw (le-ltb most_bytes (length s) h, step_of) (reading_zero (read_at s i)))

  -- ---- one step of a run

  pub run_over : (k : ℕ) → (step_of s i l).after ≡ over → run_from (suc k) s i l ≡ (step_of s i l).printed
  unfolding run_from
  run_over k q = rw (q, run_from)

  pub run_next : (k j : ℕ) → (step_of s i l).after ≡ goes j
      → run_from (suc k) s i l ≡ onto (step_of s i l).printed.reply (run_from k s j (step_of s i l).printed.words)
  unfolding run_from
  run_next k j q = rw (q, run_from)

-- as many steps as there are bytes left, or more, are all of them
pub run_enough : (k m : ℕ) (s : List ℕ) (i : ℕ) (l : Lent) → length s - i < k → length s - i < m → run_from k s i l ≡ run_from m s i l
run_enough zero m s i l a b = absurd (omega arith)
run_enough (suc k) zero s i l a b = absurd (omega arith)
run_enough (suc k) (suc m) s i l a b =
    let t = step_of s i l in
    after? t.after
    (λ j q.
    let f = step_forward s i l j q in
    run_next s i l k j q
    ∙ ap (λ (p : Printed). onto t.printed.reply p) (run_enough k m s j t.printed.words (omega arith) (omega arith))
    ∙ sym (run_next s i l m j q))
    (λ q. run_over s i l k q ∙ sym (run_over s i l m q))
