-- Where a script leads, step by step and with no bound on the steps: to the words of `run_of`, and to no others. Nothing here has to be believed.
use Rattle.std.specs.Prelude.{◌≡◌, List, ◌++◌, ℕ, zero, suc, ◌-◌, ◌<◌, length}
use Rattle.std.proofs.Common.{sym, ap, ◌∙◌, arith}
use Rattle.lines.specs.Lines.{end_line}
use Rattle.setreplies.specs.Replies.{Lent, Printed}
use Rattle.steps.specs.Steps.{fresh, goes, over, step_of, run_from, run_of, script_replies}
use Rattle.steps.specs.Steps.Laws.{after?, step_forward, run_over, run_next}

-- from place i on, with the words l, the script s ends with the words m
pub data Leads (s : List ℕ) : ℕ → Lent → Lent → Type 0 where
  ends : {i : ℕ} {l m : Lent} → (step_of s i l).after ≡ over → (step_of s i l).printed.words ≡ m → Leads s i l m
  steps : {i : ℕ} {l m : Lent} (j : ℕ) → (step_of s i l).after ≡ goes j → Leads s j (step_of s i l).printed.words m → Leads s i l m

-- it leads to the words of a run that is long enough
leads_from : (k : ℕ) (s : List ℕ) (i : ℕ) (l : Lent) → length s - i < k → Leads s i l (run_from k s i l).words
leads_from zero s i l h = absurd (omega arith)
leads_from (suc k) s i l h =
    let t = step_of s i l in
    after? t.after
    (λ j q.
    let f = step_forward s i l j q in
    steps j q (rw (run_next s i l k j q) (leads_from k s j t.printed.words (omega arith))))
    (λ q. ends q (sym (ap (λ (p : Printed). p.words) (run_over s i l k q))))

-- and to no others
words_from : (k : ℕ) (s : List ℕ) (i : ℕ) (l m : Lent) → length s - i < k → Leads s i l m → m ≡ (run_from k s i l).words
words_from zero s i l m h v = absurd (omega arith)
words_from (suc k) s i l m h (ends q e) = sym e ∙ sym (ap (λ (p : Printed). p.words) (run_over s i l k q))
words_from (suc k) s i l m h (steps j q v) =
    let f = step_forward s i l j q in
    words_from k s j (step_of s i l).printed.words m (omega arith) v ∙ sym (ap (λ (p : Printed). p.words) (run_next s i l k j q))

pub leads_determined : (s : List ℕ) (i : ℕ) (l m n : Lent) → Leads s i l m → Leads s i l n → m ≡ n
leads_determined s i l m n v w =
    words_from (suc (length s)) s i l m (omega arith) v ∙ sym (words_from (suc (length s)) s i l n (omega arith) w)

pub run_leads : (s : List ℕ) → Leads s 0 fresh (run_of s).words
unfolding run_of
run_leads s = leads_from (suc (length s)) s 0 fresh (omega arith)

-- "The end line is `T` contexts, pool entries": of the store that the script leads to
pub end_line_lem : (s : List ℕ) (m : Lent) → Leads s 0 fresh m → script_replies s ≡ (run_of s).reply ++ end_line m.store
unfolding script_replies
end_line_lem s m v = ap (λ (x : Lent). (run_of s).reply ++ end_line x.store) (leads_determined s 0 fresh (run_of s).words m (run_leads s) v)
