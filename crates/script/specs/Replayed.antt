-- A recorded answer compared with a script's replies, step by step. Nothing here has to be believed.
use Rattle.std.specs.Prelude.{◌≡◌, Bool, true, false, ℕ, ◌+◌, ◌-◌, ◌≤◌, min, length, drop}
use Rattle.std.proofs.Common.{sym, ◌∙◌, arith, length-take, length-drop, take-add}
use Rattle.std.proofs.Math.Path.{ap}
use mathlib.Core.List.{List, ◌++◌, append_assoc}
use Rattle.std.proofs.Math.ListN.{take}
use Rattle.std.proofs.Math.Seq.{take-append_seam}
use Rattle.lines.specs.Check.{Tells}
use Rattle.lines.specs.Lines.{end_line}
use Rattle.steps.specs.declared.run.Ran.{Ran}
use Rattle.steps.specs.Answers.{after_of, wrote_of}
use Rattle.setreplies.specs.Replies.{Lent, Printed}
use Rattle.steps.specs.Steps.{fresh, goes, over, step_of, script_replies}
use Rattle.steps.specs.Made.{Step, Made, made_start, made_next, made_over_lem, made_reply}
use Rattle.agreeing.specs.Agreeing.{follows}

-- ---- one step

-- the first n bytes of the answer a are what the script s printed so far, and it stands at place i with the words l
pub record Told (s a : List ℕ) (i n : ℕ) (l : Lent) : Type 0 where
  pub within : n ≤ length a
  pub steps : ℕ
  pub made : Made s steps (take n a) i l

pub told_start : (s a : List ℕ) (l : Lent) → l ≡ fresh → Told s a 0 0 l
told_start s a l e = rw e (record { within = omega arith; steps = 0; made = made_start s })

module _ {s a : List ℕ} {i n : ℕ} {l : Lent} (v : Told s a i n l) {r : Ran} {u : List ℕ} {m : Lent} (p : Step s i l r u m) where
  -- the next bytes of the answer are not the reply
  pub told_not : (take (wrote_of r) (drop n a) ≡ take (wrote_of r) u → ⊥) → a ≡ script_replies s → ⊥
  told_not differs x =
      let reply = (step_of s i l).printed.reply in
      let o = made_reply s v.steps (take n a) i l v.made in
      let d : drop n a ≡ reply ++ o.0 = follows a n v.within (reply ++ o.0) (x ∙ o.1 ∙ append_assoc (take n a) reply o.0) in
      differs (ap (λ (k : ℕ). take k (drop n a)) p.wrote ∙ ap (take (length reply)) d ∙ take-append_seam reply o.0 ∙ sym p.reply)

  -- they are
  module _ (same : take (wrote_of r) (drop n a) ≡ take (wrote_of r) u) where
    pub told_within : n + wrote_of r ≤ length a
    told_within =
        let e : min (wrote_of r) (length a - n) ≡ wrote_of r =
        ap (min (wrote_of r)) (sym (length-drop n a))
        ∙ sym (length-take (wrote_of r) (drop n a))
        ∙ ap length (same ∙ p.reply)
        ∙ sym p.wrote in
        omega (arith, v.within)

    told_bytes : take n a ++ (step_of s i l).printed.reply ≡ take (n + wrote_of r) a
    told_bytes = ap (λ (x : List ℕ). take n a ++ x) (sym (same ∙ p.reply)) ∙ sym (take-add n (wrote_of r) a)

    pub told_next : (j : ℕ) → after_of r ≡ goes j → Told s a j (n + wrote_of r) m
    told_next j q = record {
      within = told_within;
      steps = v.steps + 1;
      made = rw (told_bytes, p.words) at (made_next s v.steps (take n a) i l v.made j (p.after ∙ q));
    }

    pub told_over : after_of r ≡ over → script_replies s ≡ take (n + wrote_of r) a ++ end_line m.store
    unfolding script_replies
    told_over q =
        ap (λ (x : Printed). x.reply ++ end_line x.words.store) (made_over_lem s v.steps (take n a) i l v.made (p.after ∙ q))
        ∙ ap (λ (x : List ℕ). x ++ end_line (step_of s i l).printed.words.store) told_bytes
        ∙ ap (λ (x : Lent). take (n + wrote_of r) a ++ end_line x.store) p.words

-- the verdict on the last line is that on the whole answer
pub told_all : (s a : List ℕ) (x : List ℕ) (t : Bool) → script_replies s ≡ x → Tells (a ≡ x) t → Tells (a ≡ script_replies s) t
told_all s a x true v k = k ∙ sym v
told_all s a x false v k = λ e. k (e ∙ v)
