-- Steps that were made so far, from the fresh words on, and where they lead. Nothing here has to be believed.
use Rattle.std.specs.Prelude.{◌≡◌, true, length, replicate, take}
use Rattle.std.proofs.Math.Path.{sym, ap}
use Rattle.std.proofs.Common.{◌∙◌, eq-eqb}
use mathlib.Core.List.{List, [], ◌∷◌, ◌++◌, append_assoc}
use Prim.Native.Nat.{ℕ, suc, ◌+◌, ◌≤◌}
use native.Mathlib.Omega.{arith}
use Rattle.layout.specs.Store.{dollar}
use Rattle.layout.specs.Layout.{store_words, scratch_words, blank}
use Rattle.layout.specs.Encode.{words_of}
use Rattle.store.specs.Calls.{Reply, fresh_call}
use Rattle.store.specs.Checks.{unless}
use Rattle.store.specs.Admit.{cleared}
use Rattle.sets.specs.Layout.{set_words_length}
use Rattle.sets.specs.Sets.{empty_set}
use Rattle.sets.specs.Words.{set_words}
use Rattle.sets.specs.Calls.{SetReply, fresh_set_call}
use Rattle.sets.specs.Calls.{done as setDone}
use Rattle.lines.specs.Laid.{laid}
use Rattle.lines.specs.Laid.Laws.{length_laid, take_laid}
use Rattle.lines.specs.Lines.{end_line}
use Rattle.store.proofs.FreshWords.{fresh_goes}
use Rattle.steps.specs.declared.run.Ran.{Ran}
use Rattle.steps.specs.Answers.{after_of, wrote_of, Behind, behind, laid_out}
use Rattle.replies.specs.Replies.{Lent, lent, Printed}
use Rattle.steps.specs.Steps.{fresh, goes, over, step_of, onto, run_from, run_of, script_replies}
use Rattle.steps.specs.Steps.Laws.{after?, step_forward, run_over, run_next, run_enough}

-- ---- the start

-- a fresh store, a fresh set, cleared stop states and a cleared scratch are what a script starts from
pub fresh_is : (w u : List ℕ) (r : Reply) → (r, u) ≡ fresh_call w → length w ≡ store_words
    → (v s : List ℕ) (a : SetReply) → (a, s) ≡ fresh_set_call v true → length v ≡ set_words_length
    → (t : List ℕ) → t ≡ replicate 65 0 → (y z : List ℕ) → z ≡ replicate (length y) 0 → length y ≡ scratch_words → lent u s t z ≡ fresh
unfolding fresh fresh_set_call unless blank
fresh_is w u r e lw v s a f lv t g y z q ly =
    let store : u ≡ words_of (dollar ∷ []) = ap (λ (x : Reply × List ℕ). x.1) (e ∙ fresh_goes w lw) in
    let fresh : fresh_set_call v true ≡ (setDone, set_words (empty_set true)) = rw (eq-eqb (length v) set_words_length lv, unless) in
    let set : s ≡ set_words (empty_set true) = ap (λ (x : SetReply × List ℕ). x.1) (f ∙ fresh) in
    rw (store, set, g, q ∙ cleared y ly)

-- ---- one step

-- the step at place i, with the words l, answered r, left the buffer u, and left the words m
pub record Step (s : List ℕ) (i : ℕ) (l : Lent) (r : Ran) (u : List ℕ) (m : Lent) : Type 0 where
  pub after : (step_of s i l).after ≡ after_of r
  pub wrote : wrote_of r ≡ length (step_of s i l).printed.reply
  pub reply : take (wrote_of r) u ≡ (step_of s i l).printed.reply
  pub words : (step_of s i l).printed.words ≡ m

pub step_is : (s : List ℕ) (i : ℕ) (l : Lent) (b : List ℕ) (r : Ran) (u : List ℕ) (m : Lent) → behind r u m ≡ laid_out b (step_of s i l)
    → wrote_of r ≤ length u → Step s i l r u m
step_is s i l b r u m e room =
    let x = (step_of s i l).printed.reply in
    let n : wrote_of r ≡ length x = ap (λ (y : Behind). y.wrote) e in
    let o : u ≡ laid b 0 x = ap (λ (y : Behind). y.buffer) e in
    record {
      after = sym (ap (λ (y : Behind). y.after) e);
      wrote = n;
      reply =
          ap (λ (k : ℕ). take k u) n
          ∙ ap (take (length x)) o
          ∙ take_laid b x (omega (arith, n, ap length o, length_laid b 0 x));
      words = sym (ap (λ (y : Behind). y.words) e);
    }

-- ---- steps made so far

-- n steps of the script s printed r, and it stands at place i with the words l
pub record Made (s : List ℕ) (n : ℕ) (r : List ℕ) (i : ℕ) (l : Lent) : Type 0 where
  pub inside : i ≤ length s
  pub rest : (m : ℕ) → run_from (n + m) s 0 fresh ≡ onto r (run_from m s i l)

pub made_start : (s : List ℕ) → Made s 0 [] 0 fresh
made_start s = record {
  inside = omega arith;
  rest = λ m. let e : 0 + m ≡ m = omega arith in ap (λ (k : ℕ). run_from k s 0 fresh) e;
}

module _ (s : List ℕ) (n : ℕ) (r : List ℕ) (i : ℕ) (l : Lent) (v : Made s n r i l) where
  -- one step more
  pub made_next : (j : ℕ) → (step_of s i l).after ≡ goes j → Made s (n + 1) (r ++ (step_of s i l).printed.reply) j (step_of s i l).printed.words
  made_next j q = record {
    inside = (step_forward s i l j q).1;
    rest = λ m.
        let t = (step_of s i l).printed in
        let e : n + 1 + m ≡ n + suc m = omega arith in
        let p = run_from m s j t.words in
        ap (λ (k : ℕ). run_from k s 0 fresh) e
        ∙ v.rest (suc m)
        ∙ ap (onto r) (run_next s i l m j q)
        ∙ ap (λ (x : List ℕ). record { reply = x; words = p.words }) (sym (append_assoc r t.reply p.reply));
  }

  -- the words that n steps lead to
  pub made_words : l ≡ (run_from n s 0 fresh).words
  unfolding run_from
  made_words =
      let e : n + 0 ≡ n = omega arith in
      sym (ap (λ (p : Printed). p.words) (v.rest 0)) ∙ ap (λ (k : ℕ). (run_from k s 0 fresh).words) e

  -- the whole run begins with them
  made_whole : run_of s ≡ onto r (run_from (suc (length s)) s i l)
  unfolding run_of
  made_whole =
      run_enough (suc (length s)) (n + suc (length s)) s 0 fresh (omega arith) (omega arith) ∙ v.rest (suc (length s))

  -- the last step
  pub made_over_lem : (step_of s i l).after ≡ over → run_of s ≡ onto r (step_of s i l).printed
  made_over_lem q = made_whole ∙ ap (onto r) (run_over s i l (length s) q)

  -- the script prints r, the reply of the next step, and more
  pub made_reply : (rest : List ℕ) × (script_replies s ≡ (r ++ (step_of s i l).printed.reply) ++ rest)
  unfolding script_replies
  made_reply =
      let t = (step_of s i l).printed in
      let end = end_line (run_of s).words.store in
      after? (step_of s i l).after
      (λ j q.
      let p = (run_from (length s) s j t.words).reply in
      (p ++ end, ap (λ (x : Printed). x.reply ++ end) (made_whole ∙ ap (onto r) (run_next s i l (length s) j q)) ∙ regroup t.reply p end))
      (λ q. (end, ap (λ (x : Printed). x.reply ++ end) (made_over_lem q)))
    where
      regroup : (x p e : List ℕ) → (r ++ (x ++ p)) ++ e ≡ (r ++ x) ++ (p ++ e)
      regroup x p e = simp append_assoc
