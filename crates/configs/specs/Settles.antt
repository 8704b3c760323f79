-- A set made afresh and a set closed: the words that they leave. Nothing here has to be believed.
use Rattle.std.specs.Prelude.{◌≡◌, refl, Bool, eqb, get_or, Ok, Err}
use Rattle.std.proofs.Math.Path.{sym, ap}
use Rattle.std.proofs.Common.{◌∙◌, arith, length-set, get_or-set_same, get_or-set_other, eq-eqb, ne_eqb}
use Rattle.std.proofs.Math.Bool.{true, false, not}
use mathlib.Core.List.{List, []}
use Prim.Native.Nat.{ℕ, ◌<◌, ◌≤◌}
use Rattle.std.proofs.Math.ListN.{length, set, replicate, length-replicate}
use Rattle.std.proofs.lemmas.List.{get_or-replicate}
use Rattle.words.specs.Refusals.{number}
use Rattle.words.specs.declared.refusals.Refusal.{Refusal}
use Rattle.store.specs.Admit.{cleared}
use Rattle.store.specs.Calls.{zeros}
use Rattle.sets.specs.Lists.{any}
use Rattle.sets.specs.Layout.{first_config, set_words_length, config_count, flag_word}
use Rattle.sets.specs.Sets.{Set, empty_set, closed_set, has_semantic, dips}
use Rattle.sets.specs.Words.{bit, flags_of, set_words, configs_in, set_of}
use Rattle.sets.specs.Flags.{flags_are, or_fourth}
use Rattle.sets.specs.Held.{HeldSet, held_words}
use Rattle.sets.specs.Listed.{configs_agree}
use Rattle.sets.proofs.Sound.{sound_held}
use Rattle.store.specs.Checks.{given, unless}
use Rattle.store.specs.Checks.Laws.{unless_first, unless_next, clear_goes, due_given}
use Rattle.sets.specs.Calls.{refused, done, set_left, refusal, lent_lengths, lent_checks, fresh_set_call, close_call}
use Rattle.setcheck.specs.Flags.{with_flag, flag_some}
use Rattle.setcheck.specs.Opened.{OpenedSet}
use Rattle.configs.specs.Writes.{head_config, head_other}

-- ---- a fresh set

pub fresh_flags : (f : Bool) → flags_of (empty_set f) ≡ bit f 1
unfolding flags_of bit has_semantic dips any
fresh_flags true = refl
fresh_flags false = refl

empty_held : (f : Bool) (v : List ℕ) → length v ≡ set_words_length → config_count v ≡ 0 → flag_word v ≡ bit f 1
    → ((j : ℕ) → first_config ≤ j → j < set_words_length → get_or v j 0 ≡ 0) → HeldSet v (empty_set f)
unfolding configs_in
empty_held f v l c w z = record {
  sized = l;
  few = omega arith;
  count = c;
  flags = w ∙ sym (fresh_flags f);
  configs = refl;
  unused = λ j h. z j (omega arith);
}

module _ (v : List ℕ) where
  pub fresh_short : (length v ≡ set_words_length → ⊥) → (f : Bool) → (refused 2, v) ≡ fresh_set_call v f
  unfolding fresh_set_call
  fresh_short n f = sym (unless_first _ _ (given 2 (not (eqb (length v) set_words_length))) [] (ap not (ne_eqb (length v) set_words_length n)))

  module _ (l : length v ≡ set_words_length) where
    pub fresh_goes : (f : Bool) → fresh_set_call v f ≡ (done, set_words (empty_set f))
    unfolding fresh_set_call unless
    fresh_goes f = unless_next (λ n. (refused n, v)) (done, set_words (empty_set f)) (given 2 (not (eqb (length v) set_words_length))) [] (ap not (eq-eqb (length v) set_words_length l))

    zero_at : (j : ℕ) → j < set_words_length → ◌≡◌ {A = ℕ} (get_or (replicate (length v) 0) j 0) 0
    zero_at j h = get_or-replicate (length v) j 0 0 (omega arith)

    pub fresh_plain : (u : List ℕ) → u ≡ replicate (length v) 0 → (done, u) ≡ fresh_set_call v false
    unfolding config_count flag_word bit
    fresh_plain u e =
        ap (λ (x : List ℕ). (done, x)) (e ∙ held_words (replicate (length v) 0) (empty_set false)
        (empty_held false (replicate (length v) 0) (length-replicate (length v) 0 ∙ l) (zero_at 0 (omega arith)) (zero_at 1 (omega arith)) (λ j a b. zero_at j b)))
        ∙ sym (fresh_goes false)

    pub fresh_full : (u : List ℕ) → u ≡ replicate (length v) 0 → (done, set u 1 1) ≡ fresh_set_call v true
    unfolding config_count flag_word bit
    fresh_full u e =
        let z : List ℕ = replicate (length v) 0 in
        let n : length z ≡ set_words_length = length-replicate (length v) 0 ∙ l in
        ap (λ (x : List ℕ). (done, set x 1 1)) e
        ∙ ap (λ (x : List ℕ). (done, x)) (held_words (set z 1 1) (empty_set true)
        (empty_held true (set z 1 1) (length-set z 1 1 ∙ n) (get_or-set_other z 1 0 1 0 (omega arith) ∙ zero_at 0 (omega arith))
        (get_or-set_same z 1 1 0 (omega arith)) (λ j a b. head_other z 1 1 (omega arith) j a ∙ zero_at j b)))
        ∙ sym (fresh_goes true)

-- ---- a set closed

closed_flags : (S : Set) (n : ℕ) → n ≡ flags_of S → with_flag n 8 1 ≡ flags_of (closed_set S)
closed_flags S n e =
    flag_some n 8 1 (λ q. omega arith) ∙ rw (e, flags_are S, flags_are (closed_set S))
    (or_fourth S.full (has_semantic S.configs) (dips S.configs) S.closed)

closed_held : (v : List ℕ) (S : Set) → HeldSet v S → (n : ℕ) → n ≡ flag_word v → HeldSet (set v 1 (with_flag n 8 1)) (closed_set S)
unfolding config_count flag_word
closed_held v S h n e =
    let b : ℕ = with_flag n 8 1 in
    record {
      sized = length-set v 1 b ∙ h.sized;
      few = h.few;
      count = get_or-set_other v 1 0 b 0 (omega arith) ∙ h.count;
      flags = get_or-set_same v 1 b 0 (omega (arith, h.sized)) ∙ closed_flags S n (e ∙ h.flags);
      configs = configs_agree (set v 1 b) v (length S.configs) (λ i l. head_config v 1 b (omega arith) i) ∙ h.configs;
      unused = λ j p q. head_other v 1 b (omega arith) j (omega arith) ∙ h.unused j p q;
    }

module _ (w v z u : List ℕ) where
  pub close_refused : (f : Refusal) → OpenedSet w v z (Err f) u → set_left (refused (number f)) w v u ≡ close_call w v z
  unfolding close_call lent_checks
  close_refused f o = sym (due_given _ _ (number f) (lent_checks (lent_lengths w v z) w v []) [] o.0 ∙ o.1)

  pub close_done : OpenedSet w v z (Ok tt) u → (n : ℕ) → n ≡ flag_word v → (b : ℕ) → b ≡ with_flag n 8 1 → (x : List ℕ) → x ≡ replicate (length u) 0
      → set_left done w (set v 1 b) x ≡ close_call w v z
  unfolding close_call lent_checks unless
  close_done o n e b eb x ex =
      let r = o.0 in
      rw (
        eb,
        held_words (set v 1 (with_flag n 8 1)) (closed_set (set_of v)) (closed_held v (set_of v) (sound_held _ v r.sound r.sized) n e),
        ex,
        cleared u r.store.index.sized,
      )
      (sym (clear_goes (refusal w v z) (set_left done w (set_words (closed_set (set_of v))) zeros) (lent_checks (lent_lengths w v z) w v []) [] o.1))
