-- Readers who choose each call by what they have seen make alone the same calls and see the same. Nothing here has to be believed.
use Rattle.std.specs.Prelude.{◌≡◌, refl, true, false, List, [], ◌∷◌, ◌++◌, ℕ, suc, eqb}
use Rattle.std.proofs.Common.{sym, ap, ◌∙◌, subst, eq-eqb, ne_eqb}
use Rattle.arena.specs.Numbers.{two}
use Rattle.arena.specs.Rules.{Stacks}
use Rattle.arena.specs.Store.{Store}
use Rattle.groups.specs.Lists.{which}
use Rattle.readers.specs.Calls.{Call, Lent, Sized, Got, refused, Reader}
use Rattle.readers.specs.Runs.{see, By, put, fresh_store, starting, only, Roomy, Served}
use Rattle.readers.proofs.Programs.{Program, play_from, play, turns_of}
use Rattle.readers.proofs.Twins.{Own, Both, after}
use Rattle.readers.proofs.Turns.{roomy, moved, put_same, put_other, Inside, stays_inside, others_turn, own_turn}
use Rattle.readers.proofs.Alone.{Shown, seen_is, shown_after, first, beginner, start_both, start_shown}

-- ---- over stores and sets

unfoldable pure_from : (ℕ → Program) → Store → (ℕ → Own) → (ℕ → List (Got Stacks)) → List ℕ → List (By (Got Stacks))
pure_from P s Ps seen [] = []
pure_from P s Ps seen (i ∷ turns) =
    let D = after s (Ps i) (P i (seen i)) in
    let got = see D.store D.got in
    record { reader = i; what = got } ∷ pure_from P D.store (put Ps i (moved (Ps i) D)) (put seen i (seen i ++ (got ∷ []))) turns

alone_from : (P : ℕ → Program) (i : ℕ) (turns : List ℕ) (s t : Store) (Ps Qs : ℕ → Own) (seen seen' : ℕ → List (Got Stacks))
    → Inside s Ps → Both s t (Ps i) (Qs i) → seen i ≡ seen' i
    → Roomy (only i (pure_from P s Ps seen turns)) → Roomy (pure_from P t Qs seen' (turns_of i turns))
    → only i (pure_from P s Ps seen turns) ≡ pure_from P t Qs seen' (turns_of i turns)
unfolding pure_from which
alone_from P i [] s t Ps Qs seen seen' inside h q a b = refl
alone_from P i (k ∷ turns) s t Ps Qs seen seen' inside h q a b =
    let x = P k (seen k) in
    let D = after s (Ps k) x in
    let got = see D.store D.got in
    let kept = stays_inside s Ps inside k x in
    two k i
    (λ e.
    let own : eqb k i ≡ true = eq-eqb k i e in
    let same : seen' k ≡ seen k = ap seen' e ∙ sym q ∙ ap seen (sym e) in
    let a' : Served got × Roomy (only i (pure_from P D.store (put Ps k (moved (Ps k) D)) (put seen k (seen k ++ (got ∷ []))) turns)) = rw (own, which) at a in
    let b' : Roomy (pure_from P t Qs seen' (k ∷ turns_of i turns)) = rw (own, which) at b in
    let b'' = rw same at b' in
    let turn = own_turn s Ps inside k x t Qs (roomy D a'.0) (roomy (after t (Qs k) x) b''.0) i e h in
    let known = put_same seen k _ i (sym e) ∙ sym (put_same seen' k _ i (sym e)) in
    rw (own, which, same, turn.0, alone_from P i turns _ _ _ _ _ _ kept turn.1 known (rw turn.0 at a'.1) b''.1))
    (λ n.
    let other : eqb k i ≡ false = ne_eqb k i n in
    rw (other, which)
    (alone_from P i turns _ t _ Qs _ seen' kept (others_turn s Ps inside k x t (Qs i) i n h)
    (put_other seen k _ i (λ e. n (sym e)) ∙ q) (rw (other, which) at a) (rw (other, which) at b)))

-- ---- over words

play_is : (P : ℕ → Program) (lent : ℕ → Lent) → ((n : ℕ) → Sized (lent n)) → (n : ℕ) (w : List ℕ) (Rs : ℕ → Reader) (s : Store) (Ps : ℕ → Own)
    → Shown w Rs s Ps → (seen : ℕ → List (Got Stacks)) (turns : List ℕ) → play_from P lent n w Rs seen turns ≡ pure_from P s Ps seen turns
unfolding play_from pure_from
play_is P lent sized n w Rs s Ps h seen [] = refl
play_is P lent sized n w Rs s Ps h seen (k ∷ turns) =
    rw (
      seen_is (lent n) (sized n) w Rs s Ps h k (P k (seen k)),
      play_is P lent sized (suc n) _ _ _ _ (shown_after (lent n) (sized n) w Rs s Ps h k (P k (seen k))) _ turns,
    )

start_is : (P : ℕ → Program) (lent : ℕ → Lent) → ((n : ℕ) → Sized (lent n)) → (turns : List ℕ) → play P lent turns ≡ pure_from P first (λ j. beginner) (λ j. []) turns
unfolding play
start_is P lent sized turns = play_is P lent sized 0 fresh_store (λ j. starting) first (λ j. beginner) start_shown (λ j. []) turns

-- Readers who decide by what they see get, shared, what they get alone.
pub decided_as_if_alone : (P : ℕ → Program) (i : ℕ) (turns : List ℕ) (lent lent' : ℕ → Lent) → ((n : ℕ) → Sized (lent n)) → ((n : ℕ) → Sized (lent' n))
    → Roomy (only i (play P lent turns)) → Roomy (play P lent' (turns_of i turns)) → only i (play P lent turns) ≡ play P lent' (turns_of i turns)
decided_as_if_alone P i turns lent lent' sized sized' a b =
    let shared = start_is P lent sized turns in
    let lone = start_is P lent' sized' (turns_of i turns) in
    ap (only i) shared
    ∙ alone_from P i turns first first (λ j. beginner) (λ j. beginner) (λ j. []) (λ j. []) (λ j. start_both) start_both refl
    (subst (λ (l : List (By (Got Stacks))). Roomy (only i l)) shared a) (subst Roomy lone b)
    ∙ sym lone
