-- Demand 3's middle sentence, over the library's calls: `as_if_alone`. A run over words is a run over the stores and sets that they hold.
-- Nothing here has to be believed.
use Rattle.std.specs.Prelude.{◌≡◌, refl, Bool, true, false, List, [], ◌∷◌, ◌++◌, ℕ, suc, eqb, length}
use Rattle.std.proofs.Common.{sym, ap, ◌∙◌, subst, arith, eq-eqb}
use Rattle.arena.specs.Numbers.{two}
use Rattle.arena.specs.Rules.{Stacks}
use Rattle.arena.specs.Store.{Store, dollar}
use Rattle.encoding.specs.Layout.{store_words, blank}
use Rattle.encoding.specs.Decode.{store_of}
use Rattle.encoding.specs.Encode.{words_of}
use Rattle.encoding.specs.Good.Laws.{fresh_good}
use Rattle.encoding.specs.Encoded.{store_of_words}
use Rattle.encoding.specs.Writes.{length_blank}
use Rattle.store.specs.Calls.{Reply}
use Rattle.store.proofs.FreshWords.{fresh_goes}
use Rattle.sets.specs.Lists.{all}
use Rattle.sets.specs.Layout.{set_words_length}
use Rattle.sets.specs.Sets.{empty_set}
use Rattle.sets.specs.Words.{set_words, distinct, good_set}
use Rattle.sets.specs.Calls.{SetReply}
use Rattle.configs.specs.Settles.{fresh_goes as fresh-set-goes}
use Rattle.groups.proofs.Renamed.{none, more}
use Rattle.groups.specs.Lists.{which}
use Rattle.readers.specs.Calls.{Call, Lent, Sized, Got, refused, Reader, Done, step}
use Rattle.readers.specs.Runs as Runs
use Rattle.readers.specs.Runs.{see, By, put, run_from, fresh_store, starting, run, only, Roomy}
use Rattle.readers.proofs.Pure.{State, words_after, step_is}
use Rattle.readers.proofs.Kept.{Good}
use Rattle.readers.proofs.Alike.{set}
use Rattle.readers.proofs.Twins.{Like, Own, Both, after}
use Rattle.readers.proofs.Turns.{moved, put_same, put_other, known_left, after_left, Inside, stays_inside, pure_from, alone_from}

-- ---- what words hold

abbrev pub reader_of : Own → Reader
reader_of P = record { set = set_words P.set; names = P.names }

-- the words of a store that the readers share, and of the readers
pub record Shown (w : List ℕ) (Rs : ℕ → Reader) (s : Store) (Ps : ℕ → Own) : Type 0 where
  pub store : w ≡ words_of s
  pub readers : (j : ℕ) → Rs j ≡ reader_of (Ps j)
  pub inside : Inside s Ps

-- reader k's call
module _ (L : Lent) (sized : Sized L) (w : List ℕ) (Rs : ℕ → Reader) (s : Store) (Ps : ℕ → Own) (h : Shown w Rs s Ps) (k : ℕ) (x : Call) where
  abbrev made : State
  made = after s (Ps k) x

  pub call_is : step L w (Rs k) x ≡ words_after made
  call_is =
      let here = h.inside k in
      ap (λ (u : List ℕ). step L u (Rs k) x) h.store ∙ ap (λ (R : Reader). step L (words_of s) R x) (h.readers k)
      ∙ step_is s here.left.store (Ps k).set here.left.set L sized (Ps k).names (known_left s s (Ps k) (Ps k) here) x

  pub seen_is : see (store_of (step L w (Rs k) x).store) (step L w (Rs k) x).got ≡ see made.store made.got
  seen_is =
      let good = (after_left s s (Ps k) (Ps k) (h.inside k) x).good.store in
      ap (λ (D : Done). see (store_of D.store) D.got) call_is ∙ ap (λ (u : Store). see u made.got) (store_of_words made.store good)

  own_is : Runs.after (Rs k) (step L w (Rs k) x) ≡ reader_of (moved (Ps k) made)
  own_is = ap (λ (D : Done). Runs.after (Rs k) D) call_is ∙ ap (λ (R : Reader). Runs.after R (words_after made)) (h.readers k)

  pub shown_after : Shown (step L w (Rs k) x).store (put Rs k (Runs.after (Rs k) (step L w (Rs k) x))) made.store (put Ps k (moved (Ps k) made))
  shown_after = record {
    store = ap (λ (D : Done). D.store) call_is;
    readers = λ j.
        two j k
        (λ e. put_same Rs k _ j e ∙ own_is ∙ ap reader_of (sym (put_same Ps k (moved (Ps k) made) j e)))
        (λ n. put_other Rs k _ j n ∙ h.readers j ∙ ap reader_of (sym (put_other Ps k (moved (Ps k) made) j n)));
    inside = stays_inside s Ps h.inside k x;
  }

run_is : (lent : ℕ → Lent) → ((n : ℕ) → Sized (lent n)) → (n : ℕ) (w : List ℕ) (Rs : ℕ → Reader) (s : Store) (Ps : ℕ → Own) → Shown w Rs s Ps
    → (xs : List (By Call)) → run_from lent n w Rs xs ≡ pure_from s Ps xs
unfolding run_from pure_from
run_is lent sized n w Rs s Ps h [] = refl
run_is lent sized n w Rs s Ps h (x ∷ xs) =
    rw (
      seen_is (lent n) (sized n) w Rs s Ps h x.reader x.what,
      run_is lent sized (suc n) _ _ _ _ (shown_after (lent n) (sized n) w Rs s Ps h x.reader x.what) xs,
    )

-- ---- from the start

abbrev pub first : Store
first = dollar ∷ []

abbrev pub beginner : Own
beginner = record { set = empty_set true; names = 0 ∷ [] }

first_good : Good first (empty_set true)
unfolding good_set all distinct
first_good = record { store = fresh_good; set = refl }

root_alike : Like first first 0 0
root_alike = record { left = omega arith; right = omega arith; same = refl }

pub start_both : Both first first beginner beginner
start_both = record {
  left = first_good;
  right = first_good;
  zeros = root_alike;
  names = more root_alike none;
  sets = set (empty_set true) none;
}

pub start_shown : Shown fresh_store (λ i. starting) first (λ i. beginner)
unfolding fresh_store starting
start_shown = record {
  store = ap (λ (p : Reply × List ℕ). p.1) (fresh_goes (blank store_words) (length_blank store_words));
  readers = λ j. ap (λ (p : SetReply × List ℕ). record { set = p.1; names = 0 ∷ [] }) (fresh-set-goes (blank set_words_length) (length_blank set_words_length) true);
  inside = λ j. start_both;
}

pub run_first : (lent : ℕ → Lent) → ((n : ℕ) → Sized (lent n)) → (calls : List (By Call)) → run lent calls ≡ pure_from first (λ j. beginner) calls
unfolding run
run_first lent sized calls = run_is lent sized 0 fresh_store (λ j. starting) first (λ j. beginner) start_shown calls

-- ---- the theorem

module _ (i : ℕ) (calls : List (By Call)) (lent lent' : ℕ → Lent) (sized : (n : ℕ) → Sized (lent n)) (sized' : (n : ℕ) → Sized (lent' n)) where
  -- A reader whose own calls lack no room, shared or alone, sees shared what it sees alone: that others lack room does not matter.
  pub own_as_if_alone : Roomy (only i (run lent calls)) → Roomy (run lent' (only i calls)) → only i (run lent calls) ≡ run lent' (only i calls)
  own_as_if_alone a b =
      let shared-is = run_first lent sized calls in
      let alone-is = run_first lent' sized' (only i calls) in
      ap (only i) shared-is
      ∙ alone_from i calls first first (λ j. beginner) (λ j. beginner) (λ j. start_both) start_both
      (subst (λ (l : List (By (Got Stacks))). Roomy (only i l)) shared-is a) (subst Roomy alone-is b)
      ∙ sym alone-is

pub roomy_only : (i : ℕ) (xs : List (By (Got Stacks))) → Roomy xs → Roomy (only i xs)
unfolding which
roomy_only i [] h = tt
roomy_only i (x ∷ xs) h = go (eqb x.reader i) (roomy_only i xs h.1)
  where
    go : (t : Bool) → Roomy (only i xs) → Roomy (elim t [ true ↦ x ∷ only i xs | false ↦ only i xs ])
    go true l = (h.0, l)
    go false l = l

-- "Let several readers share one store, made fresh once, each with its own, at first empty, config set, naming a context only as 0 or as an earlier
-- answer of its own. If no call lacks room, shared or alone, then however their calls interleave, each gets stack sets, alternative subsets and
-- verdicts as if alone."
pub as_if_alone : (i : ℕ) (calls : List (By Call)) (lent lent' : ℕ → Lent) → ((n : ℕ) → Sized (lent n)) → ((n : ℕ) → Sized (lent' n))
    → Roomy (run lent calls) → Roomy (run lent' (only i calls)) → only i (run lent calls) ≡ run lent' (only i calls)
as_if_alone i calls lent lent' sized sized' a b = own_as_if_alone i calls lent lent' sized sized' (roomy_only i (run lent calls) a) b

-- ---- in document 01's words: however the calls interleave

-- Two interleavings of the same calls of reader i, beside any others': it gets the same.
pub two_interleavings : (i : ℕ) (calls others : List (By Call)) (lent lent' : ℕ → Lent) → ((n : ℕ) → Sized (lent n)) → ((n : ℕ) → Sized (lent' n))
    → only i calls ≡ only i others → Roomy (run lent calls) → Roomy (run lent' others) → Roomy (run lent (only i calls))
    → only i (run lent calls) ≡ only i (run lent' others)
two_interleavings i calls others lent lent' sized sized' e a b c =
    let c' : Roomy (run lent (only i others)) = subst (λ (l : List (By Call)). Roomy (run lent l)) e c in
    as_if_alone i calls lent lent sized sized a c ∙ ap (run lent) e ∙ sym (as_if_alone i others lent' lent sized' sized b c')

-- A reader beside none: whatever the scratch held, it gets the same.
pub beside_none : (i : ℕ) (calls : List (By Call)) (lent lent' : ℕ → Lent) → ((n : ℕ) → Sized (lent n)) → ((n : ℕ) → Sized (lent' n))
    → only i calls ≡ calls → Roomy (run lent calls) → Roomy (run lent' calls) → only i (run lent calls) ≡ run lent' calls
beside_none i calls lent lent' sized sized' e a b =
    as_if_alone i calls lent lent' sized sized' a (subst (λ (l : List (By Call)). Roomy (run lent' l)) (sym e) b) ∙ ap (run lent') e
