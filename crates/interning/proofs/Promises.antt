-- What a singleton call promises, over its definition alone: the stacks of an accepted one, a sound store that knows the number, older sets
-- kept, the numbering rule; a refused one exactly when, and with nothing changed; its outcome determined. Nothing here has to be believed.
use Rattle.std.specs.Prelude.{◌≡◌, ◌↔◌, Bool, true, false, not, ◌&&◌, List, [], ◌∷◌, eqb, leb}
use Rattle.std.proofs.Math.Path.{refl, sym, ap}
use Rattle.std.proofs.Common.{◌∙◌, eq-eqb, ne_eqb, le-leb}
use Rattle.std.proofs.Math.Bool.{or-false}
use Prim.Native.Nat.{ℕ, suc, ◌+◌, ◌-◌, ◌<◌, ◌≤◌}
use native.Mathlib.Omega.{arith}
use Rattle.std.proofs.Math.ListN.{length}
use Rattle.words.specs.Bools.{bool?}
use Rattle.words.specs.Numbers.{below?, never}
use Rattle.words.specs.Names.{empty_mark}
use Rattle.words.specs.Refusals.{number}
use Rattle.arena.specs.Forest.{Forest, none, mark, over, mem}
use Rattle.arena.specs.Store.{Store, tree, push, end, at}
use Rattle.arena.proofs.Trees.{tree_canon}
use Rattle.arena.proofs.Identity.{tree_root}
use Rattle.arena.specs.Stands.{stands}
use Rattle.arena.specs.Place.{place}
use Rattle.arena.proofs.Placed.{grew_tree, grew_length, place_grew, place_there, place_single, intern_one, Holds, place_holds}
use Rattle.arena.specs.Numbering.{parts, Joins}
use Rattle.arena.proofs.NumberingLaws.{place_numbers}
use Rattle.arena.proofs.BelowLaws.{tree_below, place_below}
use Rattle.layout.specs.Layout.{store_words, stop, count as contexts}
use Rattle.layout.specs.Decode.{store_of}
use Rattle.layout.specs.Decode.Laws.{store_length}
use Rattle.layout.specs.Ceilings.{Fits}
use Rattle.layout.specs.Encode.{words_of}
use Rattle.encoding.specs.Good.{GoodStore}
use Rattle.encoding.specs.Encoded.{store_of_words}
use Rattle.encoding.specs.Decoded.{decoded}
use Rattle.encoding.specs.Decide.{sound}
use Rattle.encoding.proofs.DecideLaws.{sound_true, words_sound}
use Rattle.encoding.specs.Written.{words_count}
use Rattle.store.specs.Checks.{order, due}
use Rattle.store.specs.Checks.Laws.{in_order}
use Rattle.store.specs.Calls.{refused, Left, refusal, gives, gives_after, Accepts}
use Rattle.store.specs.Calls.Laws.{determined, same_context, not_context, refused_exactly, refused_leaves, accepted, right_lengths, is_sound, is_known, has_room}
use Rattle.store.specs.Calls.Laws.{accepted_made, made_exactly, found_exactly}
use Rattle.store.proofs.Told.{number_tells}
use Rattle.interning.specs.SingletonCall.{single_s, singleton_checks, singleton_call}
use Rattle.interning.proofs.SingletonNested.{single_mark, single_state}
use Rattle.interning.specs.Replies.{numbered}
use Rattle.std.specs.Prelude.{Result, Ok, Err}
use Rattle.words.specs.declared.refusals.Refusal.{Refusal}
use Rattle.interning.specs.declared.numbered.Numbered.{Numbered}

-- ---- what an accepted call leaves that has made x: its store, and sound words that know its number

pub record After (x : ℕ × Store) (c : ℕ) (w' : List ℕ) : Type 0 where
  pub store : store_of w' ≡ x.1
  pub sound : (sound w' ≡ true) × (c < contexts w')
  pub sized : length w' ≡ store_words

pub after_of : (x : ℕ × Store) (c : ℕ) (w' : List ℕ) → GoodStore x.1 → x.0 < length x.1 → x.0 ≡ c → words_of x.1 ≡ w' → After x c w'
after_of x c w' g k e q = record {
  store = ap store_of (sym q) ∙ store_of_words x.1 g;
  sound = (rw (← q) (words_sound x.1 g), rw (← q, words_count x.1 g.fits, ← e) k);
  sized = ap length (sym q) ∙ Rattle.encoding.specs.Written.words_length x.1;
}

-- ---- an accepted singleton

module _ (w z : List ℕ) (p r : ℕ) (c : ℕ) (w' : List ℕ) (ok : Accepts (singleton_call w z p r) c w') where
  record Passed : Type 0 where
    sized : length w ≡ store_words
    good : GoodStore (store_of w)
    words : w ≡ words_of (store_of w)
    sound : sound w ≡ true
    known : p < contexts w
    state : (leb stop r && not (eqb r empty_mark)) ≡ false
    fits : Fits (single_s (store_of w) p r).1
    number : (single_s (store_of w) p r).0 ≡ c
    after : words_of (single_s (store_of w) p r).1 ≡ w'

  passed : Passed
  unfolding singleton_call singleton_checks
  passed =
      let a = accepted w z _ 0 (store_of w) (single_s (store_of w) p r) c w' ok in
      let l = (right_lengths w z a.0.0).0 in
      let s = is_sound w z a.0.1.0 in
      let d = decoded w l (sound_true w l s) in record {
        sized = l;
        good = d.0;
        words = d.1;
        sound = s;
        known = is_known w z p a.0.1.1.0;
        state = a.0.1.1.1.0;
        fits = has_room _ a.0.1.1.1.1.0;
        number = a.1;
        after = a.2;
      }

  hp : p < length (store_of w)
  hp = rw (store_length w (contexts w)) passed.known

  -- r on top of each stack of p
  raised : Forest
  raised = over r (tree (store_of w) p) none

  placed_holds : Holds (place (store_of w) raised).1 (place (store_of w) raised).0 raised
  unfolding raised
  placed_holds = let v = tree_canon (store_of w) passed.good.sound p hp in place_holds (store_of w) raised passed.good.sound (omega arith, v.0, v.1, tt) tt

  -- the state is the mark, or one that a store can hold
  state? {ℓ} : {X : Type ℓ} → (eqb r empty_mark ≡ true → X) → (eqb r empty_mark ≡ false → r < stop → X) → X
  state? f g =
      bool? (eqb r empty_mark) f λ e.
      below? r stop (g e) λ h.
      never (absurd_state passed.state (le-leb stop r h) e)
    where
      absurd_state : (leb stop r && not (eqb r empty_mark)) ≡ false → leb stop r ≡ true → eqb r empty_mark ≡ false → ◌≡◌ {A = ℕ} 0 1
      absurd_state q l e = let k : ◌≡◌ {A = Bool} true false = rw (l, e) at q in cc

  placed_after : eqb r empty_mark ≡ false → r < stop → After (place (store_of w) raised) c w' × ((place (store_of w) raised).0 ≡ c)
  unfolding raised
  placed_after e l =
      let is = single_state (store_of w) p r e in
      let number : (place (store_of w) raised).0 ≡ c = rw is at passed.number in
      let good : GoodStore (place (store_of w) raised).1 = record {
        sound = placed_holds.sound;
        below = place_below stop (store_of w) raised passed.good.below (l, tree_below stop (store_of w) passed.good.below p, tt);
        some = omega (arith, placed_holds.known);
        fits = rw is at passed.fits;
      } in
      (after_of (place (store_of w) raised) c w' good placed_holds.known number (rw is at passed.after), number)

  mark_after : eqb r empty_mark ≡ true → (0 ≡ c) × (w ≡ w')
  mark_after e =
      let is = single_mark (store_of w) p r e in
      (rw is at passed.number, passed.words ∙ rw is at passed.after)

  -- "The empty mark 18446744073709551615 answers 0", and nothing is made
  pub mark_answers_0 : r ≡ empty_mark → (c ≡ 0) × (w' ≡ w)
  mark_answers_0 e = let m = mark_after (eq-eqb r empty_mark e) in (sym m.0, sym m.1)

  -- "A singleton (parent p, state r) stands for r placed on top of each stack of p."
  pub single_stands : r < stop → (stands (store_of w') c [] ≡ false) × ((x : ℕ) (σ : List ℕ) → stands (store_of w') c (x ∷ σ) ≡ (eqb r x && stands (store_of w) p σ))
  unfolding mem raised
  single_stands l =
      let a = placed_after (ne_eqb r empty_mark (λ e. omega arith)) l in
      let is : tree (store_of w') c ≡ over r (tree (store_of w) p) none = (rw (a.0.store, ← a.1)) ∙ placed_holds.is in
      (rw is, λ x σ. rw is (or-false _))

  -- the same of the set: r on top of each stack of p, or the empty stack alone
  pub single_tree : tree (store_of w') c ≡ elim (eqb r empty_mark) [ true ↦ mark | false ↦ over r (tree (store_of w) p) none ]
  unfolding raised
  single_tree =
      state?
      (λ e. let m = mark_after e in rw (e, ← m.0, ← m.1) (tree_root (store_of w) passed.good.sound passed.good.some))
      (λ e l. let a = placed_after e l in rw (e, a.0.store, ← a.1) placed_holds.is)

  -- the parent was known
  pub parent_known : p < contexts w
  parent_known = passed.known

  -- the number is in a sound store
  pub single_sound_after : (length w' ≡ store_words) × (sound w' ≡ true) × (c < contexts w')
  single_sound_after =
      state?
      (λ e. let m = mark_after e in (rw (← m.1) passed.sized, rw (← m.1) passed.sound, rw (← m.1, ← m.0) (omega (arith, passed.known))))
      (λ e l. let a = (placed_after e l).0 in (a.sized, a.sound.0, a.sound.1))

  -- every older number's set is as it was, and none goes
  pub single_older_kept : (k : ℕ) → k < contexts w → (k < contexts w') × ((σ : List ℕ) → stands (store_of w') k σ ≡ stands (store_of w) k σ)
  single_older_kept k l =
      state?
      (λ e. let m = mark_after e in (rw (← m.1) l, λ σ. ap (λ (u : List ℕ). stands (store_of u) k σ) (sym m.1)))
      (λ e h.
      let a = (placed_after e h).0 in
      let old : k < length (store_of w) = rw (store_length w (contexts w)) l in
      let g = place_grew (store_of w) raised in
      let more : length (store_of w) ≤ length (store_of w') = rw a.store (grew_length (store_of w) _ g) in
      let there : k < length (store_of w') = omega arith in
      (rw (store_length w' (contexts w')) at there, λ σ. ap (λ (F : Forest). mem F σ) ((rw a.store) ∙ grew_tree (store_of w) _ g k old)))

  -- the contexts that there are more than before
  single_grew : contexts w + (length (single_s (store_of w) p r).1 - length (store_of w)) ≡ contexts w'
  unfolding raised
  single_grew =
      state?
      (λ e. rw (single_mark (store_of w) p r e, ← (mark_after e).1) (omega arith))
      (λ e l.
      let a = (placed_after e l).0 in
      let more = grew_length (store_of w) _ (place_grew (store_of w) raised) in
      let n : length (place (store_of w) raised).1 ≡ contexts w' = sym (ap length a.store) ∙ store_length w' (contexts w') in
      rw (single_state (store_of w) p r e) (omega (arith, n, more, store_length w (contexts w))))

  -- where the number was there before, nothing is made
  single_there : c < contexts w → w' ≡ w
  unfolding raised
  single_there h =
      state?
      (λ e. sym (mark_after e).1)
      (λ e l.
      let s = store_of w in
      let old : c < length s = rw (store_length w (contexts w)) h in
      let n = (placed_after e l).1 in
      let is : tree s c ≡ raised = sym (grew_tree s _ (place_grew s raised) c old) ∙ ap (tree (place s raised).1) (sym n) ∙ placed_holds.is in
      sym passed.after ∙ ap (λ (x : ℕ × Store). words_of x.1) (single_state s p r e ∙ place_there s passed.good.sound c raised old is)
      ∙ sym passed.words)

  -- one context at most is made
  single_one : length (single_s (store_of w) p r).1 ≤ suc (length (store_of w))
  single_one =
      state?
      (λ e. rw (single_mark (store_of w) p r e) (omega arith))
      (λ e l. rw (single_state (store_of w) p r e, place_single (store_of w) passed.good.sound r p hp) (intern_one (store_of w) (push r p end)))

  -- "New contexts take the next number": the parts of the set, in the order in which they are complete, each unless a context stands for it
  pub single_numbers : r < stop → Joins (store_of w) (parts (over r (tree (store_of w) p) none)) (store_of w')
  unfolding raised
  single_numbers l =
      let a = (placed_after (ne_eqb r empty_mark (λ e. omega arith)) l).0 in
      let v = tree_canon (store_of w) passed.good.sound p hp in
      rw a.store (place_numbers (store_of w) (over r (tree (store_of w) p) none) passed.good.sound (omega arith, v.0, v.1, tt) tt)

-- "how many contexts the call made: exactly the count after less the count before"
pub singleton_figure : (w z : List ℕ) (p r : ℕ) → contexts w + (singleton_call w z p r).made ≡ contexts (singleton_call w z p r).store
unfolding singleton_call
singleton_figure w z p r =
    made_exactly w z (singleton_checks w z p r) 0 (store_of w) (single_s (store_of w) p r) (λ ok. single_grew w z p r _ _ ok)

-- "whether the context was found or made": the figure is 0 exactly if the number was there before, and else 1
module _ (w z : List ℕ) (p r : ℕ) (c : ℕ) (w' : List ℕ) (ok : Accepts (singleton_call w z p r) c w') where
  figure : contexts w + (singleton_call w z p r).made ≡ contexts w'
  figure = singleton_figure w z p r ∙ ap contexts ok.1

  pub singleton_found : ((singleton_call w z p r).made ≡ 0) ↔ (c < contexts w)
  singleton_found = found_exactly w w' c _ figure (single_sound_after w z p r c w' ok).2 (single_there w z p r c w' ok)

  pub singleton_one : (singleton_call w z p r).made ≤ 1
  unfolding singleton_call
  singleton_one =
      let s = store_of w in
      rw (accepted_made w z (singleton_checks w z p r) 0 s (single_s s p r) c w' ok) (omega (arith, single_one w z p r c w' ok))

-- ---- a refused singleton: exactly when, and with nothing changed

pub no_refusal : (k : ℕ) (s : Store) (x : ℕ × Store) (n : ℕ) → (gives_after k s x).reply ≡ refused n → ⊥
no_refusal k s x n e = never (cc)

module _ (w z : List ℕ) (p r n : ℕ) where
  pub singleton_refused_exactly : ((singleton_call w z p r).reply ≡ refused n) ↔ (due (singleton_checks w z p r) ≡ at n)
  unfolding singleton_call
  singleton_refused_exactly = let x = single_s (store_of w) p r in refused_exactly w z (singleton_checks w z p r) (gives (store_of w) x) (no_refusal 0 (store_of w) x) n

  pub singleton_refused_leaves : (singleton_call w z p r).reply ≡ refused n → singleton_call w z p r ≡ refusal w z n
  unfolding singleton_call
  singleton_refused_leaves = let x = single_s (store_of w) p r in refused_leaves w z (singleton_checks w z p r) (gives (store_of w) x) (no_refusal 0 (store_of w) x) n

  pub singleton_in_order : in_order order (singleton_checks w z p r) ≡ true
  unfolding singleton_checks in_order
  singleton_in_order = refl

-- ---- any two outcomes that satisfy a contract for the same input are equal: the answer, case and value, and every word

module _ (u v y z : List ℕ) where
  numbered_tells : (a b : Result Numbered Refusal) → numbered a u y ≡ numbered b v z → a ≡ b
  numbered_tells (Ok c) (Ok d) e =
      let n : c.context.0 ≡ d.context.0 = same_context c.context.0 d.context.0 (ap (λ (o : Left). o.reply) e) in
      let k : c.made ≡ d.made = ap (λ (o : Left). o.made) e in
      ap (λ (i : ℕ). Ok (record { context = record { 0 = i }; made = c.made })) n ∙ ap (λ (j : ℕ). Ok (record d { made = j })) k
  numbered_tells (Ok c) (Err g) e = absurd (not_context (number g) c.context.0 (ap (λ (o : Left). o.reply) e))
  numbered_tells (Err f) (Ok d) e = absurd (not_context (number f) d.context.0 (sym (ap (λ (o : Left). o.reply) e)))
  numbered_tells (Err f) (Err g) e = ap Err (number_tells f g (ap (λ (o : Left). o.reply) e))

  numbered_words : (a : Result Numbered Refusal) → ((numbered a u y).store ≡ u) × ((numbered a u y).scratch ≡ y)
  numbered_words (Ok d) = (refl, refl)
  numbered_words (Err f) = (refl, refl)

pub singleton_determined : (w z : List ℕ) (p r : ℕ) (a b : Result Numbered Refusal) (u v y x : List ℕ)
    → numbered a u y ≡ singleton_call w z p r → numbered b v x ≡ singleton_call w z p r → (a ≡ b) × (u ≡ v) × (y ≡ x)
singleton_determined w z p r a b u v y x i j =
    let e = determined (numbered a u y) (numbered b v x) (singleton_call w z p r) i j in
    let one = numbered_words u v y x a in
    let other = numbered_words v u x y b in (
      numbered_tells u v y x a b e,
      sym one.0 ∙ ap (λ (o : Left). o.store) e ∙ other.0,
      sym one.1 ∙ ap (λ (o : Left). o.scratch) e ∙ other.1,
    )
