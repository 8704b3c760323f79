-- The public merge: from the cycle's outcome to what the call leaves. Nothing here has to be believed.
use Rattle.std.specs.Prelude.{◌≡◌, Bool, false, ℕ, ◌-◌, ◌<◌, ◌≤◌, replicate}
use Rattle.std.proofs.Math.Path.{refl, sym, ap}
use Rattle.std.proofs.Common.{◌∙◌, arith}
use Rattle.std.proofs.Math.Logic.{⊎_elim}
use Rattle.std.proofs.Math.Bool.{true}
use mathlib.Core.List.{List, [], ◌∷◌}
use Rattle.std.proofs.Math.ListN.{length}
use Rattle.words.specs.Bools.{bool?}
use Rattle.words.specs.Refusals.{number}
use Rattle.words.specs.declared.refusals.Refusal.{Refusal}
use Rattle.arena.specs.Store.{Store}
use Rattle.arena.specs.Room.{pool}
use Rattle.arena.proofs.Soundness.{Sound}
use Rattle.arena.specs.Place.{merge_s}
use Rattle.arena.proofs.Steps.{merge_sides}
use Rattle.layout.specs.Layout.{count, used}
use Rattle.layout.specs.Decode.{store_of}
use Rattle.layout.specs.Encode.{words_of}
use Rattle.encoding.specs.Decide.{fits}
use Rattle.encoding.proofs.DecideLaws.{true_fits, fits_false}
use Rattle.encoding.specs.Cut.{cut}
use Rattle.encoding.proofs.CutBack.{cut_back}
use Rattle.store.specs.Grow.{index_frame}
use Rattle.work.specs.Counted.{Outcome, done, refused as over, State, counted, counting, too_much, count_of}
use Rattle.work.proofs.Theorems.{answer_is, answer_fits, refusal_is, sides_exchanged}
use Rattle.cache.specs.Cache.{Emptied, merges_counted}
use Rattle.store.specs.Admit.{Admits, cleared, known_goes, unknown}
use Rattle.std.specs.Prelude.{Result, Ok, Err}
use Rattle.store.specs.Checks.{unless}
use Rattle.store.specs.Calls.{refused, context, Left, leaves, leaves_after, zeros, kept, refusal, too_much_work, no_room, gives_after}
use Rattle.store.specs.Nested.{if_known, checked, checked_nested, both_known_nested}
use Rattle.interning.specs.Interned.{More}
use Rattle.interning.specs.Live.{Live, live_count, live_used, ready_live}
use Rattle.merging.specs.Ends.{ends_most}
use Rattle.merging.specs.Standing.{state_of, Mergeable, Reached, Stuck}
use Rattle.contexts.specs.MergeCall.{merge_checks, merge_call}

-- what is left once the numbers are known, with the outcome o of the work and x what is meant
unfoldable pub worked : List ℕ → Outcome ℕ → ℕ × Store → Left
worked w o x = elim (too_much o) [ true ↦ kept (refused 12) w | false ↦ elim (fits x.1) [ true ↦ gives_after (count_of o) (store_of w) x | false ↦ kept (refused 6) w ] ]

module _ (w : List ℕ) (x : ℕ × Store) where
  worked_made : (c : ℕ) (t : State) → fits x.1 ≡ true → worked w (done c t) x ≡ gives_after t.count (store_of w) x
  unfolding worked too_much count_of
  worked_made c t f = rw (f, worked)

  worked_full : fits x.1 ≡ false → worked w (over 6) x ≡ kept (refused 6) w
  unfolding worked too_much
  worked_full f = rw (f, worked)

  worked_over : worked w (over 12) x ≡ kept (refused 12) w
  unfolding worked too_much
  worked_over = refl

-- of known numbers in a sound store
unfoldable pub merged_known : List ℕ → ℕ → ℕ → Bool → Left
merged_known w a b m = worked w (counting m (store_of w) a b) (merge_s m (store_of w) a b)

last_two : (w z : List ℕ) (o : Outcome ℕ) (x : ℕ × Store)
    → unless (too_much_work o ∷ no_room x.1 ∷ []) (refusal w z) (gives_after (count_of o) (store_of w) x) ≡ worked w o x
unfolding unless refusal worked
last_two w z o x =
    bool? (too_much o)
    (λ e. rw (e, unless, worked))
    (λ e. bool? (fits x.1) (λ f. rw (e, f, unless, unless, worked)) (λ f. rw (e, f, unless, unless, worked)))

-- the checks one inside the other, as code goes through them
pub merge_nested : (w z : List ℕ) (a b : ℕ) (m : Bool) → merge_call w z a b m ≡ checked w z (if_known w a (if_known w b (merged_known w a b m)))
unfolding merge_call merge_checks merged_known
merge_nested w z a b m =
    let x = merge_s m (store_of w) a b in
    let o = counting m (store_of w) a b in
    checked_nested w z _ (gives_after (count_of o) (store_of w) x) ∙
    ap (checked w z) (both_known_nested w z _ (gives_after (count_of o) (store_of w) x) a b ∙ ap (λ (y : Left). if_known w a (if_known w b y)) (last_two w z o x))

module _ (m : Bool) (w z : List ℕ) (a b : ℕ) (v : Live w z) (ha : a < count w) (hb : b < count w) (y : List ℕ) (ey : Emptied z y) where
  -- with the cache cleared the cycle can begin, on an empty stack
  pub begin : Mergeable w y a b 0
  begin =
      let c = live_count v in
      record {
        live = record {
          good = v.good;
          words = v.words;
          index = index_frame (store_of w) z y v.good.fits.0 (ey.sized ∙ v.index.sized)
              (λ i h. ey.others i (λ p q. omega arith) (omega arith) (omega arith)) v.index;
        };
        cache = ey.sound;
        good = rw (ey.kept, ey.merges) (record { sound = v.good.sound; fits = v.good.fits; right = tt; few = omega arith; within = omega arith });
        left = rw c at ha;
        right = rw c at hb;
        room = omega (arith, ends_most (store_of w) a, ends_most (store_of w) b, v.good.fits.1);
      }

  -- and so the outcome is the call's
  from_nothing : counted m (state_of w y) a b ≡ counting m (store_of w) a b
  unfolding counting
  from_nothing = rw (ey.kept, ey.merges)

  abbrev x : ℕ × Store
  x = merge_s m (store_of w) a b

  la : a < length (store_of w)
  la = rw (live_count v) at ha

  lb : b < length (store_of w)
  lb = rw (live_count v) at hb

  -- the merge is made
  pub merge_made : (c : ℕ) (w' u : List ℕ) → Reached y 0 (counted m (state_of w y) a b) c w' u → (n k : ℕ) → n ≡ merges_counted u
      → More w k w' → (q : List ℕ) → q ≡ replicate (length u) 0 → leaves_after n k (context c) w' q ≡ merged_known w a b m
  unfolding merged_known
  merge_made c w' u g n k en more q eq =
      let e : counting m (store_of w) a b ≡ done c (state_of w' u) = sym from_nothing ∙ g.is in
      let is : x ≡ (c, store_of w') = answer_is m (store_of w) a b v.good.sound v.good.fits la lb c (state_of w' u) e in
      let f : fits x.1 ≡ true = true_fits x.1 (answer_fits m (store_of w) a b v.good.sound v.good.fits la lb c (state_of w' u) e) in
      let figure : k ≡ length (store_of w') - length (store_of w) = omega (arith, more) in
      let made : leaves_after n k (context c) w' q ≡ gives_after (merges_counted u) (store_of w) (c, store_of w') =
      (rw (en, figure, eq, cleared u g.live.index.sized)) ∙
      ap (λ (y : List ℕ). leaves_after (merges_counted u) (length (store_of w') - length (store_of w)) (context c) y zeros) g.live.words in
      made ∙ ap (gives_after (merges_counted u) (store_of w)) (sym is) ∙ sym (ap (λ (o : Outcome ℕ). worked w o x) e ∙ worked_made w x c (state_of w' u) f)

  -- refused, and what was made is taken out again
  module _ (f : Refusal) (w₁ u : List ℕ) (o : counted m (state_of w y) a b ≡ over (number f)) (s : Stuck w w₁ u) where
    back : (cr ur : ℕ) → cr ≡ count w → ur ≡ used w → cut w₁ cr ur ≡ w
    back cr ur ec eu =
        let e : cr ≡ length (store_of w) = ec ∙ live_count v in
        let f : ur ≡ pool (store_of w) = eu ∙ live_used v in
        ap (λ (q : List ℕ). cut q cr ur) s.words ∙ cut_at (words_of (store_of w₁)) cr (length (store_of w)) ur (pool (store_of w)) e f ∙
        cut_back (store_of w) (store_of w₁) s.good v.good.some s.grew ∙ sym v.words
      where
        cut_at : (q : List ℕ) (i j k l : ℕ) → i ≡ j → k ≡ l → cut q i k ≡ cut q j l
        cut_at q i j k l e f = rw (e, f)

    is_refused : kept (refused (number f)) w ≡ merged_known w a b m
    unfolding merged_known
    is_refused =
        let e : counting m (store_of w) a b ≡ over (number f) = sym from_nothing ∙ o in
        ⊎_elim
        (λ h. ap (λ (n : ℕ). kept (refused n) w) h.0 ∙ sym (worked_full w x (fits_false x.1 h.1)) ∙ ap (λ (y : Outcome ℕ). worked w y x) (ap over (sym h.0) ∙ sym e))
        (λ h. ap (λ (n : ℕ). kept (refused n) w) h.0 ∙ sym (worked_over w x) ∙ ap (λ (y : Outcome ℕ). worked w y x) (ap over (sym h.0) ∙ sym e))
        (refusal_is m (store_of w) a b v.good.sound v.good.fits la lb (number f) e)

    pub merge_refused : (cr ur : ℕ) → cr ≡ count w → ur ≡ used w → (w' q : List ℕ) → w' ≡ cut w₁ cr ur → q ≡ replicate (length u) 0
        → leaves (refused (number f)) w' q ≡ merged_known w a b m
    merge_refused cr ur ec eu w' q ew eq = rw (ew, back cr ur ec eu, eq, cleared u s.sized) is_refused

-- ---- the call, after its first checks

module _ (w z u : List ℕ) (a b : ℕ) (m : Bool) (r : Result Unit Refusal) (v : Admits w z a r u) where
  pub call_refused : (f : Refusal) → r ≡ Err f → leaves (refused (number f)) w u ≡ merge_call w z a b m
  call_refused f e = sym (merge_nested w z a b m ∙ (rw e at v) (if_known w b (merged_known w a b m)))

  module _ (e : r ≡ Ok tt) where
    pub call_ready : Live w u × (a < count w)
    call_ready = let o = rw e at v in (ready_live w u o.0, o.1)

    goes : merge_call w z a b m ≡ if_known w b (merged_known w a b m)
    goes = merge_nested w z a b m ∙ (rw e at v).2 (if_known w b (merged_known w a b m))

    pub call_unknown : count w ≤ b → (y : List ℕ) → y ≡ replicate (length u) 0 → leaves (refused 4) w y ≡ merge_call w z a b m
    call_unknown h y ey = ap (leaves (refused 4) w) (ey ∙ cleared u call_ready.0.index.sized) ∙ sym (goes ∙ unknown w b _ h)

    pub call_merged : b < count w → (x : Left) → x ≡ merged_known w a b m → x ≡ merge_call w z a b m
    call_merged h x q = q ∙ sym (goes ∙ known_goes w b _ h)

-- sides exchanged
pub worked_sides : (w : List ℕ) (a b : ℕ) (m : Bool) → Sound (store_of w) → a < length (store_of w) → b < length (store_of w)
    → merged_known w a b m ≡ merged_known w b a m
unfolding merged_known
worked_sides w a b m v h k = rw (sides_exchanged m (store_of w) a b, merge_sides m (store_of w) v a b h k)
