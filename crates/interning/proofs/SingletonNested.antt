-- The singleton's checks, one inside the other, are those of the call. Nothing here has to be believed.
use Rattle.std.specs.Prelude.{◌≡◌, Bool, true, false, ◌&&◌, List, [], ◌∷◌, ℕ, ◌-◌, ◌<◌, ◌≤◌, eqb, leb}
use Rattle.std.proofs.Math.Path.{refl, sym}
use Rattle.std.proofs.Common.{ap, ◌∙◌}
use Rattle.std.proofs.Math.Bool.{not, and-false}
use native.Mathlib.Omega.{arith}
use Rattle.std.proofs.Math.ListN.{length}
use borrow.Author.Tests.{eqb-true, lt-ltb, le-ltb, le-leb, lt-leb}
use Rattle.words.specs.Bools.{bool?, and_left}
use Rattle.words.specs.Numbers.{below?}
use Rattle.arena.specs.Forest.{none, over}
use Rattle.words.specs.Names.{empty_mark}
use Rattle.arena.specs.Store.{Store, tree}
use Rattle.arena.specs.Place.{place}
use Rattle.layout.specs.Layout.{store_words, scratch_words, stop}
use Rattle.layout.specs.Decode.{store_of}
use Rattle.encoding.specs.Decide.{sound}
use Rattle.encoding.proofs.DecideLaws.{sound_true, true_fits}
use Rattle.encoding.specs.Decoded.{decoded}
use Rattle.store.specs.Checks.{given, unless}
use Rattle.store.specs.Checks.Laws.{unless_first, unless_next}
use Rattle.store.specs.Calls.{refused, context, Left, kept, refusal, no_room, gives}
use Rattle.store.specs.Nested.{if_lengths, if_sound, if_known, checked, grown, checked_nested, known_nested, room_nested}
use Rattle.interning.specs.SingletonCall.{single_s, singleton_checks, singleton_call}
use Rattle.interning.specs.SingletonCall.Laws.{if_state, placed_single}

-- ---- the mark, and any other state

module _ (s : Store) (p r : ℕ) where
  pub single_mark : eqb r empty_mark ≡ true → single_s s p r ≡ (0, s)
  unfolding single_s
  single_mark e = rw (e, single_s)

  pub single_state : eqb r empty_mark ≡ false → single_s s p r ≡ place s (over r (tree s p) none)
  unfolding single_s
  single_state e = rw (e, single_s)

module _ (w : List ℕ) (r : ℕ) (go : Left) where
  state_mark : eqb r empty_mark ≡ true → if_state w r go ≡ kept (context 0) w
  unfolding if_state
  state_mark e = rw (e, if_state)

  state_goes : eqb r empty_mark ≡ false → r < stop → if_state w r go ≡ go
  unfolding if_state
  state_goes e h = rw (e, if_state, lt-ltb r stop h)

  state_out : eqb r empty_mark ≡ false → stop ≤ r → if_state w r go ≡ kept (refused 5) w
  unfolding if_state
  state_out e h = rw (e, if_state, le-ltb r stop h)

-- calls that agree on sound words of the right length
pub checked_agree : (w z : List ℕ) (x y : Left) → (length w ≡ store_words → sound w ≡ true → x ≡ y) → checked w z x ≡ checked w z y
unfolding checked if_lengths if_sound
checked_agree w z x y h =
    bool? (eqb (length w) store_words && eqb (length z) scratch_words)
    (λ t. bool? (sound w)
    (λ s. rw (t, if_lengths, s, if_sound) (h (eqb-true (length w) store_words (and_left _ _ t)) s))
    (λ s. rw (t, if_lengths, s, if_sound)))
    (λ f. rw (f, if_lengths))

module _ (w z : List ℕ) (p r : ℕ) (l : length w ≡ store_words) (s : sound w ≡ true) where
  -- a store that nothing is added to leaves its words
  mark_kept : grown w (0, store_of w) ≡ kept (context 0) w
  unfolding grown
  mark_kept =
      let d = decoded w l (sound_true w l s) in
      let n : length (store_of w) - length (store_of w) ≡ 0 = omega arith in
      rw (true_fits (store_of w) d.0.fits, grown, n, ← d.1)

  refused_5 : refusal w z 5 ≡ kept (refused 5) w
  unfolding refusal
  refused_5 = refl

  no_5 : (a b : Bool) → a ≡ false → (a && b) ≡ false
  no_5 a b e = rw e

  -- after the mark, and after any other state
  state_nested : unless (given 5 (leb stop r && not (eqb r empty_mark)) ∷ no_room (single_s (store_of w) p r).1 ∷ []) (refusal w z) (gives (store_of w) (single_s (store_of w) p r))
      ≡ if_state w r (placed_single w p r)
  unfolding placed_single
  state_nested =
      let next = unless_next (refusal w z) (gives (store_of w) (single_s (store_of w) p r)) (given 5 (leb stop r && not (eqb r empty_mark))) (no_room (single_s (store_of w) p r).1 ∷ []) in
      bool? (eqb r empty_mark)
      (λ e. next (rw e (and-false (leb stop r))) ∙ rw (single_mark (store_of w) p r e) (room_nested w z (0, store_of w) ∙ mark_kept ∙ sym (state_mark w r _ e)))
      (λ e. below? r stop
      (λ h. next (no_5 _ _ (lt-leb stop r h)) ∙ rw (single_state (store_of w) p r e) (room_nested w z (place (store_of w) (over r (tree (store_of w) p) none)) ∙ sym (state_goes w r _ e h)))
      (λ h. unless_first (refusal w z) _ (given 5 (leb stop r && not (eqb r empty_mark))) _ (rw (le-leb stop r h, e)) ∙ refused_5 ∙ sym (state_out w r _ e h)))

pub singleton_nested : (w z : List ℕ) (p r : ℕ) → singleton_call w z p r ≡ checked w z (if_known w p (if_state w r (placed_single w p r)))
unfolding singleton_call singleton_checks
singleton_nested w z p r =
    checked_nested w z _ (gives (store_of w) (single_s (store_of w) p r)) ∙
    checked_agree w z _ _ (λ l s. known_nested w z _ (gives (store_of w) (single_s (store_of w) p r)) p ∙ ap (if_known w p) (state_nested w z p r l s))
