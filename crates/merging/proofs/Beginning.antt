-- The needs of `merge`, place by place: equal numbers, a result kept, too much work, and else a merge that counts. Nothing here has to be believed.
use Rattle.std.specs.Prelude.{◌≡◌, refl, Bool, true, false, List, length, get_or}
use Rattle.std.proofs.Common.{sym, ◌∙◌, ⊎_elim, arith, length-set, get_or-set_other}
use Rattle.std.proofs.Math.Path.{ap}
use Prim.Native.Nat.{ℕ, suc, ◌<◌, ◌≤◌, ◌+◌, ◌*◌, min, max}
use Rattle.arena.specs.Store.{nowhere}
use Rattle.arena.proofs.Placed.{grew_refl}
use Rattle.index.specs.Layout.{scratch_words, most_contexts}
use Rattle.index.specs.Decode.{store_of}
use Rattle.index.specs.Grow.{index_frame}
use Rattle.interning.specs.Live.{Live}
use Rattle.work.specs.Counted.{State, Outcome, done, refused, and_then, completed, made, begins, recall, counted}
use Rattle.work.proofs.Equations.{merge_equal, merge_hit, merge_refused, merge_counts, swallowed_left, swallowed_right, walked as made-walked}
use Rattle.work.proofs.Served.{begins_good, made_after}
use Rattle.work.proofs.Depth.{counted_serves}
use Rattle.arena.specs.Place.{merge_s}
use Rattle.arena.proofs.Steps.{merge_holds}
use Rattle.words.specs.Refusals.{number}
use Rattle.words.specs.declared.names.ContextId.{ContextId}
use Rattle.words.specs.declared.refusals.Refusal.{Refusal}
use Rattle.cache.specs.Cache.{Asked, Remembered, Counts, kept_of, merges_counted}
use Rattle.cache.specs.Frames.{counted_sound, counted_kept, counted_merges}
use Rattle.cache.specs.Recalled.{recalled}
use Rattle.std.specs.Prelude.{Option, Some, None}
use Rattle.merging.specs.Standing.{state_of, walked, Mergeable, Apart, Reached, Stuck, Swallows}

-- the index and the stack are as they were
index_kept : (w z u : List ℕ) → length u ≡ scratch_words → ((i : ℕ) → i < 2048 → get_or u i 0 ≡ get_or z i 0) → Live w z → Live w u
index_kept w z u l same v = record { good = v.good; words = v.words; index = index_frame (store_of w) z u v.good.fits.0 l same v.index }

-- what was walked to is a context of the store
walked_known : (m : Bool) (w z : List ℕ) (a b top : ℕ) → Apart w z a b top → (m ≡ true → (0 < a) × (0 < b)) → (c : ℕ) (w₂ z₂ : List ℕ)
    → Reached z top (walked m (state_of w z) a b) c w₂ z₂ → c < length (store_of w₂)
walked_known m w z a b top f n c w₂ z₂ g =
    let t = state_of w z in
    let v = f.sides in
    let e : made m (counted m) t a b ≡ done c (state_of w₂ z₂) = made-walked (counted m) t a b m n ∙ g.is in
    let went = made_after m (a + b) (counted m) (counted_serves m (a + b)) t a b v.good v.left v.right (omega arith) in
    let is : merge_s m (store_of w) a b ≡ (c, store_of w₂) = (rw e at went).is in
    rw is at (merge_holds m (store_of w) v.live.good.sound a b v.left v.right).known

module _ {w z : List ℕ} {a b top : ℕ} (v : Mergeable w z a b top) where
  pub asked : Asked z a b
  asked = record {
    sized = v.live.index.sized;
    sound = v.cache;
    left = omega (arith, v.left, v.live.good.fits.0);
    right = omega (arith, v.right, v.live.good.fits.0);
  }

  -- where nothing is done the call stands where it stood
  stayed : (o : Outcome ℕ) (c : ℕ) → o ≡ done c (state_of w z) → Reached z top o c w z
  stayed o c e = record { is = e; live = v.live; cache = v.cache; between = λ _ _ _. refl }

  pub equal_sides : (m : Bool) → a ≡ b → Reached z top (counted m (state_of w z) a b) a w z
  equal_sides m e = stayed _ a (merge_equal m (state_of w z) a b v.good v.left v.right e)

  module _ (differ : a ≡ b → ⊥) (m : Bool) (r : Option ContextId) (looked : recalled r ≡ recall m (min a b) (max a b) (kept_of z)) where
    pub hit : (c : ContextId) → r ≡ Some c → Reached z top (counted m (state_of w z) a b) c.0 w z
    hit c e = stayed _ c.0 (merge_hit m (state_of w z) a b v.good v.left v.right differ c.0 (sym looked ∙ ap recalled e))

    module _ (e : r ≡ None) where
      missed : recall m (min a b) (max a b) (kept_of z) ≡ nowhere
      missed = sym looked ∙ ap recalled e

      pub too_much_lem : (u : List ℕ) → Counts z false u → (counted m (state_of w z) a b ≡ refused 12) × Stuck w w u
      too_much_lem u k = (
        merge_refused m (state_of w z) a b v.good v.left v.right differ missed (omega (arith, k.0, v.good.within)),
        record {
          grew = grew_refl (store_of w);
          good = v.live.good;
          words = v.live.words;
          sized = ap length k.1 ∙ v.live.index.sized;
        },
      )

      -- the merge counts; z₁ is the scratch then
      module _ (z₁ : List ℕ) (k : Counts z true z₁) where
        begun : state_of w z₁ ≡ begins (state_of w z)
        unfolding begins
        begun =
            let n = suc (merges_counted z) in
            rw (k.1, counted_kept z n v.cache, counted_merges z n (omega (arith, v.live.index.sized)))

        count_only : (i : ℕ) → i < 16337 → get_or z₁ i 0 ≡ get_or z i 0
        count_only i h = let o : i ≡ 16337 → ⊥ = λ q. omega arith in rw (k.1, get_or-set_other)

        sized₁ : length z₁ ≡ scratch_words
        sized₁ = rw k.1 (simp length-set v.live.index.sized)

        pub counted_apart : Apart w z₁ a b top
        counted_apart = record {
          sides = record {
            live = index_kept w z z₁ sized₁ (λ i h. count_only i (omega arith)) v.live;
            cache = rw k.1 (counted_sound z (suc (merges_counted z)) v.cache);
            good = rw begun (begins_good (state_of w z) v.good k.0).good;
            left = v.left;
            right = v.right;
            room = v.room;
          };
          differ = differ;
        }

        goes_on : counted m (state_of w z) a b ≡ and_then ℕ ℕ (made m (counted m) (state_of w z₁) a b) (completed m a b)
        goes_on =
            merge_counts m (state_of w z) a b v.good v.left v.right differ missed (omega (arith, k.0))
            ∙ ap (λ (t : State). and_then ℕ ℕ (made m (counted m) t a b) (completed m a b)) (sym begun)

        -- the result c is kept
        completes : (c : ℕ) (w₂ z₂ : List ℕ) → made m (counted m) (state_of w z₁) a b ≡ done c (state_of w₂ z₂) → Live w₂ z₂
            → ((i : ℕ) → 7936 ≤ i → i < 7936 + 2 * top → get_or z₂ i 0 ≡ get_or z₁ i 0) → (u : List ℕ) → Remembered z₂ m a b c u
            → Reached z top (counted m (state_of w z) a b) c w₂ u
        unfolding and_then completed
        completes c w₂ z₂ e l same u r = record {
          is =
              goes_on ∙ ap (λ (o : Outcome ℕ). and_then ℕ ℕ o (completed m a b)) e
              ∙ rw (r.kept, r.merges);
          live = index_kept w₂ z₂ u (r.sized ∙ l.index.sized) (λ i h. r.others i (λ p _. omega arith) (omega arith)) l;
          cache = r.sound;
          between = λ i p q.
              r.others i (λ _ x. omega arith) (omega (arith, v.room)) ∙ same i p q ∙ count_only i (omega (arith, v.room));
        }

        pub swallowed : Swallows m a b true → (u : List ℕ) → Remembered z₁ m a b 0 u → Reached z top (counted m (state_of w z) a b) 0 w u
        swallowed s u r =
            completes 0 w z₁ zero counted_apart.sides.live (λ _ _ _. refl) u r
          where
            zero : made m (counted m) (state_of w z₁) a b ≡ done 0 (state_of w z₁)
            zero =
                rw s.0
                (⊎_elim (swallowed_left (counted true) (state_of w z₁) a b) (swallowed_right (counted true) (state_of w z₁) a b) s.1)

        module _ (n : Swallows m a b false) where
          is_walked : made m (counted m) (state_of w z₁) a b ≡ walked m (state_of w z₁) a b
          is_walked = made-walked (counted m) (state_of w z₁) a b m n

          pub merged_few : (c : ℕ) (w₂ z₂ : List ℕ) → Reached z₁ top (walked m (state_of w z₁) a b) c w₂ z₂ → c < most_contexts
          merged_few c w₂ z₂ g =
              omega (arith, walked_known m w z₁ a b top counted_apart n c w₂ z₂ g, g.live.good.fits.0)

          pub remembered : (c : ℕ) (w₂ z₂ : List ℕ) → Reached z₁ top (walked m (state_of w z₁) a b) c w₂ z₂ → (u : List ℕ) → Remembered z₂ m a b c u
              → Reached z top (counted m (state_of w z) a b) c w₂ u
          remembered c w₂ z₂ g u r = completes c w₂ z₂ (is_walked ∙ g.is) g.live g.between u r

          pub refused_inside : (f : Refusal) (w₂ z₂ : List ℕ) → (walked m (state_of w z₁) a b ≡ refused (number f)) × Stuck w w₂ z₂
              → (counted m (state_of w z) a b ≡ refused (number f)) × Stuck w w₂ z₂
          unfolding and_then
          refused_inside f w₂ z₂ g = (goes_on ∙ ap (λ (o : Outcome ℕ). and_then ℕ ℕ o (completed m a b)) (is_walked ∙ g.0), g.1)
