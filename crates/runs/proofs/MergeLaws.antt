-- The laws that merges are regrouped by, over the calls of one run. Nothing here has to be believed.
use Rattle.std.specs.Prelude.{◌≡◌, refl, Bool, true, false, ℕ, ◌<◌, eqb, length}
use Rattle.std.proofs.Common.{sym, ap, ◌∙◌, arith}
use mathlib.Core.List.{List, [], ◌∷◌, Memᴰ}
use Rattle.stacks.specs.Bools.{bool?}
use Rattle.encoding.specs.Names.{empty_mark}
use Rattle.stacks.specs.Forest.{Forest, none, mark, over, mem}
use Rattle.stacks.specs.Canon.{Some, Canon}
use Rattle.stacks.specs.Beneath.{first, mem_first}
use Rattle.stacks.specs.Merge.{is_mark, wild, merge_e, merge_t}
use Rattle.stacks.proofs.MergeLaws.{merge_equal, merge_t_plain, mark_merge_t, merge_t_mark}
use Rattle.stacks.proofs.Algebra.{idem, comm, assoc}
use Rattle.arena.specs.Store.{tree}
use Rattle.arena.proofs.Identity.{tree_root}
use Rattle.arena.specs.Stands.{stands}
use Rattle.encoding.specs.Layout.{store_words, count as contexts}
use Rattle.encoding.specs.Decode.{store_of}
use Rattle.encoding.specs.Decode.Laws.{store_length}
use Rattle.encoding.specs.Decide.{sound}
use Rattle.runs.specs.Runs.{Event, merged, placed, Run}
use Rattle.runs.proofs.Growth.{Whole, run_grows}
use Rattle.runs.proofs.Held.{holds, canon, one, raised, event_says}

-- ---- placing a state and merging, in either order

-- one state over both sides of a merge is that state over the merge
merge_raised : (m : Bool) (r : ℕ) (A B : Forest) → merge_t m (raised r A) (raised r B) ≡ raised r (merge_t m A B)
unfolding raised merge_t wild is_mark merge_e
merge_raised m r A B = bool? (eqb r empty_mark) (λ e. rw (e, raised) (idem m mark tt)) (λ e. rw (e, raised) (lift m))
  where
    lift : (m : Bool) → merge_t m (over r A none) (over r B none) ≡ over r (merge_t m A B) none
    lift m = merge_t_plain m (over r A none) (over r B none) refl refl ∙ merge_equal m r A none r B none refl

module _ {w v : List ℕ} {es : List Event} (l : length w ≡ store_words) (t : sound w ≡ true) (run : Run w es v) where
  start : Whole w
  start = record { sized = l; sound = t }

  end : Whole v
  end = (run_grows start run).whole

  -- The sides can be exchanged.
  pub sides : (m : Bool) (a b c d : ℕ) → Memᴰ (merged m a b c) es → Memᴰ (merged m b a d) es → c ≡ d
  sides m a b c d h k =
      let s = event_says start run h in
      let u = event_says start run k in
      one end c d s.number u.number (s.is ∙ comm m _ _ (canon end a s.left).1 (canon end b s.right).1 ∙ sym u.is)

  -- Three contexts can be grouped either way.
  pub grouping : (m : Bool) (a b c x y u d : ℕ) → Memᴰ (merged m a b x) es → Memᴰ (merged m x c y) es
      → Memᴰ (merged m b c u) es → Memᴰ (merged m a u d) es → y ≡ d
  grouping m a b c x y u d h₁ h₂ h₃ h₄ =
      let p = event_says start run h₁ in
      let q = event_says start run h₂ in
      let r = event_says start run h₃ in
      let s = event_says start run h₄ in
      let va = (canon end a p.left).1 in
      let vb = (canon end b p.right).1 in
      let vc = (canon end c q.right).1 in
      one end y d q.number s.number
      (q.is ∙ ap (λ (F : Forest). merge_t m F (tree (store_of v) c)) p.is ∙ assoc m _ _ _ va vb vc
      ∙ ap (merge_t m (tree (store_of v) a)) (sym r.is) ∙ sym s.is)

  -- Placing one return state over two contexts and merging equals merging first and placing it after, the empty mark included.
  pub placing : (m : Bool) (r a b x y u c d : ℕ) → Memᴰ (placed a r x) es → Memᴰ (placed b r y) es → Memᴰ (merged m x y u) es
      → Memᴰ (merged m a b c) es → Memᴰ (placed c r d) es → u ≡ d
  placing m r a b x y u c d h₁ h₂ h₃ h₄ h₅ =
      let p = event_says start run h₁ in
      let q = event_says start run h₂ in
      let s = event_says start run h₃ in
      let k = event_says start run h₄ in
      let n = event_says start run h₅ in
      one end u d s.number n.number
      (s.is ∙ (rw (p.is, q.is)) ∙ merge_raised m r _ _ ∙ ap (raised r) (sym k.is) ∙ sym n.is)

  rooted : 0 < contexts v → tree (store_of v) 0 ≡ mark
  rooted k = tree_root (store_of v) (holds end) (rw (store_length v (contexts v)) k)

  -- 0 swallows anything in a wildcard merge, from either side.
  pub swallows_right : (a c : ℕ) → Memᴰ (merged true 0 a c) es → c ≡ 0
  swallows_right a c h =
      let s = event_says start run h in
      one end c 0 s.number s.left (s.is ∙ ap (λ (F : Forest). merge_t true F (tree (store_of v) a)) (rooted s.left) ∙ mark_merge_t _ ∙ sym (rooted s.left))

  pub swallows_left : (a c : ℕ) → Memᴰ (merged true a 0 c) es → c ≡ 0
  swallows_left a c h =
      let s = event_says start run h in
      one end c 0 s.number s.right (s.is ∙ ap (merge_t true (tree (store_of v) a)) (rooted s.right) ∙ merge_t_mark _ ∙ sym (rooted s.right))

-- ---- nothing is neutral in a full merge

-- a set of stacks that has a stack, but not all of F's
other_set : (F : Forest) → Canon F → Some F → (G : Forest) × ((ρ : List ℕ) × (mem G ρ ≡ true)) × ((σ : List ℕ) × (mem G σ ≡ false) × (mem F σ ≡ true))
unfolding mem first
other_set none v h = absurd h
other_set mark v h = (over 0 mark none, (0 ∷ [], refl), ([], refl, refl))
other_set (over r b t) v h = (mark, ([], refl), (first (over r b t), refl, mem_first 0 (over r b t) v h))

-- For every context there is a set of stacks, in this store or not, that a union with it changes.
pub none_neutral : (w : List ℕ) → length w ≡ store_words → sound w ≡ true → (c : ℕ) → c < contexts w
    → (G : Forest) × ((ρ : List ℕ) × (mem G ρ ≡ true)) × ((σ : List ℕ) × (mem G σ ≡ false) × (stands (store_of w) c σ ≡ true))
none_neutral w l t c h = let k = canon (record { sized = l; sound = t }) c h in other_set (tree (store_of w) c) k.1 k.0
