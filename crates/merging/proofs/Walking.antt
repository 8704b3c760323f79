-- What the walk over two records' entries keeps from turn to turn. Nothing here has to be believed.
use Rattle.std.specs.Prelude.{◌≡◌, refl, Bool, List, length}
use Rattle.std.proofs.Common.{sym, ◌∙◌, arith}
use Rattle.std.proofs.Math.Path.{ap}
use Rattle.std.proofs.Math.Bool.{true}
use Prim.Native.Nat.{ℕ, suc, ◌<◌, ◌≤◌, ◌+◌}
use Rattle.arena.specs.Store.{Node, Store}
use Rattle.arena.proofs.Soundness.{Rise}
use Rattle.arena.specs.Kinds.{size}
use Rattle.arena.proofs.Below.{NodeBelow}
use Rattle.arena.proofs.Trees.{rise_le}
use Rattle.arena.proofs.Placed.{Grew, grew_refl, grew_trans, grew_length}
use Rattle.arena.specs.Place.{intern}
use Rattle.index.specs.Layout.{stop}
use Rattle.index.specs.Decode.{store_of}
use Rattle.encoding.specs.Decide.{fits}
use Rattle.encoding.proofs.DecideLaws.{true_fits, fits_false}
use Rattle.index.specs.Writes.{put_entry}
use Rattle.interning.specs.Live.{Live}
use Rattle.interning.specs.Interned.{More, answered}
use Rattle.work.specs.Counted.{State, standing, Outcome, done, refused, and_then, walk, interned, counted}
use Rattle.work.proofs.Equations.{onward, onward_same, onward_onward, walk_end, merge_equal}
use Rattle.work.proofs.Exchange.{counted_even, walk_even}
use Rattle.work.proofs.Heads.{head_state, head_parent, cons, Heads, head_less, head_equal, head_refused}
use Rattle.work.proofs.After.{Good}
use Rattle.cache.specs.Cache.{CacheSound, kept_of, merges_counted}
use Rattle.cache.specs.Frames.{cache_frame}
use Rattle.entries.specs.EntriesFrom.{rest, rest_next, rest_size, rest_none, size_full, rest_rise, rest_below, head_rises, head_most, head_older, head_dollar}
use Rattle.entries.specs.StackEntry.{SameStack, Under, under_le, moved_entries, moved_under, moved_onto}
use Rattle.entries.specs.Laying.{Stacks, ahead, Next, Laid, lay}
use Rattle.entries.specs.Rest.{Extended, Extends}
use Rattle.merging.specs.Standing.{state_of, SameCache, state_moved, Reached, Ended}
use Rattle.std.specs.Prelude.{Result, Ok, Err}
use Rattle.words.specs.declared.refusals.Refusal.{Refusal}
use Rattle.interning.specs.declared.numbered.Numbered.{Numbered}

-- the entries of a record of a sound store
pub record Sorted (s : Store) (n : Node) : Type 0 where
  pub rise : Rise 0 (length s) n
  pub below : NodeBelow stop n

-- the entries n₀ and k₀ of two records are merged from the state t₀ on: i and j entries are taken, n are on the stack
pub record Walking (m : Bool) (t₀ : State) (n₀ k₀ : Node) (top : ℕ) (z₀ w z : List ℕ) (i j n : ℕ) : Type 0 where
  pub live : Live w z
  pub cache : CacheSound z
  pub good : Good (state_of w z)
  pub grew : Grew t₀.store (store_of w)
  pub between : SameStack z₀ z top
  pub few : n ≤ i + j
  pub entries : Stacks (store_of w) z top n
  pub under_left : i < size n₀ → Under z top n (head_state (rest n₀ i))
  pub under_right : j < size k₀ → Under z top n (head_state (rest k₀ j))
  pub going : walk (counted m) t₀ n₀ k₀ ≡ onward (ahead z top n) (walk (counted m) (state_of w z) (rest n₀ i) (rest k₀ j))

-- left and right are as one: what holds of one side holds of the other
pub exchanged : {m : Bool} {t₀ : State} {n₀ k₀ : Node} {top : ℕ} {z₀ w z : List ℕ} {i j n : ℕ}
    → Walking m t₀ n₀ k₀ top z₀ w z i j n → Walking m t₀ k₀ n₀ top z₀ w z j i n
exchanged {m} {t₀} {n₀} {k₀} {top} {z₀} {w} {z} {i} {j} {n} v = record {
  live = v.live;
  cache = v.cache;
  good = v.good;
  grew = v.grew;
  between = v.between;
  few = omega (arith, v.few);
  entries = v.entries;
  under_left = v.under_right;
  under_right = v.under_left;
  going =
      walk_even (counted m) (counted_even m) t₀ k₀ n₀
      ∙ v.going
      ∙ ap (onward (ahead z top n)) (walk_even (counted m) (counted_even m) (state_of w z) (rest n₀ i) (rest k₀ j));
}

pub walking_start : (m : Bool) (w z : List ℕ) (n k : Node) (top : ℕ) → Live w z → CacheSound z → Good (state_of w z)
    → Walking m (state_of w z) n k top z w z 0 0 0
unfolding Rattle.entries.specs.StackAhead.onto rest onward and_then
walking_start m w z n k top v c g = record {
  live = v;
  cache = c;
  good = g;
  grew = grew_refl (store_of w);
  between = λ e a b. refl;
  few = omega arith;
  entries = record {
    fit = λ j a b. absurd (omega arith);
    older = λ j a b. absurd (omega arith);
    rise = λ j a b. absurd (omega arith);
    dollar = λ j a b. absurd (omega arith);
  };
  under_left = λ h e a b. absurd (omega arith);
  under_right = λ h e a b. absurd (omega arith);
  going = same_outcome (walk (counted m) (state_of w z) n k);
}
  where
    same_outcome : (o : Outcome Node) → o ≡ and_then Node Node o (λ x u. done x u)
    same_outcome (done x u) = refl
    same_outcome (refused f) = refl

-- what is laid on the stack leaves the cache
pub laid_cache : {w z : List ℕ} {top n p r : ℕ} {y : List ℕ} → Laid w z top n p r y → SameCache z y
laid_cache g = record { inside = λ i a b. g.same i (omega arith); after = g.high }

module _ {m : Bool} {t₀ : State} {n₀ k₀ : Node} {top : ℕ} {z₀ w z : List ℕ} {i j n : ℕ} (sn : Sorted t₀.store n₀) (sk : Sorted t₀.store k₀)
    (v : Walking m t₀ n₀ k₀ top z₀ w z i j n) where
  -- one side's rest, as it is now
  abbrev now_sorted : Node → Type 0
  now_sorted x = Rise 0 (length (store_of w)) x × NodeBelow stop x

  side : (x : Node) → Sorted t₀.store x → (e : ℕ) → now_sorted (rest x e)
  side x s e = (
    rest_rise x e 0 (length (store_of w)) (rise_le 0 (length t₀.store) (length (store_of w)) x (grew_length t₀.store (store_of w) v.grew) s.rise),
    rest_below x e stop s.below,
  )

  -- its next head is above the one that is taken
  next_above : (x : Node) → Sorted t₀.store x → (e : ℕ) → suc e < size x → head_state (rest x e) < head_state (rest x (suc e))
  next_above x s e h =
      rw (rest_next x e) at (head_rises (rest x e) 0 (length (store_of w)) (side x s e).0 (side x s e).1
      (rw (rest_next x e) (size_full (rest x (suc e)) (rw (rest_size x (suc e)) (omega arith)))))

  -- a head can follow what is on the stack
  head_next : (x : Node) → Sorted t₀.store x → (e : ℕ) → Under z top n (head_state (rest x e)) → top + n < 4200
      → Next (store_of w) z top n (head_parent (rest x e)) (head_state (rest x e))
  head_next x s e u r = record {
    room = r;
    most = head_most (rest x e) (side x s e).1;
    older = head_older (rest x e) 0 (length (store_of w)) v.live.good.some (side x s e).0;
    dollar = head_dollar (rest x e) (side x s e).1;
    under = u;
  }

  -- both sides have more
  module _ (hi : i < size n₀) (hj : j < size k₀) (room : top + n < 4200) where
    heads : Heads (rest n₀ i) (rest k₀ j)
    heads = record {
      left = size_full (rest n₀ i) (rw (rest_size n₀ i) (omega arith));
      right = size_full (rest k₀ j) (rw (rest_size k₀ j) (omega arith));
      left_below = (side n₀ sn i).1;
      right_below = (side k₀ sk j).1;
    }

    -- the left head is the lower one and is taken; for the right one exchange the sides
    pub take_left : head_state (rest n₀ i) < head_state (rest k₀ j) → (y : List ℕ)
        → y ≡ put_entry z (top + n) (head_parent (rest n₀ i)) (head_state (rest n₀ i))
        → Walking m t₀ n₀ k₀ top z₀ w y (suc i) j (suc n)
    take_left h y ey =
        let r = head_state (rest n₀ i) in
        let p = head_parent (rest n₀ i) in
        let g : Laid w z top n p r y = lay w z top n p r v.live v.entries (head_next n₀ sn i (v.under_left hi) room) y ey in
        let t : state_of w y ≡ state_of w z = state_moved w z y (laid_cache g) v.cache in
        let X = walk (counted m) (state_of w z) (rest n₀ (suc i)) (rest k₀ j) in
        record {
          live = g.live;
          cache = cache_frame z y (laid_cache g).inside ((laid_cache g).after 16336 (omega arith)) v.cache;
          good = rw t v.good;
          grew = v.grew;
          between = λ e a b. g.same e (omega arith) ∙ v.between e a b;
          few = omega (arith, v.few);
          entries = g.entries;
          under_left = λ q. g.under _ (under_le z top n _ _ (omega (arith, next_above n₀ sn i q)) (v.under_left hi)) (next_above n₀ sn i q);
          under_right = λ q. g.under _ (v.under_right hj) h;
          going =
              v.going
              ∙ ap (onward (ahead z top n)) (head_less (counted m) (state_of w z) (rest n₀ i) (rest k₀ j) heads h ∙ rw (rest_next n₀ i))
              ∙ onward_onward (ahead z top n) (cons r p) X
              ∙ onward_same _ (ahead y top (suc n)) X (λ x. sym (g.onward x))
              ∙ ap (λ (s : State). onward (ahead y top (suc n)) (walk (counted m) s (rest n₀ (suc i)) (rest k₀ j))) (sym t);
        }

    module _ (same : head_state (rest n₀ i) ≡ head_state (rest k₀ j)) where
      nothing : counted m (state_of w z) 0 0 ≡ done 0 (state_of w z)
      nothing = merge_equal m (state_of w z) 0 0 v.good v.live.good.some v.live.good.some refl

      -- what stands beneath both heads was refused, and so is the whole
      pub no_inner : (f : ℕ) → counted m (state_of w z) (head_parent (rest n₀ i)) (head_parent (rest k₀ j)) ≡ refused f → walk (counted m) t₀ n₀ k₀ ≡ refused f
      unfolding onward and_then
      no_inner f e =
          v.going ∙ ap (onward (ahead z top n)) (head_refused (counted m) (state_of w z) nothing (rest n₀ i) (rest k₀ j) heads same f e)

      -- both heads are taken: what stands beneath them has been merged to c
      pub take_both : (c : ℕ) (w₁ z₁ : List ℕ)
          → Reached z (top + n) (counted m (state_of w z) (head_parent (rest n₀ i)) (head_parent (rest k₀ j))) c w₁ z₁
          → Good (state_of w₁ z₁) → Grew (store_of w) (store_of w₁) → c < length (store_of w₁)
          → (y : List ℕ) → y ≡ put_entry z₁ (top + n) c (head_state (rest n₀ i))
          → Walking m t₀ n₀ k₀ top z₀ w₁ y (suc i) (suc j) (suc n)
      take_both c w₁ z₁ q good₁ grew₁ known y ey =
          let r = head_state (rest n₀ i) in
          let under₁ : Under z₁ top n r = moved_under z z₁ top n q.between r (v.under_left hi) in
          let entries₁ : Stacks (store_of w₁) z₁ top n =
          moved_entries z z₁ top n q.between (length (store_of w)) (length (store_of w₁)) (grew_length (store_of w) (store_of w₁) grew₁) v.entries in
          let next : Next (store_of w₁) z₁ top n c r = record {
            room = room;
            most = head_most (rest n₀ i) (side n₀ sn i).1;
            older = known;
            dollar = both_dollar;
            under = under₁;
          } in
          let g : Laid w₁ z₁ top n c r y = lay w₁ z₁ top n c r q.live entries₁ next y ey in
          let t : state_of w₁ y ≡ state_of w₁ z₁ = state_moved w₁ z₁ y (laid_cache g) q.cache in
          let X = walk (counted m) (state_of w₁ z₁) (rest n₀ (suc i)) (rest k₀ (suc j)) in
          record {
            live = g.live;
            cache = cache_frame z₁ y (laid_cache g).inside ((laid_cache g).after 16336 (omega arith)) q.cache;
            good = rw t good₁;
            grew = grew_trans t₀.store (store_of w) (store_of w₁) v.grew grew₁;
            between = λ e a b. g.same e (omega arith) ∙ q.between e a (omega arith) ∙ v.between e a b;
            few = omega (arith, v.few);
            entries = g.entries;
            under_left = λ o. g.under _ (under_le z₁ top n _ _ (omega (arith, next_above n₀ sn i o)) under₁) (next_above n₀ sn i o);
            under_right = λ o. g.under _ (under_le z₁ top n _ _ (omega (arith, next_above k₀ sk j o, same)) under₁) (rw same (next_above k₀ sk j o));
            going =
                v.going
                ∙ ap (onward (ahead z top n))
                (head_equal (counted m) (state_of w z) nothing (rest n₀ i) (rest k₀ j) heads same c (state_of w₁ z₁) q.is
                ∙ rw (rest_next n₀ i, rest_next k₀ j))
                ∙ onward_onward (ahead z top n) (cons r c) X
                ∙ onward_same _ (ahead y top (suc n)) X (λ x. sym (g.onward x ∙ moved_onto z z₁ top n q.between (cons r c x)))
                ∙ ap (λ (s : State). onward (ahead y top (suc n)) (walk (counted m) s (rest n₀ (suc i)) (rest k₀ (suc j)))) (sym t);
          }
        where
          both_dollar : head_state (rest n₀ i) ≡ stop → c ≡ 0
          both_dollar d =
              let a : head_parent (rest n₀ i) ≡ 0 = head_dollar (rest n₀ i) (side n₀ sn i).1 d in
              let b : head_parent (rest k₀ j) ≡ 0 = head_dollar (rest k₀ j) (side k₀ sk j).1 (sym same ∙ d) in
              let e : ◌≡◌ {A = Outcome ℕ} (done 0 (state_of w z)) (done c (state_of w₁ z₁)) =
              sym nothing ∙ ap (λ (x : ℕ). counted m (state_of w z) x 0) (sym a)
              ∙ ap (λ (x : ℕ). counted m (state_of w z) (head_parent (rest n₀ i)) x) (sym b) ∙ q.is in
              cc

  -- ---- the right side is at its end: the rest of the left follows. For the other end exchange the sides

  pub right_done : size k₀ ≤ j → and_then Node ℕ (walk (counted m) t₀ n₀ k₀) interned ≡ interned (ahead z top n (rest n₀ i)) (state_of w z)
  unfolding onward and_then
  right_done h =
      ap (λ (o : Outcome Node). and_then Node ℕ o interned)
      (v.going ∙ ap (onward (ahead z top n)) (ap (walk (counted m) (state_of w z) (rest n₀ i)) (rest_none k₀ j h) ∙ walk_end (counted m) (state_of w z) (rest n₀ i)))

-- ---- from what interning leaves to what the walk leaves

-- w₀ and z₀ are the words before the walk, in which k contexts were made
module _ (w₀ z₀ w z : List ℕ) (top k : ℕ) (x : Node) (grew : Grew (store_of w₀) (store_of w)) (between : SameStack z₀ z top) (more : More w₀ k w)
    (v : CacheSound z) (l : Live w z) where
  reached : (d : ℕ) (w' u : List ℕ) → Extended z top (intern (store_of w) x) d w' u → Reached z₀ top (interned x (state_of w z)) d w' u
  unfolding interned
  reached d w' u g =
      let s : SameCache z u = record { inside = λ i a b. g.same i a (omega arith); after = g.after } in
      let f : fits (intern (store_of w) x).1 ≡ true = true_fits (intern (store_of w) x).1 (rw (← g.store) g.live.good.fits) in
      let kept = kept_of z in
      let counts = merges_counted z in
      let made : interned x (state_of w z) ≡ done (intern (store_of w) x).0 (standing (intern (store_of w) x).1 kept counts) = rw (f, interned) in
      record {
        is =
            made
            ∙ ap (λ (c : ℕ). done c (standing (intern (store_of w) x).1 kept counts)) (sym g.number)
            ∙ ap (λ (q : Store). done d (standing q kept counts)) (sym g.store)
            ∙ ap (done d) (sym (state_moved w' z u s v));
        live = g.live;
        cache = cache_frame z u s.inside (s.after 16336 (omega arith)) v;
        between = λ i a b. g.same i (omega arith) b ∙ between i a b;
      }

  pub extended : (r : Result Numbered Refusal) (w' u : List ℕ) → Extends w z top (intern (store_of w) x) r w' u
      → Ended w₀ z₀ top (interned x (state_of w z)) (answered r k) w' u
  unfolding interned
  extended (Ok d) w' u g = (reached d.context.0 w' u g.0, omega (arith, more, g.1))
  extended (Err f) w' u g = (
    rw (g.0, fits_false (intern (store_of w) x).1 g.1, interned),
    record {
      grew = rw g.2 grew;
      good = rw g.2 l.good;
      words = rw g.2 l.words;
      sized = g.3;
    },
  )
