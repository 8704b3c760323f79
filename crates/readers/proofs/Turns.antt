-- Over stores and sets, readers who share a store each see what they would see alone. By one relation of a reader's shared and lone state
-- (`Both`), which its own calls keep (`step_kept`) and the others' calls keep, since the store only grows (`both_grew`). Nothing here has to be believed.
use Rattle.std.specs.Prelude.{◌≡◌, true, false, List, [], ◌∷◌, ◌++◌, ℕ, ◌<◌, eqb, length}
use Rattle.std.proofs.Math.Path.{refl, ap}
use Rattle.std.proofs.Common.{sym, subst, eq-eqb, ne_eqb}
use Rattle.arena.specs.Numbers.{two}
use Rattle.arena.specs.Forest.{Forest, mem}
use Rattle.arena.specs.Rules.{Stacks}
use Rattle.arena.specs.Store.{Store}
use Rattle.arena.specs.Stands.{stands}
use Rattle.arena.proofs.Placed.{Grew, grew_refl, grew_length}
use Rattle.encoding.specs.Good.{GoodStore}
use Rattle.sets.specs.Sets.{Set}
use Rattle.sets.proofs.Kept.{good_more}
use Rattle.groups.specs.Lists.{which}
use Rattle.readers.specs.Calls.{Call, Part, part, Got, refused}
use Rattle.readers.specs.Runs.{see, heard, By, put, only, Roomy, Served}
use Rattle.readers.proofs.Pure.{State}
use Rattle.readers.proofs.Kept.{Good, After, Known, step_after}
use Rattle.readers.proofs.Alike.{each_append, each_wider, each_same, Parts, parts, Gots, refusals, contexts, grouped, plains, sets_wider, named_alike, heard_alike}
use Rattle.readers.proofs.Twins.{Like, like_grew, Alike, Own, Both, after, step_kept}

-- ---- what is alike is seen as the same

module _ (s t : Store) where
  see_part : (x y : Part ℕ) → Parts (Like s t) x y → part x.state (stands s x.context) x.alternatives ≡ part y.state (stands t y.context) y.alternatives
  see_part x y (parts q l r) = ap (λ (F : Forest). part q (mem F) l) r.same

  see_alike : {p q : Got ℕ} → Gots (Like s t) p q → see s p ≡ see t q
  unfolding see
  see_alike (refusals n) = refl
  see_alike (contexts r) = ap (λ (F : Forest). Got.context (mem F)) r.same
  see_alike (grouped l) = ap Got.groups (each_same (Parts (Like s t)) _ _ see_part l)
  see_alike (plains p) = refl

pub roomy : (D : State) → Served (see D.store D.got) → Served D.got
unfolding see
roomy D h = (λ e. h.0 (ap (see D.store) e), λ e. h.1 (ap (see D.store) e))

-- ---- the relation is kept

abbrev pub moved : Own → State → Own
moved P D = record { set = D.set; names = P.names ++ heard D.got }

good_grew : (s u : Store) (S : Set) → Grew s u → GoodStore u → Good s S → Good u S
good_grew s u S f g h = record { store = g; set = good_more (length s) (length u) S (grew_length s u f) h.set }

-- by calls of others: both stores may grow
both_grew : (s t u v : Store) (P Q : Own) → Grew s u → GoodStore u → Grew t v → GoodStore v → Both s t P Q → Both u v P Q
both_grew s t u v P Q f gu g gv h =
    let still = like_grew s t u v f g in
    record {
      left = good_grew s u P.set f gu h.left;
      right = good_grew t v Q.set g gv h.right;
      zeros = still 0 0 h.zeros;
      names = each_wider (Like s t) (Like u v) still h.names;
      sets = sets_wider (Like s t) (Like u v) still h.sets;
    }

-- by its own call
both_after : (s t : Store) (P Q : Own) (D E : State) → Both s t P Q → After s D → After t E → Alike D E → Both D.store E.store (moved P D) (moved Q E)
both_after s t P Q D E h f g k =
    let still = like_grew s t D.store E.store f.grew g.grew in
    record {
      left = f.good;
      right = g.good;
      zeros = still 0 0 h.zeros;
      names = each_append _ (each_wider (Like s t) _ still h.names) (heard_alike _ k.gots);
      sets = k.sets;
    }

-- ---- one reader of several moves on

pub put_same : {A : Type 0} (f : ℕ → A) (k : ℕ) (a : A) (j : ℕ) → j ≡ k → put f k a j ≡ a
put_same f k a j e = rw (eq-eqb j k e, put)

pub put_other : {A : Type 0} (f : ℕ → A) (k : ℕ) (a : A) (j : ℕ) → (j ≡ k → ⊥) → put f k a j ≡ f j
put_other f k a j n = rw (ne_eqb j k n, put)

module _ (s t : Store) (P Q : Own) (h : Both s t P Q) where
  pub known_left : Known s P.names
  known_left k = (named_alike (Like s t) k h.zeros h.names).left

  known_right : Known t Q.names
  known_right k = (named_alike (Like s t) k h.zeros h.names).right

  pub after_left : (x : Call) → After s (after s P x)
  after_left x = step_after s P.set h.left P.names known_left x

  after_right : (x : Call) → After t (after t Q x)
  after_right x = step_after t Q.set h.right Q.names known_right x

-- every reader's contexts are in the store: each is alike with itself
abbrev pub Inside : Store → (ℕ → Own) → Type 0
Inside s Ps = (j : ℕ) → Both s s (Ps j) (Ps j)

-- reader k's call x in the shared store
module _ (s : Store) (Ps : ℕ → Own) (inside : Inside s Ps) (k : ℕ) (x : Call) where
  abbrev pub made : State
  made = after s (Ps k) x

  abbrev pub next : ℕ → Own
  next = put Ps k (moved (Ps k) made)

  made_after : After s made
  made_after = after_left s s (Ps k) (Ps k) (inside k) x

  itself : Alike made made
  itself = step_kept s s (Ps k) (Ps k) (inside k) x (λ h. h, λ h. h) (λ h. h, λ h. h)

  pub stays_inside : Inside made.store next
  stays_inside j =
      two j k
      (λ e. rw (put_same Ps k (moved (Ps k) made) j e) (both_after s s (Ps k) (Ps k) made made (inside k) made_after made_after itself))
      (λ n. rw (put_other Ps k (moved (Ps k) made) j n)
      (both_grew s s made.store made.store (Ps j) (Ps j) made_after.grew made_after.good.store made_after.grew made_after.good.store (inside j)))

  -- it keeps the relation of any other reader i, also where it lacks room
  pub others_turn : (t : Store) (Q : Own) (i : ℕ) → (k ≡ i → ⊥) → Both s t (Ps i) Q → Both made.store t (next i) Q
  others_turn t Q i n h =
      rw (put_other Ps k (moved (Ps k) made) i (λ e. n (sym e)))
      (both_grew s t made.store t (Ps i) Q made_after.grew made_after.good.store (grew_refl t) h.right.store h)

  -- and where i is k, alone too: i sees the same in both stores, and the relation is kept
  pub own_turn : (t : Store) (Qs : ℕ → Own) → Served made.got → Served (after t (Qs k) x).got → (i : ℕ) → k ≡ i → Both s t (Ps i) (Qs i)
      → (see made.store made.got ≡ see (after t (Qs k) x).store (after t (Qs k) x).got)
      × Both made.store (after t (Qs k) x).store (next i) (put Qs k (moved (Qs k) (after t (Qs k) x)) i)
  own_turn t Qs room room' i e h =
      let lone = after t (Qs k) x in
      let here : Both s t (Ps k) (Qs k) = subst (λ (j : ℕ). Both s t (Ps j) (Qs j)) (sym e) h in
      let kept : Alike made lone = step_kept s t (Ps k) (Qs k) here x (λ q. room'.0, λ q. room.0) (λ q. room'.1, λ q. room.1) in (
        see_alike made.store lone.store kept.gots,
        rw (put_same Ps k (moved (Ps k) made) i (sym e), put_same Qs k (moved (Qs k) lone) i (sym e))
            (both_after s t (Ps k) (Qs k) made lone here made_after (after_right s t (Ps k) (Qs k) here x) kept),
      )

-- ---- runs over stores and sets

unfoldable pub pure_from : Store → (ℕ → Own) → List (By Call) → List (By (Got Stacks))
pure_from s Ps [] = []
pure_from s Ps (x ∷ xs) =
    let i = x.reader in
    let D = after s (Ps i) x.what in
    record { reader = i; what = see D.store D.got } ∷ pure_from D.store (put Ps i (moved (Ps i) D)) xs

pub alone_from : (i : ℕ) (xs : List (By Call)) (s t : Store) (Ps Qs : ℕ → Own) → Inside s Ps → Both s t (Ps i) (Qs i)
    → Roomy (only i (pure_from s Ps xs)) → Roomy (pure_from t Qs (only i xs)) → only i (pure_from s Ps xs) ≡ pure_from t Qs (only i xs)
unfolding pure_from which
alone_from i [] s t Ps Qs inside h a b = refl
alone_from i (x ∷ xs) s t Ps Qs inside h a b =
    let k = x.reader in
    let D = after s (Ps k) x.what in
    let Ps' = put Ps k (moved (Ps k) D) in
    let kept = stays_inside s Ps inside k x.what in
    two k i
    (λ e.
    let own : eqb k i ≡ true = eq-eqb k i e in
    let a' : Served (see D.store D.got) × Roomy (only i (pure_from D.store Ps' xs)) = rw (own, which) at a in
    let b' : Roomy (pure_from t Qs (x ∷ only i xs)) = rw (own, which) at b in
    let turn = own_turn s Ps inside k x.what t Qs (roomy D a'.0) (roomy (after t (Qs k) x.what) b'.0) i e h in
    rw (own, which, turn.0, alone_from i xs _ _ _ _ kept turn.1 a'.1 b'.1))
    (λ n.
    let other : eqb k i ≡ false = ne_eqb k i n in
    rw (other, which) (alone_from i xs _ t _ Qs kept (others_turn s Ps inside k x.what t (Qs i) i n h) (rw (other, which) at a) (rw (other, which) at b)))
