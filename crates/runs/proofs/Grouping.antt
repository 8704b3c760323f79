-- Demand 3, last sentence: any order or grouping of full merges ends at one number. Nothing here has to be believed but what the theorems say.
use Rattle.std.specs.Prelude.{◌≡◌, refl, ◌⊎◌, Bool, true, false, ◌||◌, ℕ, ◌<◌, length}
use Rattle.std.proofs.Common.{sym, ap, ◌∙◌, inl, inr}
use Rattle.std.proofs.Math.Bool.{or-true, or-false, or_assoc}
use mathlib.Core.List.Memᴰ
use mathlib.Core.List.{List, [], ◌∷◌, ◌++◌, Memᴰ}
use Rattle.stacks.specs.Bools.{bool_iff, or_cases}
use Rattle.stacks.specs.Numbers.{never}
use Rattle.arena.specs.Stands.{stands}
use Rattle.encoding.specs.Layout.{store_words, count as contexts}
use Rattle.encoding.specs.Decode.{store_of}
use Rattle.encoding.specs.Decide.{sound}
use Rattle.interning.specs.Calls.{Accepts}
use Rattle.configs.specs.MergeCall.{merge_call}
use Rattle.configs.specs.Promises.{merge_is_union, merge_sound_after, merge_known_before, equal_exactly}
use Rattle.runs.specs.Runs.{Event, merged, Step, merge, Run, begin, next, SameContexts, Answers, named, called, later}
use Rattle.runs.proofs.Growth.{Whole, Grows, step_grows, run_grows}

-- ---- what merges that go back to contexts stand for

-- each context is known
abbrev pub Known : List ℕ → List ℕ → Type 0
Known w [] = Unit {0}
Known w (c ∷ x) = (c < contexts w) × Known w x

-- the stack is one of a context's
unfoldable pub any_stands : List ℕ → List ℕ → List ℕ → Bool
any_stands w [] σ = false
any_stands w (c ∷ x) σ = stands (store_of w) c σ || any_stands w x σ

-- the number stands for the union
pub record Union (w : List ℕ) (x : List ℕ) (c : ℕ) : Type 0 where
  pub known : Known w x
  pub number : c < contexts w
  pub stacks : (σ : List ℕ) → stands (store_of w) c σ ≡ any_stands w x σ

known_grows : {u v : List ℕ} (x : List ℕ) → Grows u v → Known u x → Known v x
known_grows [] g k = tt
known_grows (c ∷ x) g k = (g.known c k.0, known_grows x g k.1)

any_grows : {u v : List ℕ} (x : List ℕ) → Grows u v → Known u x → (σ : List ℕ) → any_stands v x σ ≡ any_stands u x σ
unfolding any_stands
any_grows [] g k σ = refl
any_grows (c ∷ x) g k σ = rw (g.same c k.0 σ, any_grows x g k.1 σ)

-- of the contexts of both sides

known_both : (w x y : List ℕ) → Known w x → Known w y → Known w (x ++ y)
known_both w [] y k l = l
known_both w (c ∷ x) y k l = (k.0, known_both w x y k.1 l)

any_both : (w x y σ : List ℕ) → any_stands w (x ++ y) σ ≡ (any_stands w x σ || any_stands w y σ)
unfolding any_stands
any_both w [] y σ = refl
any_both w (c ∷ x) y σ = rw (any_both w x y σ) (sym (or_assoc (stands (store_of w) c σ) (any_stands w x σ) (any_stands w y σ)))

union_grows : {u v : List ℕ} (x : List ℕ) (c : ℕ) → Grows u v → Union u x c → Union v x c
union_grows x c g h = record {
  known = known_grows x g h.known;
  number = g.known c h.number;
  stacks = λ σ. g.same c h.number σ ∙ h.stacks σ ∙ sym (any_grows x g h.known σ);
}

pub union_leaf : (w : List ℕ) (c : ℕ) → c < contexts w → Union w (c ∷ []) c
unfolding any_stands
union_leaf w c h = record { known = (h, tt); number = h; stacks = λ σ. sym (or-false (stands (store_of w) c σ)) }

-- an answer is a context that was only named, or it stands for the union
unfoldable pub Stood : List ℕ → List ℕ → ℕ → Type 0
Stood w x c = (x ≡ c ∷ []) ⊎ Union w x c

stood_known : (w : List ℕ) (x : List ℕ) (c : ℕ) → Stood w x c → c < contexts w → Union w x c
unfolding Stood
stood_known w x c (inl e) h = rw e (union_leaf w c h)
stood_known w x c (inr u) h = u

stood_grows : {u v : List ℕ} (x : List ℕ) (c : ℕ) → Grows u v → Stood u x c → Stood v x c
unfolding Stood
stood_grows x c g (inl e) = inl e
stood_grows x c g (inr h) = inr (union_grows x c g h)

-- one full merge more
merge_union : (u z : List ℕ) (a b c : ℕ) (v : List ℕ) (x y : List ℕ) → Grows u v → Accepts (merge_call u z a b false) c v → Stood u x a → Stood u y b → Union v (x ++ y) c
unfolding any_stands
merge_union u z a b c v x y g ok hx hy =
    let k = merge_known_before u z a b false c v ok in
    let ux : Union u x a = stood_known u x a hx k.0 in
    let uy : Union u y b = stood_known u y b hy k.1 in
    record {
      known = known_both v x y (known_grows x g ux.known) (known_grows y g uy.known);
      number = (merge_sound_after u z a b false c v ok).2;
      stacks = λ σ. merge_is_union u z a b c v ok σ
          ∙ rw (ux.stacks σ, uy.stacks σ, any_both v x y σ, any_grows x g ux.known σ, any_grows y g uy.known σ);
    }

pub answer_stood : {w v : List ℕ} {es : List Event} {x : List ℕ} {c : ℕ} → Whole w → Run w es v → Answers es x c → Stood v x c
unfolding Stood
answer_stood h r named = inl refl
answer_stood h (next {u = u} {v = v} r s) (called {xs = x} {ys = y} {a = a} {b = b} {c = c} p q) =
    inr (by_call s (answer_stood h r p) (answer_stood h r q) (step_grows (run_grows h r).whole s))
  where
    by_call : Step u (merged false a b c) v → Stood u x a → Stood u y b → Grows u v → Union v (x ++ y) c
    by_call (merge z _ _ _ _ ok) hx hy g = merge_union u z a b c v x y g ok hx hy
answer_stood {x = x} {c = c} h (next r s) (later p) = stood_grows x c (step_grows (run_grows h r).whole s) (answer_stood h r p)
