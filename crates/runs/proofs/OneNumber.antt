-- Answers of one run that go back to the same contexts are one number. Nothing here has to be believed.
use Rattle.std.specs.Prelude.{◌≡◌, refl, ◌⊎◌, Bool, true, false, ◌||◌, ℕ, ◌<◌, length}
use Rattle.std.proofs.Common.{sym, ap, ◌∙◌, inl, inr}
use Rattle.std.proofs.Math.Bool.{or-true, or-false, or_assoc}
use mathlib.Core.List.Memᴰ
use mathlib.Core.List.{List, [], ◌∷◌, ◌++◌, Memᴰ}
use Rattle.stacks.specs.Bools.{bool_iff, or_cases}
use Rattle.stacks.specs.Numbers.{never}
use Rattle.arena.specs.Stands.{stands}
use Rattle.encoding.specs.Layout.{store_words, count as contexts}
use Rattle.encoding.specs.Decode.{store_of}
use Rattle.encoding.specs.Decide.{sound}
use Rattle.interning.specs.Calls.{Accepts}
use Rattle.configs.specs.MergeCall.{merge_call}
use Rattle.configs.specs.Promises.{merge_is_union, merge_sound_after, merge_known_before, equal_exactly}
use Rattle.runs.specs.Runs.{Event, merged, Step, merge, Run, begin, next, SameContexts, Answers, named, called, later}
use Rattle.runs.proofs.Growth.{Whole, Grows, step_grows, run_grows}
use Rattle.runs.proofs.Grouping.{Known, Stood, Union, answer_stood, any_stands, union_leaf}

-- ---- the same contexts, the same union

any_named : (w : List ℕ) (x : List ℕ) (σ : List ℕ) → any_stands w x σ ≡ true → (c : ℕ) × Memᴰ c x × (stands (store_of w) c σ ≡ true)
unfolding any_stands
any_named w [] σ e = never (cc)
any_named w (d ∷ x) σ e = go (or_cases (stands (store_of w) d σ) (any_stands w x σ) e) (any_named w x σ)
  where
    go : (stands (store_of w) d σ ≡ true) ⊎ (any_stands w x σ ≡ true)
        → (any_stands w x σ ≡ true → (c : ℕ) × Memᴰ c x × (stands (store_of w) c σ ≡ true))
        → (c : ℕ) × Memᴰ c (d ∷ x) × (stands (store_of w) c σ ≡ true)
    go (inl h) f = (d, Memᴰ.head refl, h)
    go (inr h) f = ((f h).0, Memᴰ.tail (f h).1, (f h).2)

named_any : (w : List ℕ) (x : List ℕ) (σ : List ℕ) (c : ℕ) → Memᴰ c x → stands (store_of w) c σ ≡ true → any_stands w x σ ≡ true
unfolding any_stands
named_any w [] σ c m e = absurd (Memᴰ.not-nil m)
named_any w (d ∷ x) σ c (Memᴰ.head f) e = rw (sym f, e)
named_any w (d ∷ x) σ c (Memᴰ.tail m) e = rw (named_any w x σ c m e) (or-true (stands (store_of w) d σ))

any_same : (w : List ℕ) (x y : List ℕ) → SameContexts x y → (σ : List ℕ) → any_stands w x σ ≡ any_stands w y σ
any_same w x y h σ =
    bool_iff _ _
    (λ e. let n = any_named w x σ e in named_any w y σ n.0 ((h n.0).0 n.1) n.2)
    (λ e. let n = any_named w y σ e in named_any w x σ n.0 ((h n.0).1 n.1) n.2)

-- a context that is only named is one of those that the other side names, and so is known
known_name : (w : List ℕ) (x : List ℕ) (c : ℕ) → Known w x → Memᴰ c x → c < contexts w
known_name w [] c k m = absurd (Memᴰ.not-nil m)
known_name w (d ∷ x) c k (Memᴰ.head e) = rw e k.0
known_name w (d ∷ x) c k (Memᴰ.tail m) = known_name w x c k.1 m

unions_equal : (w : List ℕ) (x y : List ℕ) (c d : ℕ) → Whole w → SameContexts x y → Union w x c → Union w y d → c ≡ d
unions_equal w x y c d h s p q =
    (equal_exactly w h.sized h.sound c d p.number q.number).1 (λ σ. p.stacks σ ∙ any_same w x y s σ ∙ sym (q.stacks σ))

only_name : (c d : ℕ) → Memᴰ c (d ∷ []) → c ≡ d
only_name c d (Memᴰ.head e) = e
only_name c d (Memᴰ.tail m) = absurd (Memᴰ.not-nil m)

-- Two answers of one run whose full merges go back to the same contexts are one number: however the merges were ordered, grouped and interleaved,
-- whatever answers were used twice, whatever other calls were made in between.
pub one_number : {w v : List ℕ} {es : List Event} {x y : List ℕ} {c d : ℕ} → length w ≡ store_words → sound w ≡ true → Run w es v
    → Answers es x c → Answers es y d → SameContexts x y → c ≡ d
unfolding Stood
one_number {w} {v} {es} {x} {y} {c} {d} l t r p q s = settle (answer_stood h r p) (answer_stood h r q)
  where
    h : Whole w
    h = record { sized = l; sound = t }

    end : Whole v
    end = (run_grows h r).whole

    settle : Stood v x c → Stood v y d → c ≡ d
    settle (inl e) (inl f) = only_name c d (rw f at ((s c).0 (rw e (Memᴰ.head refl))))
    settle (inl e) (inr u) = unions_equal v x y c d end s (rw e (union_leaf v c (known_name v y c u.known ((s c).0 (rw e (Memᴰ.head refl)))))) u
    settle (inr u) (inl f) = unions_equal v x y c d end s u (rw f (union_leaf v d (known_name v x d u.known ((s d).1 (rw f (Memᴰ.head refl))))))
    settle (inr u) (inr k) = unions_equal v x y c d end s u k
