-- Two groupings called one after the other, with other calls in between: a corollary of `one_number`. Nothing here has to be believed.
use Rattle.std.specs.Prelude.{◌≡◌, true, false, List, [], ◌∷◌, ◌++◌, ℕ, length}
use Rattle.encoding.specs.Layout.{store_words}
use Rattle.encoding.specs.Decide.{sound}
use Rattle.interning.specs.Calls.{Accepts}
use Rattle.configs.specs.MergeCall.{merge_call}
use Rattle.runs.specs.Runs.{Event, merge, Run, begin, next, SameContexts, Answers, named, called, later}
use Rattle.runs.proofs.OneNumber.{one_number}

-- full merges that go back to the contexts x, called depth first, the left side's, the right side's, and then their own: the number answered, and
-- the words after
pub data InTurn : List ℕ → List ℕ → ℕ → List ℕ → Type 0 where
  leaf : {w : List ℕ} {c : ℕ} → InTurn w (c ∷ []) c w
  turn : {w w₁ w₂ w₃ : List ℕ} {x y : List ℕ} {a b c : ℕ} → InTurn w x a w₁ → InTurn w₁ y b w₂ → (z : List ℕ) → Accepts (merge_call w₂ z a b false) c w₃
      → InTurn w (x ++ y) c w₃

runs_on : {u v w : List ℕ} {es fs : List Event} → Run u es v → Run v fs w → Run u (fs ++ es) w
runs_on r begin = r
runs_on r (next s t) = next (runs_on r s) t

-- answers stay answers in a longer run
after : {es : List Event} {x : List ℕ} {c : ℕ} (fs : List Event) → Answers es x c → Answers (fs ++ es) x c
after [] p = p
after (f ∷ fs) p = later (after fs p)

before : {fs : List Event} {x : List ℕ} {c : ℕ} (es : List Event) → Answers fs x c → Answers (fs ++ es) x c
before es named = named
before es (called p q) = called (before es p) (before es q)
before es (later p) = later (before es p)

in_turn : {w v : List ℕ} {x : List ℕ} {c : ℕ} → InTurn w x c v → (es : List Event) × Run w es v × Answers es x c
in_turn leaf = ([], begin, named)
in_turn (turn {a = a} {b = b} {c = c} p q z ok) =
    let x = in_turn p in
    let y = in_turn q in
    (_, next (runs_on x.1 y.1) (merge z false a b c ok), called (after y.0 x.2) (before x.0 y.2))

-- x is called, then whatever else, then y over the same contexts: one number
pub calls_one_number : {w w₁ w₂ w₃ : List ℕ} {x y : List ℕ} {c d : ℕ} {es : List Event} → length w ≡ store_words → sound w ≡ true → SameContexts x y
    → InTurn w x c w₁ → Run w₁ es w₂ → InTurn w₂ y d w₃ → c ≡ d
calls_one_number {es = es} l s h p r q =
    let x = in_turn p in
    let y = in_turn q in
    one_number l s (runs_on x.1 (runs_on r y.1)) (after (y.0 ++ es) x.2) (before x.0 (before es y.2)) h
