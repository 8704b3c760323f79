-- To believe: the calls of several readers, one after another over one store made fresh once, and what each reader sees.
use Rattle.std.specs.Prelude.{◌≡◌, Bool, true, false, List, [], ◌∷◌, ◌++◌, map, ℕ, suc, eqb}
use Rattle.arena.specs.Rules.{Stacks}
use Rattle.arena.specs.Store.{Store}
use Rattle.arena.specs.Stands.{stands}
use Rattle.encoding.specs.Layout.{store_words, blank}
use Rattle.encoding.specs.Decode.{store_of}
use Rattle.store.specs.Calls.{fresh_call}
use Rattle.sets.specs.Layout.{set_words_length}
use Rattle.sets.specs.Calls.{fresh_set_call}
use Rattle.groups.specs.Lists.{All, which}
use Rattle.readers.specs.Calls.{Call, Lent, part, Got, refused, context, groups, plain, Reader, Done, step}

-- ---- what a reader sees

-- an answer with each context as the stacks it stands for
unfoldable pub see : Store → Got ℕ → Got Stacks
see s (refused n) = refused n
see s (context c) = context (stands s c)
see s (groups l) = groups (map (λ g. part g.state (stands s g.context) g.alternatives) l)
see s (plain p) = plain p

-- the contexts in an answer, in order: they count as the reader's answers
unfoldable pub heard : Got ℕ → List ℕ
heard (refused n) = []
heard (context c) = c ∷ []
heard (groups l) = map (λ g. g.context) l
heard (plain p) = []

-- ---- runs

-- something of one of the readers, who are numbered
pub record By (A : Type 0) : Type 0 where
  pub reader : ℕ
  pub what : A

-- a reader after its call
abbrev pub after : Reader → Done → Reader
after R D = record { set = D.set; names = R.names ++ heard D.got }

-- the same for each reader but i, who now has a
abbrev pub put : {A : Type 0} → (ℕ → A) → ℕ → A → ℕ → A
put f i a j = elim (eqb j i) [ true ↦ a | false ↦ f j ]

-- calls one after another over one store, the n-th with what is lent for it: what each caller sees
unfoldable pub run_from : (ℕ → Lent) → ℕ → List ℕ → (ℕ → Reader) → List (By Call) → List (By (Got Stacks))
run_from lent n w Rs [] = []
run_from lent n w Rs (x ∷ xs) =
    let i = x.reader in
    let D = step (lent n) w (Rs i) x.what in
    record { reader = i; what = see (store_of D.store) D.got } ∷ run_from lent (suc n) D.store (put Rs i (after (Rs i) D)) xs

-- "one store, made fresh once, each with its own, at first empty, config set"
unfoldable pub fresh_store : List ℕ
fresh_store = (fresh_call (blank store_words)).1

unfoldable pub starting : Reader
starting = record { set = (fresh_set_call (blank set_words_length) true).1; names = 0 ∷ [] }

unfoldable pub run : (ℕ → Lent) → List (By Call) → List (By (Got Stacks))
run lent xs = run_from lent 0 fresh_store (λ i. starting) xs

-- ---- one reader's part

-- what is reader i's, in the same order
abbrev pub only : {A : Type 0} → ℕ → List (By A) → List (By A)
only i xs = which (λ x. eqb x.reader i) xs

-- "no call is refused for room or work"
abbrev pub Served : {C : Type 0} → Got C → Type 0
Served {C} g = (g ≡ refused 6 → ⊥) × (g ≡ refused 12 → ⊥)

abbrev pub Roomy : List (By (Got Stacks)) → Type 0
Roomy xs = All (λ x. Served x.what) xs
