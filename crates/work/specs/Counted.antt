-- To believe: the merge of two contexts by a call's steps: which merges count, which results are kept, and which ceiling is reached first.
use Rattle.std.specs.Prelude.{Bool, true, false, ◌&&◌, ◌||◌, List, [], ◌∷◌, ℕ, zero, suc, ◌+◌, min, max, eqb, ltb, length}
use Rattle.std.specs.Bool.{beq}
use Rattle.arena.specs.Store.{Node, end, dollar, push, Store, node_at, Found, at, nowhere}
use Rattle.arena.specs.Place.{intern}
use Rattle.encoding.specs.Decide.{fits}

-- "Above 65,536 the call is refused"
abbrev pub most_merges : ℕ
most_merges = 65536

-- "the first 1,024 results of a call"
abbrev pub most_results : ℕ
most_results = 1024

-- a result of a merge: "sides with the smaller number first, kind of merge in the key"
pub record Result : Type 0 where
  pub kind : Bool
  pub smaller : ℕ
  pub larger : ℕ
  pub context : ℕ

-- where a call stands: its store, the results kept, the newest first, and how many merges were counted
pub record State : Type 0 where
  pub store : Store
  pub kept : List Result
  pub count : ℕ

abbrev pub standing : Store → List Result → ℕ → State
standing s k n = record { store = s; kept = k; count = n }

-- a step is done, or the call is refused, by number, and "the store is restored as on 6"
pub data Outcome (X : Type 0) : Type 0 where
  done : X → State → Outcome X
  refused : ℕ → Outcome X

-- one step and then the next
unfoldable pub and_then : (X Y : Type 0) → Outcome X → (X → State → Outcome Y) → Outcome Y
and_then X Y (done x t) next = next x t
and_then X Y (refused n) next = refused n

-- ---- the results kept

-- the context kept for a merge of the kind m with the sides a and b, in that order
unfoldable pub recall : Bool → ℕ → ℕ → List Result → Found
recall m a b [] = nowhere
recall m a b (r ∷ k) = elim (beq m r.kind && (eqb a r.smaller && eqb b r.larger)) [ true ↦ at r.context | false ↦ recall m a b k ]

-- "kept and never replaced"
unfoldable pub keep : Result → List Result → List Result
keep r k = elim (ltb (length k) most_results) [ true ↦ r ∷ k | false ↦ k ]

-- a merge of a and b is completed
unfoldable pub completed : Bool → ℕ → ℕ → ℕ → State → Outcome ℕ
completed m a b c t = done c (standing t.store (keep (record { kind = m; smaller = min a b; larger = max a b; context = c }) t.kept) t.count)

-- ---- the merge

-- how two contexts are merged
abbrev pub Merge : Type 0
Merge = State → ℕ → ℕ → Outcome ℕ

-- an entry ahead of those to come
unfoldable pub before : ℕ → ℕ → Outcome Node → Outcome Node
before r p o = and_then Node Node o (λ n t. done (push r p n) t)

-- the entries in rising order of the top state; beneath a state on both sides stands the merge of what stood beneath
unfoldable pub walk : Merge → State → Node → Node → Outcome Node
walk inner t end k = done k t
walk inner t dollar end = done dollar t
walk inner t dollar dollar = done dollar t
walk inner t dollar (push q o k) = before q o (walk inner t dollar k)
walk inner t (push r p n) end = done (push r p n) t
walk inner t (push r p n) dollar = before r p (walk inner t n dollar)
walk inner t (push r p n) (push q o k) =
    elim (ltb r q) [
      | true ↦ before r p (walk inner t n (push q o k))
      | false ↦ elim (ltb q r) [
        | true ↦ before q o (walk inner t (push r p n) k)
        | false ↦ and_then ℕ Node (inner t p o) (λ c u. before r c (walk inner u n k))
      ]
    ]

-- a list of entries is interned, and room is asked for it
unfoldable pub interned : Node → State → Outcome ℕ
interned n t =
    elim (fits (intern t.store n).1) [
      | true ↦ done (intern t.store n).0 (standing (intern t.store n).1 t.kept t.count)
      | false ↦ refused 6
    ]

-- by wildcard context 0 swallows the other side; else the entries are merged and interned
unfoldable pub made : Bool → Merge → Merge
made m inner t a b =
    elim (m && (eqb a 0 || eqb b 0)) [
      | true ↦ done 0 t
      | false ↦ and_then Node ℕ (walk inner t (node_at t.store a) (node_at t.store b)) interned
    ]

-- a merge counts when it begins
unfoldable pub begins : State → State
begins t = standing t.store t.kept (suc t.count)

-- "Count each merge in a call that is neither of equal numbers nor answered from the cache."
unfoldable pub step : Bool → Merge → Merge
step m inner t a b =
    elim (eqb a b) [
      | true ↦ done a t
      | false ↦ elim (recall m (min a b) (max a b) t.kept) [
        | at c ↦ done c t
        | nowhere ↦ elim (ltb t.count most_merges) [
          | true ↦ and_then ℕ ℕ (made m inner (begins t) a b) (completed m a b)
          | false ↦ refused 12
        ]
      ]
    ]

-- so deep and no deeper; depth 0 is never reached (Theorems.one_step)
unfoldable pub deep : Bool → ℕ → Merge
deep m zero t a b = refused 12
deep m (suc f) t a b = step m (deep m f) t a b

-- the merge of a and b: parents are older, so this is deep enough, and the merge is one `step` over itself (Theorems.one_step)
unfoldable pub counted : Bool → Merge
counted m t a b = deep m (suc (a + b)) t a b

-- the call: it begins with no result kept and no merge counted
unfoldable pub counting : Bool → Store → ℕ → ℕ → Outcome ℕ
counting m s a b = counted m (standing s [] 0) a b

-- was the call refused 12, and how many merges were counted
unfoldable pub too_much : Outcome ℕ → Bool
too_much (done c t) = false
too_much (refused n) = eqb n 12

unfoldable pub count_of : Outcome ℕ → ℕ
count_of (done c t) = t.count
count_of (refused n) = 0
