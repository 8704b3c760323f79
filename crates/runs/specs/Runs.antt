-- To believe: accepted calls made one after another in one store, and the contexts that the full merges behind an answer go back to.
use Rattle.std.specs.Prelude.{◌≡◌, ◌↔◌, Bool, false, ℕ}
use mathlib.Core.List.{List, [], ◌∷◌, ◌++◌, Memᴰ}
use Rattle.interning.specs.Calls.{Reply, zeros, asked, Accepts}
use Rattle.interning.specs.SingletonCall.{singleton_call}
use Rattle.configs.specs.MergeCall.{merge_call}
use Rattle.configs.specs.Config.{Config}
use Rattle.configs.specs.Calls.{done, set_left, Adds, add_call, close_call}

-- what a call was: a merge of a and b, by wildcard or full-context, that answered c; a state r over the context p, which answered c; or any other
pub data Event : Type 0 where
  merged : Bool → ℕ → ℕ → ℕ → Event
  placed : ℕ → ℕ → ℕ → Event
  other : Event

-- one accepted call that is lent a store, or a query, accepted or not, from its words before to those after, with any scratch and any set; the calls on subsets write neither
pub data Step : List ℕ → Event → List ℕ → Type 0 where
  singleton : {w w' : List ℕ} (z : List ℕ) (p r c : ℕ) → Accepts (singleton_call w z p r) c w' → Step w (placed p r c) w'
  merge : {w w' : List ℕ} (z : List ℕ) (m : Bool) (a b c : ℕ) → Accepts (merge_call w z a b m) c w' → Step w (merged m a b c) w'
  query : {w w' : List ℕ} (z : List ℕ) (c : ℕ) (r : Reply) → (asked w z c r).store ≡ w' → Step w other w'
  add : {w w' : List ℕ} (v z : List ℕ) (x : Config) (a : ℕ) (v' : List ℕ) → Adds (add_call w v z x) a w' v' → Step w other w'
  close : {w w' : List ℕ} (v z v' : List ℕ) → close_call w v z ≡ set_left done w' v' zeros → Step w other w'

-- calls one after another, the newest first
pub data Run : List ℕ → List Event → List ℕ → Type 0 where
  begin : {w : List ℕ} → Run w [] w
  next : {w u v : List ℕ} {e : Event} {es : List Event} → Run w es u → Step u e v → Run w (e ∷ es) v

-- ---- what full merges go back to

-- the number c is the answer of full merges that go back to the contexts xs, each merge made by a call of the run, in whatever order and grouping;
-- sides may be used twice
pub data Answers : List Event → List ℕ → ℕ → Type 0 where
  named : {es : List Event} {c : ℕ} → Answers es (c ∷ []) c
  called : {es : List Event} {xs ys : List ℕ} {a b c : ℕ} → Answers es xs a → Answers es ys b → Answers (merged false a b c ∷ es) (xs ++ ys) c
  later : {e : Event} {es : List Event} {xs : List ℕ} {c : ℕ} → Answers es xs c → Answers (e ∷ es) xs c

-- the same contexts, in any order and repetition
abbrev pub SameContexts : List ℕ → List ℕ → Type 0
SameContexts xs ys = (c : ℕ) → Memᴰ c xs ↔ Memᴰ c ys
