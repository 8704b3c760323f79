-- What interning of entries on the stack leaves: the number and the store of `intern`, found in it or made, or no room where those are above a ceiling.
-- Nothing here has to be believed.
use Rattle.std.specs.Prelude.{◌≡◌, List, ℕ, ◌+◌, ◌≤◌, length, Result, Ok, Err}
use Rattle.arena.specs.Store.{find, nowhere}
use Rattle.arena.specs.Place.{intern}
use Rattle.layout.specs.Decode.{store_of}
use Rattle.layout.specs.Ceilings.{Fits}
use Rattle.index.specs.Hash.{hash, node_hash}
use Rattle.index.specs.Records.{Proper, stack_node}
use Rattle.interning.specs.Live.{Pushed, GrewTo}
use Rattle.interning.specs.declared.numbered.Numbered.{Numbered}
use Rattle.words.specs.declared.refusals.Refusal.{Refusal}
use Rattle.words.specs.declared.refusals.Refusal.TheVariants.{FullStore}

-- k contexts more than before
abbrev pub More : List ℕ → ℕ → List ℕ → Type 0
More w k w' = length (store_of w) + k ≡ length (store_of w')

-- the context that was there, or the one that was made
abbrev pub Interns : List ℕ → List ℕ → ℕ → ℕ → Result Numbered Refusal → List ℕ → List ℕ → Type 0
Interns w z at n (Ok d) w' u = GrewTo z u w' (intern (store_of w) (stack_node z at n)) d.context.0 × More w d.made w' × (d.made ≤ 1)
Interns w z at n (Err f) w' u = (f ≡ FullStore) × (Fits (intern (store_of w) (stack_node z at n)).1 → ⊥) × (w' ≡ w) × (u ≡ z)

-- the entries are those of no record, and their hash is at hand
pub record Missing (w z : List ℕ) (at n h : ℕ) : Type 0 where
  pub pushed : Pushed w z at n
  pub proper : Proper z at n
  pub hashed : h ≡ node_hash (hash (store_of w)) (stack_node z at n)
  pub missing : find (stack_node z at n) (store_of w) ≡ nowhere

-- the answer of a call that interned, k contexts made before
abbrev pub after : Numbered → ℕ → Numbered
after d k = record d { made = k + d.made }

abbrev pub answered : Result Numbered Refusal → ℕ → Result Numbered Refusal
answered (Ok d) k = Ok (after d k)
answered (Err f) k = Err f
