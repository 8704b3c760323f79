-- To believe: the call that places a state over a context, as a function of what came in: document 01's table in its order of checking.
pub mod Laws
use Rattle.std.specs.Prelude.{Bool, true, false, not, ◌&&◌, List, [], ◌∷◌, ℕ, eqb, leb}
use Rattle.arena.specs.Forest.{none, over}
use Rattle.words.specs.Names.{empty_mark}
use Rattle.arena.specs.Store.{Store, tree}
use Rattle.arena.specs.Place.{place}
use Rattle.layout.specs.Layout.{stop}
use Rattle.layout.specs.Decode.{store_of}
use Rattle.store.specs.Checks.{Check, given, unless}
use Rattle.store.specs.Calls.{Left, refusal, wrong_length, unsound_store, unknown_context, no_room, gives}

-- r on top of each stack of p; "the empty mark 18446744073709551615 answers 0"
unfoldable pub single_s : Store → ℕ → ℕ → ℕ × Store
single_s s p r = elim (eqb r empty_mark) [ true ↦ (0, s) | false ↦ place s (over r (tree s p) none) ]

-- 5: "a return state from 4294967295 to 18446744073709551614"; no number above the empty mark is a return state
unfoldable pub singleton_checks : List ℕ → List ℕ → ℕ → ℕ → List Check
singleton_checks w z p r =
    wrong_length w z ∷ unsound_store w ∷ unknown_context w p ∷ given 5 (leb stop r && not (eqb r empty_mark)) ∷ no_room (single_s (store_of w) p r).1 ∷ []

unfoldable pub singleton_call : List ℕ → List ℕ → ℕ → ℕ → Left
singleton_call w z p r = unless (singleton_checks w z p r) (refusal w z) (gives (store_of w) (single_s (store_of w) p r))
