-- To believe: the call that merges two contexts, as a function of what came in: document 01's table in its order of checking.
pub mod Laws
use Rattle.std.specs.Prelude.{Bool, not, ◌&&◌, List, [], ◌∷◌, ℕ, ltb}
use Rattle.work.specs.Counted.{counting, count_of}
use Rattle.arena.specs.Place.{merge_s}
use Rattle.layout.specs.Layout.{count as contexts}
use Rattle.layout.specs.Decode.{store_of}
use Rattle.store.specs.Checks.{Check, given, unless}
use Rattle.store.specs.Calls.{Left, refusal, wrong_length, unsound_store, too_much_work, no_room, gives_after}

-- the merge of a and b, by wildcard or full-context; 4: one of the two numbers is not below the count
-- 12: too much work; 6: where the work is not too much, no room
unfoldable pub merge_checks : List ℕ → List ℕ → ℕ → ℕ → Bool → List Check
merge_checks w z a b m =
    wrong_length w z ∷ unsound_store w ∷ given 4 (not (ltb a (contexts w) && ltb b (contexts w)))
    ∷ too_much_work (counting m (store_of w) a b) ∷ no_room (merge_s m (store_of w) a b).1 ∷ []

-- the number, after so many merges, and the words of the store that has it
unfoldable pub merge_call : List ℕ → List ℕ → ℕ → ℕ → Bool → Left
merge_call w z a b m = unless (merge_checks w z a b m) (refusal w z) (gives_after (count_of (counting m (store_of w) a b)) (store_of w) (merge_s m (store_of w) a b))
