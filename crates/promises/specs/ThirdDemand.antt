-- Promised: demand 3. "In a sound store two numbers are equal exactly when they stand for the same stacks; an accepted full-context merge is the
-- union; readers that share a store get stack sets, alternative subsets and verdicts as if alone; any order or grouping of full merges ends at
-- one number." w and v are the words of a store before and after, z those of the scratch. Nothing here has to be believed but what the statements say.
use Rattle.std.specs.Prelude.{◌≡◌, ◌↔◌, Bool, true, false, ◌||◌, List, ℕ, ◌<◌, length}
use Rattle.arena.specs.Stands.{stands}
use Rattle.encoding.specs.Layout.{store_words, count as contexts}
use Rattle.encoding.specs.Decode.{store_of}
use Rattle.encoding.specs.Decide.{sound}
use Rattle.store.specs.Calls.{Accepts}
use Rattle.interning.specs.SingletonCall.{singleton_call}
use Rattle.interning.proofs.Promises.{single_older_kept}
use Rattle.configs.specs.MergeCall.{merge_call}
use Rattle.configs.specs.Promises.{equal_exactly, merge_is_union, older_kept, sides_exchanged}
use Rattle.runs.specs.Runs.{Event, Run, SameContexts, Answers}
use Rattle.runs.proofs.Growth.{run_grows}
use Rattle.runs.proofs.OneNumber.{one_number}
use Rattle.readers.specs.Calls.{Call, Lent, Sized}
use Rattle.readers.specs.Runs.{By, run, only, Roomy}
use Rattle.readers.proofs.Alone.{as_if_alone}

-- "In a sound store two numbers are equal exactly when they stand for the same stacks"
pub equal_exactly_by_stacks : (w : List ℕ) → length w ≡ store_words → sound w ≡ true → (a b : ℕ) → a < contexts w → b < contexts w
    → (a ≡ b) ↔ ((σ : List ℕ) → stands (store_of w) a σ ≡ stands (store_of w) b σ)
equal_exactly_by_stacks = equal_exactly

-- "an accepted full-context merge is the union"
pub union : (w z : List ℕ) (a b c : ℕ) (v : List ℕ) → Accepts (merge_call w z a b false) c v
    → (σ : List ℕ) → stands (store_of v) c σ ≡ (stands (store_of w) a σ || stands (store_of w) b σ)
union = merge_is_union

-- "readers that share a store get stack sets, alternative subsets and verdicts as if alone": what reader i sees of the calls of all readers,
-- none of which is refused for room or work, is what it sees of its own calls alone, whatever the words held that were lent for them. How many
-- contexts a call made is no part of what a reader sees: it depends on what other readers stored before (request A3; readers: `figures_differ`)
pub shared_as_alone : (i : ℕ) (calls : List (By Call)) (lent lent' : ℕ → Lent) → ((n : ℕ) → Sized (lent n)) → ((n : ℕ) → Sized (lent' n))
    → Roomy (run lent calls) → Roomy (run lent' (only i calls)) → only i (run lent calls) ≡ run lent' (only i calls)
shared_as_alone = as_if_alone

-- "any order or grouping of full merges ends at one number": two answers of a run of accepted calls whose full merges go back to the same contexts
pub any_order_or_grouping : {w v : List ℕ} {es : List Event} {x y : List ℕ} {c d : ℕ} → length w ≡ store_words → sound w ≡ true → Run w es v
    → Answers es x c → Answers es y d → SameContexts x y → c ≡ d
any_order_or_grouping = one_number

-- ---- and what these rest on

-- the sides of a merge can be exchanged, refused calls included: the same reply and the same words
pub exchanged : (w z : List ℕ) (a b : ℕ) (m : Bool) → merge_call w z a b m ≡ merge_call w z b a m
exchanged = sides_exchanged

-- a number keeps its stacks in every later store of a run
pub kept_by_runs : {w v : List ℕ} {es : List Event} → length w ≡ store_words → sound w ≡ true → Run w es v
    → (k : ℕ) → k < contexts w → (k < contexts v) × ((σ : List ℕ) → stands (store_of v) k σ ≡ stands (store_of w) k σ)
kept_by_runs l s r k h = let g = run_grows (record { sized = l; sound = s }) r in (g.known k h, g.same k h)
