-- Promised: what a wildcard merge may lose (request A12). "Each stack of the result is a stack of one of the sides, and each stack of either side
-- begins, from its top, with some stack of the result. So tails may go, and nothing is made up." "A stack which both sides hold is always in the
-- result, whole." They follow from document 01's sentences on the merge. Nothing here has to be believed but what the statements say.
use Rattle.std.specs.Prelude.{◌≡◌, ◌↔◌, true, false, ◌||◌, List, ℕ}
use Rattle.stacks.specs.Losses.{BeginsWith, EndsAt}
use Rattle.stacks.proofs.LossesLaws as Losses
use Rattle.arena.specs.Stands.{stands}
use Rattle.arena.specs.Store.{tree}
use Rattle.encoding.specs.Decode.{store_of}
use Rattle.store.specs.Calls.{Accepts}
use Rattle.configs.specs.MergeCall.{merge_call}
use Rattle.configs.specs.Promises.{merge_by_wildcard, sides_canon}

-- a and b are merged to c by wildcard, w and v are the words of the store before and after
module _ (w z : List ℕ) (a b c : ℕ) (v : List ℕ) (ok : Accepts (merge_call w z a b true) c v) where
  -- "each stack of the result is a stack of one of the sides"
  pub nothing_made_up : (σ : List ℕ) → stands (store_of v) c σ ≡ true → (stands (store_of w) a σ || stands (store_of w) b σ) ≡ true
  nothing_made_up = Losses.nothing_made_up (merge_by_wildcard w z a b c v ok)

  -- "each stack of either side begins, from its top, with some stack of the result"
  pub tails_may_go : (σ : List ℕ) → (stands (store_of w) a σ || stands (store_of w) b σ) ≡ true
      → (ρ : List ℕ) × BeginsWith σ ρ × (stands (store_of v) c ρ ≡ true)
  tails_may_go = Losses.tails_may_go (merge_by_wildcard w z a b c v ok)

  -- "a stack which both sides hold is always in the result, whole"
  pub held_by_both : (σ : List ℕ) → stands (store_of w) a σ ≡ true → stands (store_of w) b σ ≡ true → stands (store_of v) c σ ≡ true
  held_by_both = Losses.held_by_both (merge_by_wildcard w z a b c v ok)

  -- What is lost: a stack of one side is lost exactly if the other side ends at a shorter beginning of it.
  pub lost_of_the_left : (σ : List ℕ) → stands (store_of w) a σ ≡ true
      → (stands (store_of v) c σ ≡ false) ↔ ((ρ : List ℕ) × BeginsWith σ ρ × (ρ ≡ σ → ⊥) × EndsAt (stands (store_of w) b) ρ)
  lost_of_the_left = Losses.lost_exactly (tree (store_of w) b) (sides_canon w z a b true c v ok).1 (merge_by_wildcard w z a b c v ok)

  pub lost_of_the_right : (σ : List ℕ) → stands (store_of w) b σ ≡ true
      → (stands (store_of v) c σ ≡ false) ↔ ((ρ : List ℕ) × BeginsWith σ ρ × (ρ ≡ σ → ⊥) × EndsAt (stands (store_of w) a) ρ)
  lost_of_the_right =
      Losses.lost_exactly (tree (store_of w) a) (sides_canon w z a b true c v ok).0 (Losses.exchanged (merge_by_wildcard w z a b c v ok))
