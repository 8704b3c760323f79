-- The store that words hold, record by record. Nothing here has to be believed.
use Rattle.std.specs.Prelude.{◌≡◌, refl, List, ℕ, zero, suc, ◌<◌, length}
use Rattle.std.proofs.Common.{sym, ap, ◌∙◌, arith}
use Rattle.arena.specs.Numbers.{two}
use Rattle.arena.specs.Store.{end, dollar, push, node_at}
use Rattle.arena.proofs.Trees.{node_new, node_old}
use Rattle.layout.specs.Layout.{kind, first, second, parent, state}
use Rattle.layout.specs.Listing.{listing}
use Rattle.layout.specs.Decode.{node_from, node_in, store_in}

-- ---- by number

pub store_length : (w : List ℕ) (n : ℕ) → length (store_in w n) ≡ n
unfolding store_in
store_length w zero = refl
store_length w (suc n) = ap suc (store_length w n)

pub store_node : (w : List ℕ) (n c : ℕ) → c < n → node_at (store_in w n) c ≡ node_in w c
unfolding store_in
store_node w zero c h = absurd (omega arith)
store_node w (suc n) c h =
    let l : length (store_in w n) ≡ n = store_length w n in
    two c n
    (λ e. node_new _ _ c (omega arith) ∙ ap (node_in w) (sym e))
    (λ e. node_old _ _ c (omega arith) ∙ store_node w n c (omega arith))

-- ---- by kind

module _ (w : List ℕ) (c : ℕ) where
  pub node_zero : kind w c ≡ 0 → node_in w c ≡ dollar
  unfolding node_in node_from
  node_zero e = rw e

  pub node_one : kind w c ≡ 1 → node_in w c ≡ push (second w c) (first w c) end
  unfolding node_in node_from
  node_one e = rw e

  pub node_many : kind w c ≡ 2 → node_in w c ≡ listing (state w) (parent w) (first w c) (second w c)
  unfolding node_in node_from
  node_many e = rw e
