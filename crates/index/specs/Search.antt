-- A lookup in the index: where it starts, and a step of it. Cited by the proof of `find_interned`. Nothing here has to be believed.
use Rattle.std.specs.Prelude.{◌≡◌, refl, true, false, List, ℕ, suc, ◌<◌, ◌≤◌, ◌-◌}
use Rattle.std.proofs.Common.{sym, ap, ◌∙◌, arith}
use Rattle.std.proofs.Math.ListN.{length, get_or}
use Rattle.arena.specs.Store.{same, find, at, nowhere}
use Rattle.layout.specs.Scratch.{head, link}
use Rattle.layout.specs.Decode.{node_in, store_in}
use Rattle.layout.specs.Decode.Laws.{store_length, store_node}
use Rattle.index.specs.Hash.{hash, node_hash, bucket_of}
use Rattle.index.specs.Older.{older, older_length}
use Rattle.index.specs.Chain.{At, newest, newest_le, at_newest, at_hit, at_next, at_pred, at_none}
use Rattle.index.specs.Index.{Sought}
use Rattle.index.specs.Records.{stack_node}

module _ (w z : List ℕ) (count place n h : ℕ) (v : Sought w z count place n h) where
  -- what is known at the link k
  abbrev pub Going : ℕ → Type 0
  Going k = (k ≤ count) × At (store_in w count) (stack_node z place n) (bucket_of h) k

  bucket_is : bucket_of h ≡ bucket_of (node_hash (hash (store_in w count)) (stack_node z place n))
  bucket_is = ap bucket_of v.hashed

  pub begin : (b : ℕ) → b ≡ bucket_of h → b < 512 → Going (get_or z b 0)
  unfolding head
  begin b e l =
      let s = store_in w count in
      let c : length s ≡ count = store_length w count in
      let there : get_or z b 0 ≡ newest s b = v.index.heads b l in (
        omega (arith, there, newest_le s b),
        rw (there, e, bucket_is) (at_newest (hash s) (stack_node z place n) s v.records.sound (λ p k. refl)),
      )

  module _ (k : ℕ) (d : k ≡ 0 → ⊥) (g : Going k) where
    pub here : k - 1 < count
    here = omega (arith, g.0)

    pub hit : true ≡ same (stack_node z place n) (node_in w (k - 1)) → find (stack_node z place n) (store_in w count) ≡ at (k - 1)
    hit e = at_hit _ _ _ (k - 1) (at_pred _ _ _ k d g.1) (rw (store_node w count (k - 1) here) (sym e))

    pub onward : false ≡ same (stack_node z place n) (node_in w (k - 1)) → Going (link z (k - 1)) × (link z (k - 1) < k)
    onward e =
        let s = store_in w count in
        let c : length s ≡ count = store_length w count in
        let i : ℕ = k - 1 in
        let a : At s (stack_node z place n) (bucket_of h) (suc i) = at_pred _ _ _ k d g.1 in
        let l : length (older s i) ≡ i = older_length s i (omega (arith, here)) in
        let there : link z i ≡ newest (older s i) (bucket_of h) = v.index.links i (omega (arith, here)) ∙ ap (newest (older s i)) a.2 in
        let le : newest (older s i) (bucket_of h) ≤ length (older s i) = newest_le (older s i) (bucket_of h) in
        let next : At s (stack_node z place n) (bucket_of h) (newest (older s i) (bucket_of h)) =
        rw bucket_is (at_next (stack_node z place n) s v.records.sound i (rw bucket_is at a) (rw (store_node w count i here) (sym e))) in
        ((omega (arith, here), rw there next), omega (arith, here))

  pub missing : (k : ℕ) → k ≡ 0 → Going k → find (stack_node z place n) (store_in w count) ≡ nowhere
  missing k e g = at_none _ _ _ k e g.1
