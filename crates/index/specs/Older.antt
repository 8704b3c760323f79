-- The oldest k contexts of a store. Nothing here has to be believed.
use Rattle.std.specs.Prelude.{◌≡◌, refl, true, false, [], ◌∷◌, ℕ, suc, ◌<◌, ◌≤◌, ltb, length}
use Rattle.std.proofs.Common.{sym, arith, lt-ltb, le-ltb}
use Rattle.words.specs.Numbers.{two}
use Rattle.arena.specs.Store.{Node, Store, node_at}
use Rattle.arena.proofs.Soundness.{Sound}
use Rattle.arena.proofs.Trees.{node_new, node_old}

unfoldable pub older : Store → ℕ → Store
older [] k = []
older (n ∷ s) k = elim (ltb (length s) k) [ true ↦ n ∷ s | false ↦ older s k ]

pub older_all : (s : Store) (k : ℕ) → length s ≤ k → older s k ≡ s
unfolding older
older_all [] k h = refl
older_all (n ∷ s) k h = rw (lt-ltb (length s) k (omega arith), older)

pub older_part : (n : Node) (s : Store) (k : ℕ) → k ≤ length s → older (n ∷ s) k ≡ older s k
unfolding older
older_part n s k h = rw (le-ltb (length s) k h, older)

pub older_length : (s : Store) (k : ℕ) → k ≤ length s → length (older s k) ≡ k
unfolding older
older_length [] k h = omega arith
older_length (n ∷ s) k h =
    two k (suc (length s))
    (λ e. rw (older_all (n ∷ s) k (omega arith)) (sym e))
    (λ d. rw (older_part n s k (omega arith)) (older_length s k (omega arith)))

pub older_next : (s : Store) (c : ℕ) → c < length s → older s (suc c) ≡ node_at s c ∷ older s c
older_next [] c h = absurd (omega arith)
older_next (n ∷ s) c h =
    two c (length s)
    (λ e. rw (older_all (n ∷ s) (suc c) (omega arith), node_new n s c e, older_part n s c (omega arith), older_all s c (omega arith)))
    (λ d. rw (older_part n s (suc c) (omega arith), node_old n s c (omega arith), older_part n s c (omega arith)) (older_next s c (omega arith)))

pub older_sound : (s : Store) (k : ℕ) → Sound s → k ≤ length s → Sound (older s k)
older_sound [] k w h = rw (older_all [] k (omega arith)) tt
older_sound (n ∷ s) k w h =
    two k (suc (length s))
    (λ e. rw (older_all (n ∷ s) k (omega arith)) w)
    (λ d. rw (older_part n s k (omega arith)) (older_sound s k w.3 (omega arith)))
