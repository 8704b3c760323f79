-- Where the pool stands after a record: parents' records end before their child's entries, which is why the entry stack is long enough.
-- Nothing here has to be believed.
use Rattle.std.specs.Prelude.{◌≡◌, refl, [], ◌∷◌, ◌++◌, ℕ, suc, ◌<◌, ◌≤◌, ◌+◌, length}
use Rattle.std.proofs.Common.{ap, ◌∙◌, arith, length-append}
use Rattle.words.specs.Numbers.{two}
use Rattle.arena.specs.Store.{Store, node_at}
use Rattle.arena.proofs.Trees.{node_old}
use Rattle.arena.proofs.Placed.{Grew}
use Rattle.arena.specs.Room.{room, pool}
use Rattle.index.specs.Older.{older, older_all, older_part, older_next}

-- the pool entries of the first c + 1 records
unfoldable pub ends : Store → ℕ → ℕ
ends s c = pool (older s (suc c))

older_pool : (s : Store) (j : ℕ) → pool (older s j) ≤ pool s
unfolding older pool
older_pool [] j = omega arith
older_pool (n ∷ s) j =
    Rattle.words.specs.Numbers.three j (suc (length s))
    (λ l. rw (older_part n s j (omega arith)) (omega (arith, older_pool s j)))
    (λ e. rw (older_all (n ∷ s) j (omega arith)) (omega arith))
    (λ l. rw (older_all (n ∷ s) j (omega arith)) (omega arith))

pub ends_most : (s : Store) (c : ℕ) → ends s c ≤ pool s
unfolding ends
ends_most s c = older_pool s (suc c)

older_less : (s : Store) (j i : ℕ) → j ≤ i → i ≤ length s → pool (older s j) ≤ pool (older s i)
older_less [] j i h k = rw (older_all [] j (omega arith), older_all [] i (omega arith)) (omega arith)
older_less (n ∷ s) j i h k =
    two i (suc (length s))
    (λ e. rw (older_all (n ∷ s) i (omega arith)) (older_pool (n ∷ s) j))
    (λ d. rw (older_part n s i (omega arith), older_part n s j (omega arith)) (older_less s j i h (omega arith)))

-- a parent's record ends before its child's entries begin
pub ends_inner : (s : Store) (a p : ℕ) → a < length s → p < a → ends s p + room (node_at s a) ≤ ends s a
unfolding ends pool
ends_inner s a p h k = rw (older_next s a h) (omega (arith, older_less s (suc p) a k (omega arith)))

pub ends_room : (s : Store) (a : ℕ) → a < length s → room (node_at s a) ≤ ends s a
unfolding ends pool
ends_room s a h = rw (older_next s a h) (omega arith)

pub ends_le : (s : Store) (a p : ℕ) → a < length s → p ≤ a → ends s p ≤ ends s a
unfolding ends
ends_le s a p h k = older_less s (suc p) (suc a) (omega arith) h

-- growth leaves the ends of older records where they were
ends_more : (k s : Store) (c : ℕ) → c < length s → ends (k ++ s) c ≡ ends s c
unfolding ends
ends_more [] s c h = refl
ends_more (n ∷ k) s c h = ap pool (older_part n (k ++ s) (suc c) (omega (arith, length-append k s))) ∙ ends_more k s c h

pub ends_grew : (s u : Store) → Grew s u → (c : ℕ) → c < length s → ends u c ≡ ends s c
ends_grew s u g c h = rw g.1 (ends_more g.0 s c h)

node_more : (k s : Store) (c : ℕ) → c < length s → node_at (k ++ s) c ≡ node_at s c
node_more [] s c h = refl
node_more (n ∷ k) s c h = node_old n (k ++ s) c (omega (arith, length-append k s)) ∙ node_more k s c h

pub grew_node_at : (s u : Store) → Grew s u → (c : ℕ) → c < length s → node_at u c ≡ node_at s c
grew_node_at s u g c h = rw g.1 (node_more g.0 s c h)
