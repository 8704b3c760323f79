-- Entries on the stack written as a record: one word pair at a time, and as a whole. Nothing here has to be believed.
use Rattle.std.specs.Prelude.{◌≡◌, refl, List, ℕ, suc, ◌<◌, ◌≤◌, ◌+◌, ◌-◌, length}
use Rattle.std.proofs.Common.{arith, length-set}
use Rattle.words.specs.Numbers.{two}
use Rattle.arena.specs.Store.{Node, end, dollar, push, Store}
use Rattle.arena.specs.Kinds.{size}
use Rattle.arena.proofs.KindsLaws.{room_many}
use Rattle.arena.specs.Room.{room, pool}
use Rattle.layout.specs.Layout.{stop}
use Rattle.layout.specs.Scratch.{stack_parent, stack_state}
use Rattle.layout.specs.Listing.{listing}
use Rattle.layout.specs.Listing.Laws.{Entries, listing_stop, listing_more, stop_last}
use Rattle.layout.specs.Encode.{put_pool, fill, put_record, put_counts, put_node, written}
use Rattle.index.specs.Records.{Stacked, stack_node}
use Rattle.index.specs.Walk.{entries_from}

-- the first entry goes into the pool, and then the rest
fill_step : (w : List ℕ) (st pa : ℕ → ℕ) (q i k c : ℕ) → Entries st pa i (suc k) c
    → fill w q (listing st pa i (suc k)) ≡ fill (put_pool w q (pa i) (st i)) (suc q) (listing st pa (suc i) k)
unfolding fill listing
fill_step w st pa q i k c v =
    two (st i) stop
    (λ e. rw (listing_stop st pa i k e, stop_last st pa i k c v e, v.dollar i (omega arith) (omega arith) e, e))
    (λ n. rw (listing_more st pa i k n))

-- entry i of n goes into the pool, and then those from i + 1 on
pub fill_turn : (w z : List ℕ) (q at n c i : ℕ) → Stacked z at n c → i < n
    → fill w (q + i) (stack_node z (at + i) (n - i)) ≡ fill (put_pool w (q + i) (stack_parent z (at + i)) (stack_state z (at + i))) (q + (i + 1)) (stack_node z (at + (i + 1)) (n - (i + 1)))
fill_turn w z q at n c i v h =
    let k : ℕ = n - (i + 1) in
    let a : n - i ≡ suc k = omega arith in
    let b : at + (i + 1) ≡ suc (at + i) = omega arith in
    let d : q + (i + 1) ≡ suc (q + i) = omega arith in
    let e : Entries (stack_state z) (stack_parent z) (at + i) (suc k) c = rw a at (entries_from (stack_state z) (stack_parent z) at n c i v.entries (omega arith)) in
    rw (a, b, d) (fill_step w (stack_state z) (stack_parent z) (q + i) (at + i) k c e)

pub fill_start : (w z : List ℕ) (q at n : ℕ) → fill w q (stack_node z at n) ≡ fill w (q + 0) (stack_node z (at + 0) (n - 0))
fill_start w z q at n =
    let a : at + 0 ≡ at = omega arith in
    let b : n - 0 ≡ n = omega arith in
    let d : q + 0 ≡ q = omega arith in
    rw (a, b, d)

pub fill_end : (w z : List ℕ) (q at n i : ℕ) → n ≤ i → fill w (q + i) (stack_node z (at + i) (n - i)) ≡ w
unfolding fill listing
fill_end w z q at n i h = let a : n - i ≡ 0 = omega arith in rw a

-- ---- a whole record

many_node : (w : List ℕ) (c i : ℕ) (n : Node) → 2 ≤ size n → put_node w c i n ≡ put_record (fill w i n) c 2 i (size n)
unfolding put_node size
many_node w c i end h = absurd (omega arith)
many_node w c i dollar h = absurd (omega arith)
many_node w c i (push r p end) h = absurd (omega arith)
many_node w c i (push r p dollar) h = refl
many_node w c i (push r p (push q o n)) h = refl

pub written_array : (w : List ℕ) (s : Store) (n : Node) (k : ℕ) → size n ≡ k → 2 ≤ k
    → written w s n ≡ put_counts (put_record (fill w (pool s) n) (length s) 2 (pool s) k) (suc (length s)) (pool s + k)
unfolding written
written_array w s n k e h = rw (many_node w (length s) (pool s) n (omega arith), room_many n (omega arith), e)

pub written_single : (w : List ℕ) (s : Store) (r p : ℕ) → written w s (push r p end) ≡ put_counts (put_record w (length s) 1 p r) (suc (length s)) (pool s)
unfolding written put_node room
written_single w s r p = let e : pool s + 0 ≡ pool s = omega arith in rw e

pub length_put_pool : (w : List ℕ) (i p r : ℕ) → length (put_pool w i p r) ≡ length w
unfolding put_pool
length_put_pool w i p r = simp length-set
