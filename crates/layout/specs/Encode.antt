-- To believe: the words of a store: zeros, with one record written after the other, the oldest first.
use Rattle.std.specs.Prelude.{List, [], ◌∷◌, ℕ, suc, ◌+◌, ◌*◌, length, set}
use Rattle.arena.specs.Store.{Node, end, dollar, push, Store}
use Rattle.arena.specs.Kinds.{size}
use Rattle.arena.specs.Room.{room, pool}
use Rattle.layout.specs.Layout.{store_words, stop, blank}

-- one pool entry
unfoldable pub put_pool : List ℕ → ℕ → ℕ → ℕ → List ℕ
put_pool w i p r = set (set w (1538 + i) p) (3586 + i) r

-- entries put into the pool from place i on
unfoldable pub fill : List ℕ → ℕ → Node → List ℕ
fill w i end = w
fill w i dollar = put_pool w i 0 stop
fill w i (push r p n) = fill (put_pool w i p r) (suc i) n

-- the three words of record c
unfoldable pub put_record : List ℕ → ℕ → ℕ → ℕ → ℕ → List ℕ
put_record w c k a b = set (set (set w (2 + 3 * c) k) (2 + 3 * c + 1) a) (2 + 3 * c + 2) b

-- the two counts
unfoldable pub put_counts : List ℕ → ℕ → ℕ → List ℕ
put_counts w c i = set (set w 0 c) 1 i

-- record c of the entries n, whose pool entries, if it has any, start at place i
unfoldable pub put_node : List ℕ → ℕ → ℕ → Node → List ℕ
put_node w c i end = w
put_node w c i dollar = w
put_node w c i (push r p end) = put_record w c 1 p r
put_node w c i (push r p dollar) = put_record (fill w i (push r p dollar)) c 2 i 2
put_node w c i (push r p (push q o n)) = put_record (fill w i (push r p (push q o n))) c 2 i (size (push r p (push q o n)))

-- one record more
unfoldable pub written : List ℕ → Store → Node → List ℕ
written w s n = put_counts (put_node w (length s) (pool s) n) (suc (length s)) (pool s + room n)

unfoldable pub words_of : Store → List ℕ
words_of [] = blank store_words
words_of (n ∷ s) = written (words_of s) s n
