-- Small merges at the real ceilings, computed. Nothing here has to be believed.
use Rattle.std.specs.Prelude.{◌≡◌, refl, Bool, true, false, List, [], ◌∷◌, ℕ, zero, suc, ◌+◌, length, replicate}
use Rattle.arena.specs.Store.{Node, end, dollar, push, Store, node_at, same, find}
use Rattle.arena.specs.Place.{intern, listed}
use Rattle.arena.specs.Kinds.{size}
use Rattle.arena.specs.Room.{room, pool}
use Rattle.encoding.specs.Decide.{fits}
use Rattle.work.specs.Counted.{Result, State, standing, Outcome, done, refused, and_then, recall, keep, completed, interned}
use Rattle.work.specs.Counted.{before, walk, made, begins, step, deep, counted}
use Rattle.work.proofs.CountedLaws.{result}

-- the answer, how many contexts there are, how many results are kept, and the count; or the refusal
pub data Told : Type 0 where
  told : ℕ → ℕ → ℕ → ℕ → Told
  no : ℕ → Told

tell : Outcome ℕ → Told
tell (done c t) = told c (length t.store) (length t.kept) t.count
tell (refused n) = no n

-- a merge from a state
from : State → Bool → ℕ → ℕ → Told
unfolding tell counted deep step begins recall made walk before and_then interned keep completed intern listed find same node_at size room pool fits
from t m a b = tell (counted m t a b)

-- ---- a chain: 1 is 5 over 0, 2 is 6 over 0, 3 is 7 over 1, 4 is 7 over 2

chain : Store
chain = push 7 2 end ∷ push 7 1 end ∷ push 6 0 end ∷ push 5 0 end ∷ dollar ∷ []

-- 3 and 4, and beneath them 1 and 2: two merges, two contexts made
chain_merge : from (standing chain [] 0) false 3 4 ≡ told 6 7 2 2
unfolding from chain
chain_merge = refl

-- equal numbers do not count
chain_equal : from (standing chain [] 0) false 3 3 ≡ told 3 5 0 0
unfolding from chain
chain_equal = refl

-- by wildcard context 0 swallows: counted, and kept
chain_swallowed : from (standing chain [] 0) true 3 0 ≡ told 0 5 1 1
unfolding from chain
chain_swallowed = refl

-- a hit does not count, whichever side stands first
chain_hit : from (standing chain (result false 1 2 0 ∷ []) 0) false 2 1 ≡ told 0 5 1 0
unfolding from chain
chain_hit = refl

-- a result of the other kind is no hit
chain_other_kind : from (standing chain (result true 1 2 0 ∷ []) 0) false 1 2 ≡ told 5 6 2 1
unfolding from chain
chain_other_kind = refl

-- ---- a diamond: 3 is 7 over 1 and 8 over 1, 4 is 7 over 2 and 8 over 2

diamond : Store
diamond = push 7 2 (push 8 2 end) ∷ push 7 1 (push 8 1 end) ∷ push 6 0 end ∷ push 5 0 end ∷ dollar ∷ []

-- 3 and 4, then 1 and 2 under 7; under 8 that result is kept
diamond_merge : from (standing diamond [] 0) false 3 4 ≡ told 6 7 2 2
unfolding from diamond
diamond_merge = refl

-- so many results that no merge asks for
others : ℕ → List Result
others n = replicate n (result true 0 0 0)

-- the 1,024th result is kept, and answers 1 and 2 under 8; the result of 3 and 4 is not kept
cache_last : from (standing diamond (others 1023) 0) false 3 4 ≡ told 6 7 1024 2
unfolding from diamond others
cache_last = refl

-- no 1,025th, and none is replaced: 1 and 2 count twice
cache_full : from (standing diamond (others 1024) 0) false 3 4 ≡ told 6 7 1024 3
unfolding from diamond others
cache_full = refl

-- ---- the ceiling on work

-- the count may be 65,536
work_enough : from (standing diamond [] 65534) false 3 4 ≡ told 6 7 2 65536
unfolding from diamond
work_enough = refl

-- and not 65,537
work_short : from (standing diamond [] 65535) false 3 4 ≡ no 12
unfolding from diamond
work_short = refl

-- ---- the ceilings on room

-- so many entries, over context 0
wide : ℕ → Node
wide zero = dollar
wide (suc n) = push (5000 + n) 0 (wide n)

-- the diamond, and an array of n entries and `$` as context 5: the merge of 3 and 4 takes 4 entries more than the diamond's 4
beside : ℕ → Store
beside n = wide n ∷ diamond

room_enough : from (standing (beside 2039) [] 0) false 3 4 ≡ told 7 8 2 2
unfolding from diamond beside wide
room_enough = refl

room_short : from (standing (beside 2040) [] 0) false 3 4 ≡ no 6
unfolding from diamond beside wide
room_short = refl

-- short of both: the one that is reached first. There is room for the context under 7 and 8 and none for the one above;
-- with the cache full a third merge comes before that.
work_first : from (standing (beside 2041) (others 1024) 65534) false 3 4 ≡ no 12
unfolding from diamond beside wide others
work_first = refl

-- there is no room under 7, and that comes before the third merge
room_first : from (standing (beside 2042) (others 1024) 65534) false 3 4 ≡ no 6
unfolding from diamond beside wide others
room_first = refl
