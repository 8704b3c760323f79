-- Readers who choose each call by what they have seen. Nothing here has to be believed: no promise names it; `decided_as_if_alone` stands beside them.
use Rattle.std.specs.Prelude.{List, [], ◌∷◌, ◌++◌, ℕ, suc, eqb}
use Rattle.arena.specs.Rules.{Stacks}
use Rattle.encoding.specs.Decode.{store_of}
use Rattle.groups.specs.Lists.{which}
use Rattle.readers.specs.Calls.{Call, Lent, Got, Reader, step}
use Rattle.readers.specs.Runs.{see, By, after, put, fresh_store, starting}

-- the next call, by all that the reader has seen, the oldest first
abbrev pub Program : Type 0
Program = List (Got Stacks) → Call

-- the readers play by their programs, in a given order of turns
unfoldable pub play_from : (ℕ → Program) → (ℕ → Lent) → ℕ → List ℕ → (ℕ → Reader) → (ℕ → List (Got Stacks)) → List ℕ → List (By (Got Stacks))
play_from P lent n w Rs seen [] = []
play_from P lent n w Rs seen (i ∷ turns) =
    let D = step (lent n) w (Rs i) (P i (seen i)) in
    let got = see (store_of D.store) D.got in
    record { reader = i; what = got } ∷ play_from P lent (suc n) D.store (put Rs i (after (Rs i) D)) (put seen i (seen i ++ (got ∷ []))) turns

unfoldable pub play : (ℕ → Program) → (ℕ → Lent) → List ℕ → List (By (Got Stacks))
play P lent turns = play_from P lent 0 fresh_store (λ i. starting) (λ i. []) turns

-- the turns of reader i
abbrev pub turns_of : ℕ → List ℕ → List ℕ
turns_of i turns = which (λ k. eqb k i) turns
