-- Laying a record's list out word by word, and the two answers of `agreeing`. Assumes nothing.
use mathlib.Core.Bool.{false}
use mathlib.Core.List.{List, [], ◌∷◌, ◌++◌}
use mathlib.Core.Path.{◌≡◌, sym, ap, ◌∙◌}
use Prim.Native.Nat.{ℕ, ◌+◌, ◌≤◌, ◌<◌}
use native.Mathlib.Numerals.{add-one}
use native.Mathlib.Omega.{arith}
use borrow.Author.Tests.{le-leb, lt-leb}
use lib.Dec.{eqb}
use lib.ListN.{length, set, take}
use lib.Seq.{take-suc-set}
use Rattle.hashes.specs.Records.{agreeing, list_in, word_at}
use Rattle.words.specs.Hash.{hash_of}

-- one store more
pub stored : (bytes list : List ℕ) (i w : ℕ) → i + 1 ≤ length list → take i list ≡ list_in bytes i → w ≡ word_at bytes (i + 1)
    → take (i + 1) (set list i w) ≡ list_in bytes (i + 1)
unfolding list_in
stored bytes list i w h e f =
    ap (λ (n : ℕ). take n (set list i w)) (add-one i)
    ∙ take-suc-set list i w (omega arith)
    ∙ ap (λ (t : List ℕ). t ++ w ∷ []) e
    ∙ ap (λ (v : ℕ). list_in bytes i ++ v ∷ []) f
    ∙ ap (list_in bytes) (sym (add-one i))

pub agreeing_long : (bytes : List ℕ) → 14 < word_at bytes 0 → agreeing bytes ≡ false
unfolding agreeing
agreeing_long bytes h = rw (lt-leb (word_at bytes 0) 14 h, agreeing)

pub agreeing_short : (bytes : List ℕ) → word_at bytes 0 ≤ 14 → agreeing bytes ≡ eqb (hash_of (list_in bytes (word_at bytes 0))) (word_at bytes 15)
unfolding agreeing
agreeing_short bytes h = rw (le-leb (word_at bytes 0) 14 h, agreeing)
