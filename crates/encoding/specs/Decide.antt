-- To believe: a test that decides soundness of words: they are the words of the store that they hold, and that store is good.
use Rattle.std.specs.Prelude.{Bool, true, false, ◌&&◌, List, [], ◌∷◌, ℕ, suc, eqb, ltb, leb, length}
use Rattle.arena.specs.Store.{Node, end, dollar, push, Store, at, nowhere, find}
use Rattle.arena.specs.Kinds.{size}
use Rattle.arena.specs.Room.{pool}
use Rattle.layout.specs.Layout.{most_contexts, most_entries, stop}
use Rattle.layout.specs.Decode.{store_of}
use Rattle.layout.specs.Encode.{words_of}

-- ---- the tests

-- the same words
unfoldable pub same_words : List ℕ → List ℕ → Bool
same_words [] [] = true
same_words [] (y ∷ u) = false
same_words (x ∷ w) [] = false
same_words (x ∷ w) (y ∷ u) = eqb x y && same_words w u

-- the states rise from `lo` on, each is none of `$`, and the parents are older than c
unfoldable pub rises : ℕ → ℕ → Node → Bool
rises lo c end = true
rises lo c dollar = true
rises lo c (push r p n) = leb lo r && (ltb r stop && (ltb p c && rises (suc r) c n))

-- each record is such and has an entry, and no older record is the same
unfoldable pub sound_store : Store → Bool
sound_store [] = true
sound_store (n ∷ s) = rises 0 (length s) n && (ltb 0 (size n) && elim (find n s) [ at c ↦ false | nowhere ↦ sound_store s ])

-- the store is within the ceilings
unfoldable pub fits : Store → Bool
fits s = leb (length s) most_contexts && leb (pool s) most_entries

-- the words are sound
unfoldable pub sound : List ℕ → Bool
sound w = let s = store_of w in sound_store s && (ltb 0 (length s) && (fits s && same_words w (words_of s)))
