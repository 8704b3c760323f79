-- To believe: the calls on a set as functions of what came in, document 01's refusals in its order of checking.
use Rattle.std.specs.Prelude.{◌≡◌, Bool, true, false, not, ◌&&◌, List, [], ◌∷◌, ℕ, ◌-◌, eqb, ltb, leb, length}
use Rattle.encoding.specs.Layout.{store_words, scratch_words, count as contexts}
use Rattle.encoding.specs.Decode.{store_of}
use Rattle.encoding.specs.Encode.{words_of}
use Rattle.encoding.specs.Decide.{sound}
use Rattle.encoding.specs.Store.{Store, at, nowhere}
use Rattle.store.specs.Counted.{Outcome, done as finished, standing, counting, count_of}
use Rattle.store.specs.Calls.{zeros, too_much_work, no_room}
use Rattle.sets.specs.Config.{Config}
use Rattle.sets.specs.Lists.{any}
use Rattle.sets.specs.Layout.{most_configs, set_words_length}
use Rattle.sets.specs.Sets.{Set, same_keys, held, empty_set, closed_set, Addition, add_to}
use Rattle.sets.specs.Words.{set_words, set_of, sound_set}
use Rattle.store.specs.Checks.{Check, given, unless}

-- a refusal with its number; done, for a set that is made or closed; 1 for a config that was inserted and 0 for one that was merged
pub data SetReply : Type 0 where
  refused : ℕ → SetReply
  done : SetReply
  added : ℕ → SetReply

-- the reply, how many merges were counted, how many contexts were made, and every word afterwards
pub record SetLeft : Type 0 where
  pub reply : SetReply
  pub merges : ℕ
  pub made : ℕ
  pub store : List ℕ
  pub set : List ℕ
  pub scratch : List ℕ

-- after n merges, with k contexts made
abbrev pub set_left_after : ℕ → ℕ → SetReply → List ℕ → List ℕ → List ℕ → SetLeft
set_left_after n k r w v z = record { reply = r; merges = n; made = k; store = w; set = v; scratch = z }

abbrev pub set_left : SetReply → List ℕ → List ℕ → List ℕ → SetLeft
set_left r w v z = set_left_after 0 0 r w v z

-- "Store, set and outputs stay as on entry; scratch is 0 (untouched on 2)"
unfoldable pub refusal : List ℕ → List ℕ → List ℕ → ℕ → SetLeft
refusal w v z n = elim (eqb n 2) [ true ↦ set_left (refused n) w v z | false ↦ set_left (refused n) w v zeros ]

-- the merge that an addition needs, counted: none where the key is new
unfoldable pub add_work : Store → Set → Config → Outcome ℕ
add_work s S x =
    elim (held x S.configs) [ at c ↦ counting (not S.full) s c x.context | nowhere ↦ finished 0 (standing s [] 0) ]

-- ---- the checks, in order

-- each lent slice has its length
unfoldable pub lent_lengths : List ℕ → List ℕ → List ℕ → Bool
lent_lengths w v z = eqb (length w) store_words && (eqb (length v) set_words_length && eqb (length z) scratch_words)

-- 2: a lent slice has a wrong length; 1: the store is not sound; 3: the set is not sound
unfoldable pub lent_checks : Bool → List ℕ → List ℕ → List Check → List Check
lent_checks lengths w v more = given 2 (not lengths) ∷ given 1 (not (sound w)) ∷ given 3 (not (sound_set (contexts w) v)) ∷ more

-- 7: `add` to a read-only set; 4: a context number is not below the count; 8: `add` with a new key to a set of 256
-- 12: too much work; 6: the same call in a store without ceilings would end above 512 contexts or 2,048 entries
unfoldable pub add_checks : List ℕ → List ℕ → List ℕ → Config → List Check
add_checks w v z x =
    lent_checks (lent_lengths w v z) w v
    (given 7 (set_of v).closed ∷ given 4 (not (ltb x.context (contexts w)))
    ∷ given 8 (not (any (same_keys x) (set_of v).configs) && leb most_configs (length (set_of v).configs))
    ∷ too_much_work (add_work (store_of w) (set_of v) x) ∷ no_room (add_to (store_of w) (set_of v) x).store ∷ [])

-- ---- the calls

-- "A fresh set is flag 1 or 0 and else zeros, over any contents"
unfoldable pub fresh_set_call : List ℕ → Bool → SetReply × List ℕ
fresh_set_call v f = unless (given 2 (not (eqb (length v) set_words_length)) ∷ []) (λ n. (refused n, v)) (done, set_words (empty_set f))

-- the addition A, after n merges; made is "exactly the count after less the count before", s being the store before
abbrev pub adds_after : ℕ → Store → Addition → SetLeft
adds_after n s A = set_left_after n (length A.store - length s) (added A.answer) (words_of A.store) (set_words A.set) zeros

unfoldable pub add_call : List ℕ → List ℕ → List ℕ → Config → SetLeft
add_call w v z x =
    unless (add_checks w v z x) (refusal w v z) (adds_after (count_of (add_work (store_of w) (set_of v) x)) (store_of w) (add_to (store_of w) (set_of v) x))

-- "Closing a set sets flag 8"
unfoldable pub close_call : List ℕ → List ℕ → List ℕ → SetLeft
close_call w v z = unless (lent_checks (lent_lengths w v z) w v []) (refusal w v z) (set_left done w (set_words (closed_set (set_of v))) zeros)

-- the reply is 1 for inserted or 0 for merged, and these are the words after
abbrev pub Adds : SetLeft → ℕ → List ℕ → List ℕ → Type 0
Adds x a w' v' = (x.reply ≡ added a) × (x.store ≡ w') × (x.set ≡ v')
