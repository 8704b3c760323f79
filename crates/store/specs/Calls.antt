-- To believe: what a call leaves, as a function of what came in: document 01's table of refusals, in its order of checking.
pub mod Laws
use Rattle.std.specs.Prelude.{◌≡◌, Bool, true, false, not, ◌&&◌, List, [], ◌∷◌, ℕ, ◌-◌, eqb, ltb, length}
use Rattle.layout.specs.Store.{Store, dollar}
use Rattle.layout.specs.Layout.{store_words, scratch_words, blank, count as contexts}
use Rattle.layout.specs.Encode.{words_of}
use Rattle.encoding.specs.Decide.{sound, fits}
use Rattle.work.specs.Counted.{Outcome, too_much}
use Rattle.store.specs.Checks.{Check, given, unless}

-- a reply: a refusal with its number and nothing else, or what was asked for; a context, a state and a count are never one another
pub data Reply : Type 0 where
  refused : ℕ → Reply
  done : Reply
  context : ℕ → Reply
  count : ℕ → Reply
  state : ℕ → Reply
  holds : Bool → Reply
  none : Reply

-- the reply, how many merges were counted, how many contexts were made, and every word afterwards
pub record Left : Type 0 where
  pub reply : Reply
  pub merges : ℕ
  pub made : ℕ
  pub store : List ℕ
  pub scratch : List ℕ

-- after n merges, with k contexts made
abbrev pub leaves_after : ℕ → ℕ → Reply → List ℕ → List ℕ → Left
leaves_after n k r w z = record { reply = r; merges = n; made = k; store = w; scratch = z }

abbrev pub leaves : Reply → List ℕ → List ℕ → Left
leaves r w z = leaves_after 0 0 r w z

-- the scratch as a call that was not refused 2 leaves it
unfoldable pub zeros : List ℕ
zeros = blank scratch_words

-- a reply that changes no word of the store
abbrev pub kept : Reply → List ℕ → Left
kept r w = leaves r w zeros

-- "Store .. stay as on entry; scratch is 0 (untouched on 2)"
unfoldable pub refusal : List ℕ → List ℕ → ℕ → Left
refusal w z n = elim (eqb n 2) [ true ↦ leaves (refused n) w z | false ↦ kept (refused n) w ]

-- ---- the checks, by what document 01's table says of each

-- "a lent slice has a wrong length"
abbrev pub wrong_length : List ℕ → List ℕ → Check
wrong_length w z = given 2 (not (eqb (length w) store_words && eqb (length z) scratch_words))

-- "the store is not sound"
abbrev pub unsound_store : List ℕ → Check
unsound_store w = given 1 (not (sound w))

-- "a context number is not below the count"
abbrev pub unknown_context : List ℕ → ℕ → Check
unknown_context w c = given 4 (not (ltb c (contexts w)))

-- "the same call in a store without ceilings would end above 512 contexts or 2,048 entries"
abbrev pub no_room : Store → Check
no_room s = given 6 (not (fits s))

-- "too much work": more merges than the ceiling
abbrev pub too_much_work : Outcome ℕ → Check
too_much_work o = given 12 (too_much o)

-- ---- what a call leaves that is not refused

-- the number and the words of the store of x, after n merges; made is "exactly the count after less the count before", s being the store before
abbrev pub gives_after : ℕ → Store → ℕ × Store → Left
gives_after n s x = leaves_after n (length x.1 - length s) (context x.0) (words_of x.1) zeros

abbrev pub gives : Store → ℕ × Store → Left
gives s x = gives_after 0 s x

-- a call that only reads, on the context c: w is the store's words, z the scratch's, r the reply
abbrev pub ask_checks : List ℕ → List ℕ → ℕ → List Check
ask_checks w z c = wrong_length w z ∷ unsound_store w ∷ unknown_context w c ∷ []

unfoldable pub asked : List ℕ → List ℕ → ℕ → Reply → Left
asked w z c r = unless (ask_checks w z c) (refusal w z) (kept r w)

-- a fresh store, over any earlier contents
unfoldable pub fresh_call : List ℕ → Reply × List ℕ
fresh_call w = unless (given 2 (not (eqb (length w) store_words)) ∷ []) (λ n. (refused n, w)) (done, words_of (dollar ∷ []))

-- the reply is a context's number, and these are the words after
abbrev pub Accepts : Left → ℕ → List ℕ → Type 0
Accepts x c w' = (x.reply ≡ context c) × (x.store ≡ w')
