-- To believe: what a reader calls, how it names contexts, and what each call of the library answers it and leaves.
use Rattle.std.specs.Prelude.{◌≡◌, Bool, List, [], ◌∷◌, ℕ, zero, suc, length, get_or, take, drop}
use Rattle.encoding.specs.Layout.{scratch_words}
use Rattle.store.specs.Calls as Stores
use Rattle.store.specs.Calls.{Reply, Left}
use Rattle.interning.specs.SingletonCall.{singleton_call}
use Rattle.configs.specs.MergeCall.{merge_call}
use Rattle.queries.specs.Queries.{Question, query_call}
use Rattle.sets.specs.Config.{config}
use Rattle.sets.specs.Calls as Sets
use Rattle.sets.specs.Calls.{SetReply, SetLeft, fresh_set_call, add_call, close_call}
use Rattle.groups.specs.Reason.{Reason, stop, none, one, clash}
use Rattle.reasons.specs.Outputs.{subsets_length, alts_length}
use Rattle.reasons.specs.VerdictsCalls as Verdicts
use Rattle.reasons.specs.VerdictsCalls.{VerdictReply, VerdictLeft, conflicting_alt_subsets_call, conflicting_alts_call, unique_alt_call, single_viable_alt_call, all_subsets_conflict_call, all_subsets_equal_call}
use Rattle.reasons.specs.VerdictsCalls.{verdict_call}
use Rattle.reasons.specs.Calls.{why_call}

-- "naming a context only as 0 or as an earlier answer of its own": by its place, from 0 on, in the list of 0 and the contexts among its answers; a
-- place past the end is 0 too
abbrev pub Name : Type 0
Name = ℕ

pub data Call : Type 0 where
  singleton : Name → ℕ → Call
  merge : Name → Name → Bool → Call
  query : Question → Name → Call
  fresh_set : Bool → Call
  add : ℕ → ℕ → Name → ℕ → ℕ → ℕ → Call  -- state, alternative, context, semantic id, reach, provenance
  close : Call
  subsets conflicting_alts unique_alt single_viable_alt all_subsets_conflict all_subsets_equal : Call
  verdict why : List ℕ → Call  -- the stop states

-- what is lent for one call besides store and set, with any contents: scratch, and words for subsets and for alternatives
pub record Lent : Type 0 where
  pub scratch : List ℕ
  pub subsets : List ℕ
  pub alternatives : List ℕ

abbrev pub Sized : Lent → Type 0
Sized L = (length L.scratch ≡ scratch_words) × (length L.subsets ≡ subsets_length) × (length L.alternatives ≡ alts_length)

-- ---- answers

-- an answer that names no context, as it is
pub data Plain : Type 0 where
  of_store : Reply → Plain
  of_set : SetReply → Plain
  of_subsets : VerdictReply → Plain
  words : List ℕ → Plain

-- a subset, and an answer, with contexts of any sort: numbers as the library gives them, sets of stacks as a reader sees them
pub record Part (C : Type 0) : Type 0 where
  pub state : ℕ
  pub context : C
  pub alternatives : List ℕ

abbrev pub part : {C : Type 0} → ℕ → C → List ℕ → Part C
part q c l = record { state = q; context = c; alternatives = l }

pub data Got (C : Type 0) : Type 0 where
  refused : ℕ → Got C
  context : C → Got C
  groups : List (Part C) → Got C
  plain : Plain → Got C

unfoldable pub told : Reply → Got ℕ
told (Stores.refused n) = refused n
told (Stores.context c) = context c
told Stores.done = plain (of_store Stores.done)
told (Stores.count n) = plain (of_store (Stores.count n))
told (Stores.state r) = plain (of_store (Stores.state r))
told (Stores.holds b) = plain (of_store (Stores.holds b))
told Stores.none = plain (of_store Stores.none)

unfoldable pub settled : SetReply → Got ℕ
settled (Sets.refused n) = refused n
settled Sets.done = plain (of_set Sets.done)
settled (Sets.added a) = plain (of_set (Sets.added a))

-- a clash as the subset that clashes, whose context is a context like any other
unfoldable pub reasoned : Reason → Got ℕ
reasoned stop = plain (of_subsets (Verdicts.because stop))
reasoned none = plain (of_subsets (Verdicts.because none))
reasoned (one s a) = plain (of_subsets (Verdicts.because (one s a)))
reasoned (clash s k xs) = groups (part s k xs ∷ [])

-- g is what the words hold that were written
unfoldable pub judged : VerdictReply → Got ℕ → Got ℕ
judged (Verdicts.refused n) g = refused n
judged (Verdicts.says b) g = plain (of_subsets (Verdicts.says b))
judged (Verdicts.alternative a) g = plain (of_subsets (Verdicts.alternative a))
judged Verdicts.written g = g
judged (Verdicts.summary x) g = plain (of_subsets (Verdicts.summary x))
judged (Verdicts.because r) g = reasoned r

-- "group count, then per group state, context, alternative count, alternatives"
unfoldable pub groups_from : ℕ → List ℕ → List (Part ℕ)
groups_from zero o = []
groups_from (suc n) o = part (get_or o 0 0) (get_or o 1 0) (take (get_or o 2 0) (drop 3 o)) ∷ groups_from n (drop (get_or o 2 0) (drop 3 o))

abbrev pub groups_in : List ℕ → List (Part ℕ)
groups_in o = groups_from (get_or o 0 0) (drop 1 o)

-- ---- one call

-- a reader's own: its set's words, and the contexts that it may name: 0, and those among its answers, the oldest first
pub record Reader : Type 0 where
  pub set : List ℕ
  pub names : List ℕ

-- what a call leaves: the answer, and the words of the store and of the reader's set
pub record Done : Type 0 where
  pub got : Got ℕ
  pub store : List ℕ
  pub set : List ℕ

abbrev pub leaving : Got ℕ → List ℕ → List ℕ → Done
leaving g w v = record { got = g; store = w; set = v }

abbrev pub named : Reader → Name → ℕ
named R n = get_or R.names n 0

-- how many contexts the call made is left out: fewer where another reader made them before (request A3); and how many merges it counted
abbrev pub on_store : Reader → Left → Done
on_store R x = leaving (told x.reply) x.store R.set

abbrev pub on_set : SetLeft → Done
on_set x = leaving (settled x.reply) x.store x.set

-- store and set stay
abbrev pub on_subsets : List ℕ → Reader → (List ℕ → Got ℕ) → VerdictLeft → Done
on_subsets w R read x = leaving (judged x.reply (read x.output)) w R.set

abbrev pub words_only : List ℕ → Got ℕ
words_only o = plain (words o)

-- what reader R's call leaves, over the store w
unfoldable pub step : Lent → List ℕ → Reader → Call → Done
step L w R (singleton n r) = on_store R (singleton_call w L.scratch (named R n) r)
step L w R (merge n k m) = on_store R (merge_call w L.scratch (named R n) (named R k) m)
step L w R (query q n) = on_store R (query_call q w L.scratch (named R n))
step L w R (fresh_set f) = let x = fresh_set_call R.set f in leaving (settled x.0) w x.1
step L w R (add q a n m r p) = on_set (add_call w R.set L.scratch (config q a (named R n) m r p))
step L w R close = on_set (close_call w R.set L.scratch)
step L w R subsets = on_subsets w R (λ o. groups (groups_in o)) (conflicting_alt_subsets_call w R.set L.scratch L.subsets)
step L w R conflicting_alts = on_subsets w R words_only (conflicting_alts_call w R.set L.scratch L.alternatives)
step L w R unique_alt = on_subsets w R words_only (unique_alt_call w R.set L.scratch)
step L w R single_viable_alt = on_subsets w R words_only (single_viable_alt_call w R.set L.scratch)
step L w R all_subsets_conflict = on_subsets w R words_only (all_subsets_conflict_call w R.set L.scratch)
step L w R all_subsets_equal = on_subsets w R words_only (all_subsets_equal_call w R.set L.scratch)
step L w R (verdict stops) = on_subsets w R words_only (verdict_call w R.set L.scratch stops)
step L w R (why stops) = on_subsets w R words_only (why_call w R.set L.scratch stops L.alternatives)
