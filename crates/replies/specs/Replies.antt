-- To believe: what each record's call prints and leaves, as a function of the lent words.
pub mod Laws
use Rattle.std.specs.Prelude.{Bool, true, false, not, List, [], ◌∷◌, ◌++◌, ℕ, ◌-◌, eqb, ltb, length, get_or, take, drop}
use Rattle.layout.specs.Store.{node_at}
use Rattle.layout.specs.Layout.{scratch_words, blank}
use Rattle.layout.specs.Decode.{store_of}
use Rattle.store.specs.Checks.{given, unless}
use Rattle.store.specs.Calls.{Reply, refused, done, context, count, state, holds, none, Left, zeros, asked}
use Rattle.lines.specs.Calls.{SetReply, added, SetLeft, set_left, fresh_set_call, add_call, close_call}
use Rattle.lines.specs.Calls.{refused as setRefused, done as setDone}
use Rattle.figures.specs.VerdictsCalls.{VerdictReply, says, alternative, written, summary, because, VerdictLeft, most_stops}
use Rattle.figures.specs.VerdictsCalls.{refused as verdictRefused}
use Rattle.figures.specs.Calls.{figures_call}
use Rattle.figures.specs.Outputs.{alts_length}
use Rattle.reasons.specs.Calls.{why_call}
use Rattle.interning.specs.SingletonCall.{singleton_call}
use Rattle.contexts.specs.MergeCall.{merge_call}
use Rattle.format.specs.Format.{Record, singleton, merge, new_set, add, stops, verdict, show, close, why}
use Rattle.lines.specs.Lines.{context_line, new_set_line, added_line, stops_line, figures_line, reason_line, closed_line, refusal_line, entries_line}

-- the words that are lent to a script
pub record Lent : Type 0 where
  pub store : List ℕ
  pub set : List ℕ
  pub stops : List ℕ
  pub scratch : List ℕ

abbrev pub lent : List ℕ → List ℕ → List ℕ → List ℕ → Lent
lent w v t z = record { store = w; set = v; stops = t; scratch = z }

-- the bytes that were printed, and every lent word after that
pub record Printed : Type 0 where
  pub reply : List ℕ
  pub words : Lent

-- the scratch after what does not work in it: "all 0 on return"; one of a wrong length stays as it was
unfoldable pub wiped : List ℕ → List ℕ
wiped z = elim (eqb (length z) scratch_words) [ true ↦ zeros | false ↦ z ]

-- ---- calls on contexts

-- the line of a reply, where `made` contexts were made; `done` prints the bytes given
unfoldable pub line_of : List ℕ → ℕ → Reply → List ℕ
line_of e made (refused n) = refusal_line n
line_of e made done = e
line_of e made (context c) = context_line c made
line_of e made (count n) = []
line_of e made (state r) = []
line_of e made (holds b) = []
line_of e made none = []

abbrev pub on_store : Lent → List ℕ → Left → Printed
on_store l e x = record { reply = line_of e x.made x.reply; words = lent x.store l.set l.stops x.scratch }

-- ---- calls on the set

-- the line of a reply, where `made` contexts were made; `done` prints the bytes given
unfoldable pub set_line_of : List ℕ → ℕ → SetReply → List ℕ
set_line_of e made (setRefused n) = refusal_line n
set_line_of e made setDone = e
set_line_of e made (added n) = added_line n made

abbrev pub on_set : Lent → List ℕ → SetLeft → Printed
on_set l e x = record { reply = set_line_of e x.made x.reply; words = lent x.store x.set l.stops x.scratch }

-- a new set works in no scratch: it is 0 after, and "untouched on 2"
abbrev pub after_new : List ℕ → SetReply → List ℕ
after_new z (setRefused n) = z
after_new z setDone = wiped z
after_new z (added n) = wiped z

unfoldable pub new_set_call : List ℕ → List ℕ → List ℕ → Bool → SetLeft
new_set_call w v z full = let x = fresh_set_call v full in set_left x.0 w x.1 (after_new z x.0)

-- ---- stop states: 65 words, their number, the states, zeros

abbrev pub stop_words : List ℕ → List ℕ
stop_words xs = length xs ∷ xs ++ blank (most_stops - length xs)

-- the states that such words hold
unfoldable pub held_stops : List ℕ → List ℕ
held_stops t = take (get_or t 0 0) (drop 1 t)

-- "replaces the list; on `R 10` the old one stays"
unfoldable pub stops_call : List ℕ → List ℕ → List ℕ × List ℕ
stops_call t xs = unless (given 10 (ltb most_stops (length xs)) ∷ []) (λ n. (refusal_line n, t)) (stops_line (length xs), stop_words xs)

-- ---- the verdict, and why it is what it is

unfoldable pub verdict_line_of : VerdictReply → List ℕ
verdict_line_of (verdictRefused n) = refusal_line n
verdict_line_of (summary f) = figures_line f.subsets f.unique f.viable f.verdict
verdict_line_of (says b) = []
verdict_line_of (alternative a) = []
verdict_line_of written = []
verdict_line_of (because r) = reason_line r

abbrev pub on_verdict : Lent → VerdictLeft → Printed
on_verdict l x = record { reply = verdict_line_of x.reply; words = lent l.store l.set l.stops x.scratch }

-- ---- a record's call; `show` reads a known context of a sound store

unfoldable pub call_of : Lent → Record → Printed
call_of l (singleton p r) = on_store l [] (singleton_call l.store l.scratch p r)
call_of l (merge a b m) = on_store l [] (merge_call l.store l.scratch a b m)
call_of l (new_set m) = on_set l new_set_line (new_set_call l.store l.set l.scratch (not m))
call_of l (add x) = on_set l [] (add_call l.store l.set l.scratch x)
call_of l (stops xs) = let x = stops_call l.stops xs in record { reply = x.0; words = lent l.store l.set x.1 (wiped l.scratch) }
call_of l verdict = on_verdict l (figures_call l.store l.set l.scratch (held_stops l.stops))
call_of l why = on_verdict l (why_call l.store l.set l.scratch (held_stops l.stops) (blank alts_length))
call_of l (show c) = on_store l (entries_line (node_at (store_of l.store) c)) (asked l.store l.scratch c done)
call_of l close = on_set l closed_line (close_call l.store l.set l.scratch)
