-- A run of two readers that lacks no room, and in which the second's numbers are not those that it gets alone. Nothing here has to be believed.
use Rattle.std.specs.Prelude.{◌≡◌, refl, true, false, List, [], ◌∷◌, ℕ}
use Rattle.std.proofs.Common.{sym, subst}
use Rattle.arena.specs.Numbers.{never}
use Rattle.arena.specs.Merge.{is_mark, wild, merge_e, merge_t}
use Rattle.std.proofs.Math.ListN.{length}
use Rattle.arena.specs.Store.{Store, tree_of, tree, same, find, node_at}
use Rattle.arena.specs.Kinds.{size}
use Rattle.arena.specs.Room.{room, pool}
use Rattle.arena.specs.Place.{listed, intern, place_e, place, merge_s}
use Rattle.encoding.specs.Decide.{fits}
use Rattle.store.specs.Checks.{unless}
use Rattle.store.specs.Calls.{gives}
use Rattle.interning.specs.SingletonCall.{single_s}
use Rattle.store.specs.Counted.{too_much, counting, counted, deep, step, recall, begins, made, walk, before, and_then, interned, completed, keep}
use Rattle.sets.specs.Config.{config}
use Rattle.sets.specs.Lists.{any, all}
use Rattle.sets.specs.Sets.{empty_set, with_configs}
use Rattle.groups.specs.Lists.{which}
use Rattle.groups.specs.Groups as Grouped
use Rattle.groups.specs.Groups.{insert, rising, alts_of, together, firsts, subset}
use Rattle.groups.specs.Answers.{many, stopped, just_one}
use Rattle.groups.specs.Reason.{pick, reason}
use Rattle.readers.specs.Calls.{Call, singleton, merge, why, Lent, Sized, part, Got, context, groups, reasoned}
use Rattle.readers.specs.Runs.{see, heard, By, run, only, Served, Roomy}
use Rattle.readers.proofs.Pure.{State, state_after}
use Rattle.readers.proofs.Turns.{pure_from}
use Rattle.readers.proofs.Twins.{after}
use Rattle.readers.proofs.Alone.{first, beginner, run_first, as_if_alone}

abbrev by : ℕ → Call → By Call
by i x = record { reader = i; what = x }

-- the first reader's 7 over 0, then the second's 8 over 0, and that merged with 0
abbrev calls : List (By Call)
calls = by 0 (singleton 0 7) ∷ by 1 (singleton 0 8) ∷ by 1 (merge 1 0 false) ∷ []

-- a context is no refusal
served : {C : Type 0} (c : C) → Served (context c)
served c = (λ e. never (cc), λ e. never (cc))

shared_room : Roomy (pure_from first (λ j. beginner) calls)
unfolding pure_from state_after unless see heard single_s place place_e intern listed find same tree tree_of fits pool room size merge_s merge_t wild merge_e
    is_mark node_at too_much counting counted deep step recall begins made walk before and_then interned completed keep
shared_room = (served _, (served _, (served _, tt)))

alone_room : Roomy (pure_from first (λ j. beginner) (only 1 calls))
unfolding pure_from which state_after unless see heard single_s place place_e intern listed find same tree tree_of fits pool room size merge_s merge_t wild
    merge_e is_mark node_at too_much counting counted deep step recall begins made walk before and_then interned completed keep
alone_room = (served _, (served _, tt))

-- The second reader's first context is 2 beside the first reader, and 1 alone.
abbrev shared : State
shared = after (after first beginner (singleton 0 7)).store beginner (singleton 0 8)

abbrev lone : State
lone = after first beginner (singleton 0 8)

numbers_differ : (shared.got ≡ context 2) × (lone.got ≡ context 1)
unfolding state_after unless single_s place place_e intern listed find same tree tree_of fits pool room size
numbers_differ = (refl, refl)

-- And so do the figures: 7 over 0 is made once, and found by whoever asks next. They are no part of what a reader sees.
abbrev made_over : Store → ℕ
made_over s = (gives s (single_s s 0 7)).made

pub figures_differ : (made_over first ≡ 1) × (made_over (after first beginner (singleton 0 7)).store ≡ 0)
unfolding state_after unless single_s place place_e intern listed find same tree tree_of fits pool room size length
figures_differ = (refl, refl)

-- So does the number in a clash, of two alternatives in that context.
abbrev clash_in : Store → ℕ → Got ℕ
clash_in s c = (state_after s (with_configs (empty_set true) (config 5 1 c 0 0 0 ∷ config 5 2 c 0 0 0 ∷ [])) (0 ∷ c ∷ []) (why [])).got

clashes_differ : (clash_in shared.store 2 ≡ groups (part 5 2 (1 ∷ 2 ∷ []) ∷ [])) × (clash_in lone.store 1 ≡ groups (part 5 1 (1 ∷ 2 ∷ []) ∷ []))
unfolding state_after unless reason pick stopped all any Grouped.groups firsts together which subset alts_of rising insert many just_one reasoned
clashes_differ = (refl, refl)

-- What it sees is the same.
pub second_as_if_alone : (lent lent' : ℕ → Lent) → ((n : ℕ) → Sized (lent n)) → ((n : ℕ) → Sized (lent' n)) → only 1 (run lent calls) ≡ run lent' (only 1 calls)
second_as_if_alone lent lent' sized sized' =
    as_if_alone 1 calls lent lent' sized sized'
    (subst Roomy (sym (run_first lent sized calls)) shared_room)
    (subst Roomy (sym (run_first lent' sized' (only 1 calls))) alone_room)
