-- Document 01's example and its table P1 to P12: the script's bytes, its records, and all that it prints, computed from the definitions.
-- Nothing here has to be believed.
use Rattle.std.specs.Prelude.{◌≡◌, refl, true, false, ℕ}
use mathlib.Core.List.{List, [], ◌∷◌, ◌++◌, flat_map}
use Rattle.steps.specs.Merge.{is_mark, wild, merge_e, merge_t}
use Rattle.steps.specs.Store.{end, dollar, push, same, find, tree, tree_of, node_at}
use Rattle.steps.specs.Place.{listed, intern, place_e, place, merge_s}
use Rattle.steps.specs.Kinds.{size}
use Rattle.steps.specs.Room.{pool, room}
use Rattle.steps.specs.Layout.{blank, count, used, kind, first, second, parent, state}
use Rattle.steps.specs.Listing.{listing}
use Rattle.steps.specs.Decode.{node_from, node_in, store_in}
use Rattle.steps.specs.Encode.{put_pool, fill, put_record, put_counts, put_node, written, words_of}
use Rattle.steps.specs.Decide.{same_words, rises, sound_store, fits, sound}
use Rattle.steps.specs.Checks.{unless}
use Rattle.steps.specs.Counted.{too_much, count_of, counting, counted, deep, step, recall, begins, made as merging, walk, before, and_then, interned, completed, keep}
use Rattle.steps.specs.Calls.{zeros, refusal, asked}
use Rattle.steps.specs.SingletonCall.{single_s, singleton_checks, singleton_call}
use Rattle.steps.specs.MergeCall.{merge_checks, merge_call}
use Rattle.steps.specs.Provenance.{id_of, mark_of, merged_marks}
use Rattle.steps.specs.Config.{Config}
use Rattle.steps.specs.Lists.{any, all}
use Rattle.steps.specs.SetsLayout.{fields, field, config_at, config_count, flag_word, flag}
use Rattle.steps.specs.Sets.{has_semantic, dips, key, same_keys, held, joined, joined_all, add_to}
use Rattle.steps.specs.Words.{bit, flags_of, set_words, configs_in, distinct, good_set, sound_set}
use Rattle.steps.specs.SetsCalls.{lent_lengths, lent_checks, add_work, add_checks, fresh_set_call, add_call, close_call}
use Rattle.steps.specs.SetsCalls.{refusal as setRefusal}
use Rattle.steps.specs.GroupsLists.{which}
use Rattle.steps.specs.Groups.{insert, rising, alts_of, together, firsts, subset, groups}
use Rattle.steps.specs.GroupsAnswers.{none, only, many, agree, smallest, single_viable_alt, unique_alt, stopped, just_one}
use Rattle.steps.specs.GroupsAnswers.{verdict as verdictOf}
use Rattle.steps.specs.Reason.{stop, pick, reason}
use Rattle.steps.specs.Outputs.{padded}
use Rattle.steps.specs.VerdictsCalls.{VerdictReply, summary, read_refusal, read_call}
use Rattle.steps.specs.ReasonsCalls.{clashing, reason_words, why_call}
use Rattle.steps.specs.FiguresCalls.{figures_call}
use Rattle.steps.specs.Bytes.{u16_at, u32_at, u64_at, words_at}
use Rattle.steps.specs.Payloads.{payloads, payload_of, accepts}
use Rattle.steps.specs.Format.{Record, singleton, merge, new_set, add, stops, verdict, show, close, why, found, ended, malformed, config_from, payload_at, record_at, read_at}
use Rattle.steps.specs.Decimal.{digits, decimal}
use Rattle.steps.specs.Lines.{context_line, new_set_line, added_line, stops_line, alternative_bytes, verdict_bytes, figures_line, closed_line, refusal_line, entries_bytes}
use Rattle.steps.specs.Lines.{entries_line, end_line, spaced_all, reason_line}
use Rattle.steps.specs.Replies.{Lent, wiped, line_of, set_line_of, new_set_call, held_stops, stops_call, verdict_line_of, call_of}
use Rattle.steps.specs.Steps.{fresh, reading_step, step_of, run_from, run_of, script_replies}

-- the definitions that the examples compute, by layer, under one name
unfoldable stores : Unit {0}
unfolding is_mark wild merge_e merge_t same find tree tree_of node_at listed intern place_e place merge_s size pool room
stores = tt

unfoldable merges : Unit {0}
unfolding too_much count_of counting counted deep step recall begins merging walk before and_then interned completed keep
merges = tt

unfoldable words : Unit {0}
unfolding blank count used kind first second parent state listing node_from node_in store_in put_pool fill put_record put_counts put_node written words_of
words = tt

unfoldable checks : Unit {0}
unfolding same_words rises sound_store fits sound zeros refusal unless asked
checks = tt

unfoldable configs : Unit {0}
unfolding any all fields field config_at config_count flag_word flag has_semantic dips key same_keys held joined joined_all add_to id_of mark_of merged_marks bit flags_of
    flat_map set_words configs_in distinct good_set sound_set
configs = tt

unfoldable subsets : Unit {0}
unfolding which insert rising alts_of together firsts subset groups many agree smallest single_viable_alt unique_alt stopped just_one verdictOf pick reason
subsets = tt

unfoldable calls : Unit {0}
unfolding single_s singleton_checks singleton_call merge_checks merge_call lent_lengths lent_checks add_checks fresh_set_call add_call close_call setRefusal add_work read_refusal
    read_call figures_call padded clashing reason_words why_call
calls = tt

unfoldable printing : Unit {0}
unfolding digits decimal context_line new_set_line added_line stops_line alternative_bytes verdict_bytes figures_line closed_line refusal_line entries_bytes entries_line spaced_all reason_line
    line_of set_line_of verdict_line_of new_set_call stops_call held_stops wiped call_of
printing = tt

unfoldable opened : Unit {0}
unfolding stores merges words checks configs subsets calls printing
opened = tt

-- 0C000100 00000000 2A00000000000000 / 09000200 01000000 00000000 00 / 04000700 02000000 / 01000300 00
-- 18000400 07000000 01000000 01000000 00000000 00000000 00000000 / 18000400 07000000 02000000 01000000 00000000 00000000 00000000 / 00000600
unfoldable pub script : List ℕ
script =
    12 ∷ 0 ∷ 1 ∷ 0 ∷ 0 ∷ 0 ∷ 0 ∷ 0 ∷ 42 ∷ 0 ∷ 0 ∷ 0 ∷ 0 ∷ 0 ∷ 0 ∷ 0
    ∷ 9 ∷ 0 ∷ 2 ∷ 0 ∷ 1 ∷ 0 ∷ 0 ∷ 0 ∷ 0 ∷ 0 ∷ 0 ∷ 0 ∷ 0
    ∷ 4 ∷ 0 ∷ 7 ∷ 0 ∷ 2 ∷ 0 ∷ 0 ∷ 0
    ∷ 1 ∷ 0 ∷ 3 ∷ 0 ∷ 0
    ∷ 24 ∷ 0 ∷ 4 ∷ 0 ∷ 7 ∷ 0 ∷ 0 ∷ 0 ∷ 1 ∷ 0 ∷ 0 ∷ 0 ∷ 1 ∷ 0 ∷ 0 ∷ 0 ∷ 0 ∷ 0 ∷ 0 ∷ 0 ∷ 0 ∷ 0 ∷ 0 ∷ 0 ∷ 0 ∷ 0 ∷ 0 ∷ 0
    ∷ 24 ∷ 0 ∷ 4 ∷ 0 ∷ 7 ∷ 0 ∷ 0 ∷ 0 ∷ 2 ∷ 0 ∷ 0 ∷ 0 ∷ 1 ∷ 0 ∷ 0 ∷ 0 ∷ 0 ∷ 0 ∷ 0 ∷ 0 ∷ 0 ∷ 0 ∷ 0 ∷ 0 ∷ 0 ∷ 0 ∷ 0 ∷ 0
    ∷ 0 ∷ 0 ∷ 6 ∷ 0 ∷ []

-- a config with no semantic id, no reach and no provenance
abbrev pub config : ℕ → ℕ → ℕ → Config
config s a k = record { state = s; alternative = a; context = k; semantic = 0; reach = 0; provenance = 0 }

-- its records, and the end
pub records : (read_at script 0 ≡ found (singleton 0 42) 16) × (read_at script 16 ≡ found (merge 1 0 false) 29) × (read_at script 29 ≡ found (show 2) 37)
    × (read_at script 37 ≡ found (new_set false) 42) × (read_at script 42 ≡ found (add (config 7 1 1)) 70) × (read_at script 70 ≡ found (add (config 7 2 1)) 98)
    × (read_at script 98 ≡ found verdict 102) × (read_at script 102 ≡ ended)
unfolding script read_at record_at payload_at accepts payload_of payloads config_from u16_at u32_at u64_at
records = (refl, refl, refl, refl, refl, refl, refl, refl)

-- stop states 7 and 8, none at all, a close, and a question for the reason
pub others : (read_at (8 ∷ 0 ∷ 5 ∷ 0 ∷ 7 ∷ 0 ∷ 0 ∷ 0 ∷ 8 ∷ 0 ∷ 0 ∷ 0 ∷ []) 0 ≡ found (stops (7 ∷ 8 ∷ [])) 12)
    × (read_at (0 ∷ 0 ∷ 5 ∷ 0 ∷ []) 0 ≡ found (stops []) 4)
    × (read_at (0 ∷ 0 ∷ 8 ∷ 0 ∷ []) 0 ≡ found close 4) × (read_at (0 ∷ 0 ∷ 9 ∷ 0 ∷ []) 0 ≡ found why 4)
unfolding read_at record_at payload_at accepts payload_of payloads words_at u16_at u32_at u64_at
others = (refl, refl, refl, refl)

-- a byte short; kinds 0 and 10; lengths that are not the kinds'; a mode of 2
pub faults : (read_at (4 ∷ 0 ∷ 7 ∷ 0 ∷ 2 ∷ 0 ∷ 0 ∷ []) 0 ≡ malformed) × (read_at (0 ∷ 0 ∷ 0 ∷ 0 ∷ []) 0 ≡ malformed)
    × (read_at (0 ∷ 0 ∷ 10 ∷ 0 ∷ []) 0 ≡ malformed)
    × (read_at (3 ∷ 0 ∷ 7 ∷ 0 ∷ 2 ∷ 0 ∷ 0 ∷ []) 0 ≡ malformed) × (read_at (3 ∷ 0 ∷ 5 ∷ 0 ∷ 2 ∷ 0 ∷ 0 ∷ []) 0 ≡ malformed)
    × (read_at (1 ∷ 0 ∷ 6 ∷ 0 ∷ 0 ∷ []) 0 ≡ malformed)
    × (read_at (1 ∷ 0 ∷ 9 ∷ 0 ∷ 0 ∷ []) 0 ≡ malformed)
    × (read_at (1 ∷ 0 ∷ 3 ∷ 0 ∷ 2 ∷ []) 0 ≡ malformed) × (read_at (9 ∷ 0 ∷ 2 ∷ 0 ∷ 0 ∷ 0 ∷ 0 ∷ 0 ∷ 0 ∷ 0 ∷ 0 ∷ 0 ∷ 2 ∷ []) 0 ≡ malformed)
unfolding read_at record_at payload_at accepts payload_of payloads u16_at u32_at
faults = (refl, refl, refl, refl, refl, refl, refl, refl, refl)

-- the whole output: `C 1 1`, `C 2 1`, `E 2 42>0 $`, `N`, `A 1 0`, `A 1 0`, `V 1 - 1 1`, `T 3 2`
pub example : script_replies script ≡
    67 ∷ 32 ∷ 49 ∷ 32 ∷ 49 ∷ 10
    ∷ 67 ∷ 32 ∷ 50 ∷ 32 ∷ 49 ∷ 10
    ∷ 69 ∷ 32 ∷ 50 ∷ 32 ∷ 52 ∷ 50 ∷ 62 ∷ 48 ∷ 32 ∷ 36 ∷ 10
    ∷ 78 ∷ 10
    ∷ 65 ∷ 32 ∷ 49 ∷ 32 ∷ 48 ∷ 10
    ∷ 65 ∷ 32 ∷ 49 ∷ 32 ∷ 48 ∷ 10
    ∷ 86 ∷ 32 ∷ 49 ∷ 32 ∷ 45 ∷ 32 ∷ 49 ∷ 32 ∷ 49 ∷ 10
    ∷ 84 ∷ 32 ∷ 51 ∷ 32 ∷ 50 ∷ 10 ∷ []
unfolding script opened fresh u16_at u32_at u64_at config_from payloads payload_of accepts payload_at record_at read_at end_line reading_step step_of run_from run_of script_replies
example = refl

-- ---- document 01's examples P1 to P12, one table

-- what records print and leave, one after the other, from the words that a script starts from
unfoldable pub said_from : Lent → List Record → List ℕ
said_from l [] = []
said_from l (r ∷ rs) = let p = call_of l r in p.reply ++ said_from p.words rs

unfoldable pub said : List Record → List ℕ
said = said_from fresh

unfoldable pub left_from : Lent → List Record → Lent
left_from l [] = l
left_from l (r ∷ rs) = left_from (call_of l r).words rs

-- what the verdict's call answers after them: none is told from alternative 0
unfoldable pub judged : List Record → VerdictReply
judged rs = let l = left_from fresh rs in (figures_call l.store l.set l.scratch (held_stops l.stops)).reply

pub P1-to-P12 :
    -- P1: singleton of 0 and 7, twice: 1 both times
    (said (singleton 0 7 ∷ singleton 0 7 ∷ []) ≡ context_line 1 1 ++ context_line 1 0)
    -- P2: the empty mark on parent 0: 0. P3 4294967294 accepted. P4 4294967295 refused 5
    × (said (singleton 0 18446744073709551615 ∷ []) ≡ context_line 0 0)
    × (said (singleton 0 4294967294 ∷ []) ≡ context_line 1 1)
    × (said (singleton 0 4294967295 ∷ []) ≡ refusal_line 5)
    -- P5: full merge of 42 over 0 with 0: entries 42>0, `$`. P6 wildcard: 0
    × (said (singleton 0 42 ∷ merge 1 0 false ∷ show 2 ∷ []) ≡ context_line 1 1 ++ context_line 2 1 ++ entries_line (push 42 0 dollar))
    × (said (singleton 0 42 ∷ merge 1 0 true ∷ []) ≡ context_line 1 1 ++ context_line 0 0)
    -- P7: full merge of 7 over 100 and 7 over 200: one entry 7; its parent has entries 100 and 200
    × (said (singleton 0 100 ∷ singleton 0 200 ∷ singleton 1 7 ∷ singleton 2 7 ∷ merge 3 4 false ∷ show 6 ∷ show 5 ∷ [])
    ≡ context_line 1 1 ++ context_line 2 1 ++ context_line 3 1 ++ context_line 4 1 ++ context_line 6 2 ++ entries_line (push 7 5 end) ++ entries_line (push 100 0 (push 200 0 end)))
    -- P8: wildcard of 7 over 42 with 7 over 0: the latter. P9 full: one entry 7; its parent has 42 and `$`
    × (said (singleton 0 42 ∷ singleton 1 7 ∷ singleton 0 7 ∷ merge 2 3 true ∷ []) ≡ context_line 1 1 ++ context_line 2 1 ++ context_line 3 1 ++ context_line 3 0)
    × (said (singleton 0 42 ∷ singleton 1 7 ∷ singleton 0 7 ∷ merge 2 3 false ∷ show 5 ∷ show 4 ∷ [])
    ≡ context_line 1 1 ++ context_line 2 1 ++ context_line 3 1 ++ context_line 5 2 ++ entries_line (push 7 4 end) ++ entries_line (push 42 0 dollar))
    -- P10: empty set: verdict yes, unique none, viable none
    × (judged [] ≡ summary (record { subsets = 0; unique = none; viable = none; verdict = true }))
    -- P11: state 7, alternatives 1 and 2, one context: yes, viable 1. P12 with state 8, alternative 2 added: no, viable none
    × (judged (add (config 7 1 0) ∷ add (config 7 2 0) ∷ []) ≡ summary (record { subsets = 1; unique = none; viable = only 1; verdict = true }))
    × (judged (add (config 7 1 0) ∷ add (config 7 2 0) ∷ add (config 8 2 0) ∷ []) ≡ summary (record { subsets = 2; unique = none; viable = none; verdict = false }))
unfolding said said_from judged left_from fresh opened
P1-to-P12 = (refl, refl, refl, refl, refl, refl, refl, refl, refl, refl, refl, refl)

-- ---- how many contexts a call made (request A3)

-- `C 1 1`, `C 2 1`, `C 3 1`, `C 4 1`, `A 1 0`; `A 0 2`, of the merge in P7; `A 0 0`, of a merge that finds what it needs
pub contexts_made :
    said (singleton 0 100 ∷ singleton 0 200 ∷ singleton 1 7 ∷ singleton 2 7 ∷ add (config 9 1 3) ∷ add (config 9 1 4) ∷ add (config 9 1 4) ∷ [])
    ≡ context_line 1 1 ++ context_line 2 1 ++ context_line 3 1 ++ context_line 4 1 ++ added_line 1 0
    ++ 65 ∷ 32 ∷ 48 ∷ 32 ∷ 50 ∷ 10 ∷ 65 ∷ 32 ∷ 48 ∷ 32 ∷ 48 ∷ 10 ∷ []
unfolding said said_from fresh opened
contexts_made = refl

-- ---- none is told from alternative 0

-- a set on alternative 0 alone: `V 1 0 0 0`; an empty one: `V 0 - - 1`
pub zero_and_none :
    (said (add (config 7 0 0) ∷ verdict ∷ []) ≡ added_line 1 0 ++ 86 ∷ 32 ∷ 49 ∷ 32 ∷ 48 ∷ 32 ∷ 48 ∷ 32 ∷ 48 ∷ 10 ∷ [])
    × (said (verdict ∷ []) ≡ 86 ∷ 32 ∷ 48 ∷ 32 ∷ 45 ∷ 32 ∷ 45 ∷ 32 ∷ 49 ∷ 10 ∷ [])
unfolding said said_from fresh opened
zero_and_none = (refl, refl)

-- ---- why this verdict (request A6)

-- `W stop` of an empty set, and of configs that all have stopped though two of them clash; `W none`; `W one 8 2`, of the first state in set order and not
-- of the lowest, though the subset before it clashes; `W clash 7 0 1 2`, of the first subset, whose alternatives are not those of the whole state
pub reasons :
    (said (why ∷ []) ≡ 87 ∷ 32 ∷ 115 ∷ 116 ∷ 111 ∷ 112 ∷ 10 ∷ [])
    × (said (add (config 7 1 0) ∷ add (config 7 2 0) ∷ stops (7 ∷ []) ∷ why ∷ []) ≡ added_line 1 0 ++ added_line 1 0 ++ stops_line 1 ++ reason_line stop)
    × (said (add (config 7 1 0) ∷ why ∷ []) ≡ added_line 1 0 ++ 87 ∷ 32 ∷ 110 ∷ 111 ∷ 110 ∷ 101 ∷ 10 ∷ [])
    × (said (add (config 7 1 0) ∷ add (config 7 2 0) ∷ add (config 8 2 0) ∷ add (config 3 5 0) ∷ why ∷ [])
    ≡ added_line 1 0 ++ added_line 1 0 ++ added_line 1 0 ++ added_line 1 0 ++ 87 ∷ 32 ∷ 111 ∷ 110 ∷ 101 ∷ 32 ∷ 56 ∷ 32 ∷ 50 ∷ 10 ∷ [])
    × (said (singleton 0 42 ∷ add (config 7 3 1) ∷ add (config 7 2 0) ∷ add (config 7 1 0) ∷ add (config 9 4 1) ∷ add (config 9 5 1) ∷ why ∷ [])
    ≡ context_line 1 1 ++ added_line 1 0 ++ added_line 1 0 ++ added_line 1 0 ++ added_line 1 0 ++ added_line 1 0
    ++ 87 ∷ 32 ∷ 99 ∷ 108 ∷ 97 ∷ 115 ∷ 104 ∷ 32 ∷ 55 ∷ 32 ∷ 48 ∷ 32 ∷ 49 ∷ 32 ∷ 50 ∷ 10 ∷ [])
unfolding said said_from fresh opened
reasons = (refl, refl, refl, refl, refl)
