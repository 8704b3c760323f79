-- `add` after its first checks, part by part. Nothing here has to be believed.
use Rattle.std.specs.Prelude.{◌≡◌, true, not, ◌&&◌, List, [], ◌∷◌, ◌++◌, ℕ, ◌<◌, leb, length}
use Rattle.arena.specs.Store.{Store}
use Rattle.arena.specs.Place.{merge_s}
use Rattle.layout.specs.Layout.{count as contexts}
use Rattle.layout.specs.Decode.{store_of}
use Rattle.store.specs.Counted.{Outcome, counting, count_of}
use Rattle.store.specs.Calls.{zeros, too_much_work, no_room}
use Rattle.sets.specs.Config.{Config}
use Rattle.sets.specs.Lists.{any}
use Rattle.sets.specs.Layout.{most_configs, config_at, config_count, flag}
use Rattle.sets.specs.Sets.{same_keys, with_configs, joined_all, add_to}
use Rattle.sets.specs.Words.{set_words, set_of}
use Rattle.store.specs.Checks.{given, unless}
use Rattle.sets.specs.Calls.{refused, added, SetLeft, set_left, adds_after, add_work, refusal}
use Rattle.setcheck.specs.Opened.{ReadySet}

-- the config goes last; w and z are the words beside the set, whatever they hold
unfoldable pub insert_call : List ℕ → List ℕ → List ℕ → Config → SetLeft
insert_call w v z x =
    unless (given 8 (leb most_configs (length (set_of v).configs)) ∷ []) (λ n. set_left (refused n) w v z)
    (set_left (added 1) w (set_words (with_configs (set_of v) ((set_of v).configs ++ (x ∷ [])))) z)

-- the config is joined to the one at place i, whose context is merged with its own to P, with the outcome o
unfoldable pub join_to : List ℕ → List ℕ → Config → Outcome ℕ → ℕ × Store → SetLeft
join_to w v x o P =
    unless (too_much_work o ∷ no_room P.1 ∷ []) (refusal w v zeros)
    (adds_after (count_of o) (store_of w) (record { answer = 0; store = P.1; set = with_configs (set_of v) (joined_all x P.0 (set_of v).configs) }))

abbrev pub join_call : List ℕ → List ℕ → ℕ → Config → SetLeft
join_call w v i x =
    let full = not (flag 1 v) in
    join_to w v x (counting full (store_of w) (config_at v i).context x.context) (merge_s full (store_of w) (config_at v i).context x.context)

-- both, after the checks 2, 1, 3, 7 and 4
unfoldable pub add_rest : List ℕ → List ℕ → Config → SetLeft
add_rest w v x =
    let A = add_to (store_of w) (set_of v) x in
    unless
    (given 8 (not (any (same_keys x) (set_of v).configs) && leb most_configs (length (set_of v).configs))
    ∷ too_much_work (add_work (store_of w) (set_of v) x) ∷ no_room A.store ∷ [])
    (refusal w v zeros)
    (adds_after (count_of (add_work (store_of w) (set_of v) x)) (store_of w) A)

-- ---- what each part is given

pub record Addable (w v z : List ℕ) (x : Config) : Type 0 where
  pub ready : ReadySet w v z
  pub known : x.context < contexts w

pub record Joinable (w v z : List ℕ) (i : ℕ) (x : Config) : Type 0 where
  pub addable : Addable w v z x
  pub here : i < config_count v
  pub same : same_keys x (config_at v i) ≡ true
