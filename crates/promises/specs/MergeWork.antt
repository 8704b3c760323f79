-- Promised: request A10's sentences, over the calls. Nothing here has to be believed.
use Rattle.std.specs.Prelude.{◌≡◌, Bool, not, List, ℕ, ◌<◌, ◌≤◌}
use Rattle.std.proofs.Common.{sym, ap}
use Rattle.encoding.specs.Decode.{store_of}
use Rattle.work.specs.Counted.{counting, count_of}
use Rattle.store.specs.Calls.{Left, Accepts}
use Rattle.configs.specs.MergeCall.{merge_call}
use Rattle.configs.specs.Promises.{merge_counts}
use Rattle.sets.specs.Config.{Config}
use Rattle.sets.specs.Layout.{config_at, config_count, flag}
use Rattle.sets.specs.Sets.{key}
use Rattle.sets.specs.Calls.{Adds, add_call}
use Rattle.configs.proofs.Sentences.{merged_call}

-- "The count is returned and equals that of the definition. Above 65,536 the call is refused"
pub merge_counted : (w z : List ℕ) (a b : ℕ) (m : Bool) (c : ℕ) (w' : List ℕ) → Accepts (merge_call w z a b m) c w'
    → ((merge_call w z a b m).merges ≡ count_of (counting m (store_of w) a b)) × ((merge_call w z a b m).merges ≤ 65536)
merge_counted = merge_counts

-- an addition to a known key counts what the merge of the two contexts counts
pub addition_counted : (w v z : List ℕ) (x : Config) (a : ℕ) (w' v' : List ℕ) → Adds (add_call w v z x) a w' v'
    → (i : ℕ) → i < config_count v → key (config_at v i) ≡ key x
    → (add_call w v z x).merges ≡ (merge_call w z (config_at v i).context x.context (not (flag 1 v))).merges
addition_counted w v z x a w' v' ok i here same = sym (ap (λ (l : Left). l.merges) (merged_call w v z x a w' v' ok i here same))
