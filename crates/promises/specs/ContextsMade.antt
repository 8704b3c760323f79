-- Promised: request A3's sentences, over the calls and over scripts. w, v and z are the words lent as store, set and scratch, w' and v' those after;
-- s is a script's bytes, l the words lent to it. Nothing here has to be believed but what the statements say.
use Rattle.std.specs.Prelude.{◌≡◌, ◌↔◌, Bool, not, List, [], ℕ, ◌+◌, ◌<◌, ◌≤◌}
use Rattle.std.proofs.Common.{sym, ap}
use Rattle.encoding.specs.Layout.{used, count as contexts}
use Rattle.store.specs.Calls.{Left, Accepts}
use Rattle.interning.specs.SingletonCall.{singleton_call}
use Rattle.interning.proofs.Promises.{singleton_figure, singleton_found, singleton_one}
use Rattle.configs.specs.MergeCall.{merge_call}
use Rattle.configs.specs.Promises.{merge_figure, merge_found}
use Rattle.sets.specs.Config.{Config}
use Rattle.sets.specs.Layout.{config_at, config_count, flag}
use Rattle.sets.specs.Sets.{key}
use Rattle.sets.specs.Calls.{Adds, add_call}
use Rattle.configs.proofs.Sentences.{add_figure, merged_call, inserted_none}
use Rattle.steps.specs.Format.{singleton, merge, add}
use Rattle.steps.specs.Lines.{numbers_line, end_line}
use Rattle.steps.specs.Replies.{Lent, line_of, set_line_of, call_of}
use Rattle.steps.specs.Steps.{run_of}
use Rattle.steps.specs.ContextsMade.{made_by, sum_of}
use Rattle.steps.proofs.ContextsMadeLaws.{singleton_prints, merge_prints, add_prints, sum_printed}

-- ---- "how many contexts the call made: exactly the count after less the count before", of refused calls too, which make none

module _ (w z : List ℕ) where
  pub singleton_makes : (p r : ℕ) → contexts w + (singleton_call w z p r).made ≡ contexts (singleton_call w z p r).store
  singleton_makes = singleton_figure w z

  pub merge_makes : (a b : ℕ) (m : Bool) → contexts w + (merge_call w z a b m).made ≡ contexts (merge_call w z a b m).store
  merge_makes = merge_figure w z

  pub addition_makes : (v : List ℕ) (x : Config) → contexts w + (add_call w v z x).made ≡ contexts (add_call w v z x).store
  addition_makes v = add_figure w v z

-- with a known key an addition makes what the merge of the two contexts makes, and with a new one nothing
module _ (w v z : List ℕ) (x : Config) (a : ℕ) (w' v' : List ℕ) (ok : Adds (add_call w v z x) a w' v') where
  pub addition_makes_as_its_merge : (i : ℕ) → i < config_count v → key (config_at v i) ≡ key x
      → (add_call w v z x).made ≡ (merge_call w z (config_at v i).context x.context (not (flag 1 v))).made
  addition_makes_as_its_merge i here same = sym (ap (λ (l : Left). l.made) (merged_call w v z x a w' v' ok i here same))

  pub insertion_makes_none : ((i : ℕ) → i < config_count v → key (config_at v i) ≡ key x → ⊥) → (add_call w v z x).made ≡ 0
  insertion_makes_none = inserted_none w v z x a w' v' ok

-- ---- "whether the context was found or made": found, and the figure is 0, exactly if its number was there before

module _ (w z : List ℕ) (c : ℕ) (w' : List ℕ) where
  pub singleton_found_or_made : (p r : ℕ) → Accepts (singleton_call w z p r) c w'
      → (((singleton_call w z p r).made ≡ 0) ↔ (c < contexts w)) × ((singleton_call w z p r).made ≤ 1)
  singleton_found_or_made p r ok = (singleton_found w z p r c w' ok, singleton_one w z p r c w' ok)

  pub merge_found_or_made : (a b : ℕ) (m : Bool) → Accepts (merge_call w z a b m) c w' → ((merge_call w z a b m).made ≡ 0) ↔ (c < contexts w)
  merge_found_or_made a b m = merge_found w z a b m c w'

-- ---- scripts

-- "`C` and `A` lines get this figure as a last field"; a refusal's line has its number alone
module _ (l : Lent) where
  pub singleton_line : (p r : ℕ) → let call = call_of l (singleton p r) in call.reply ≡ line_of [] (made_by l call) (singleton_call l.store l.scratch p r).reply
  singleton_line = singleton_prints l

  pub merge_line : (a b : ℕ) (m : Bool) → let call = call_of l (merge a b m) in call.reply ≡ line_of [] (made_by l call) (merge_call l.store l.scratch a b m).reply
  merge_line = merge_prints l

  pub addition_line : (x : Config) → let call = call_of l (add x) in call.reply ≡ set_line_of [] (made_by l call) (add_call l.store l.set l.scratch x).reply
  addition_line = add_prints l

-- the sum of these figures over a script is the count of `T`'s line less 1: context 0 is there from the start
pub the_sum_of_figures : (s : List ℕ) → end_line (run_of s).words.store ≡ numbers_line 84 (1 + sum_of s) (used (run_of s).words.store)
the_sum_of_figures = sum_printed
