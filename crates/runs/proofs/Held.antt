-- What each call of a run says of the sets in the store that the run ends with. Nothing here has to be believed.
use Rattle.std.specs.Prelude.{◌≡◌, refl, Bool, true, false, ℕ, ◌<◌, eqb, length}
use Rattle.std.proofs.Common.{sym, ap, ◌∙◌, subst}
use mathlib.Core.List.Memᴰ
use mathlib.Core.List.{List, [], ◌∷◌, Memᴰ}
use Rattle.encoding.specs.Names.{empty_mark}
use Rattle.stacks.specs.Forest.{Forest, none, mark, over}
use Rattle.stacks.specs.Canon.{Some, Canon}
use Rattle.stacks.specs.Beneath.{ext}
use Rattle.stacks.specs.Merge.{merge_t}
use Rattle.arena.proofs.Soundness.{Sound}
use Rattle.arena.specs.Store.{tree}
use Rattle.arena.proofs.Trees.{tree_canon, tree_inj}
use Rattle.encoding.specs.Layout.{count as contexts}
use Rattle.encoding.specs.Decode.{store_of}
use Rattle.encoding.specs.Decode.Laws.{store_length}
use Rattle.encoding.specs.Decoded.{decoded}
use Rattle.encoding.proofs.DecideLaws.{sound_true}
use Rattle.interning.proofs.Promises.{single_tree, single_sound_after, parent_known}
use Rattle.configs.specs.Promises.{merge_tree, merge_sound_after, merge_known_before}
use Rattle.runs.specs.Runs.{Event, merged, placed, other, Step, singleton, merge, query, add, close, Run, begin, next}
use Rattle.runs.proofs.Growth.{Whole, Grows, step_grows, run_grows}

-- ---- the sets of sound words

module _ {w : List ℕ} (h : Whole w) where
  pub holds : Sound (store_of w)
  holds = (decoded w h.sized (sound_true w h.sized h.sound)).0.sound

  -- a known number's set is canonical and has a stack
  pub canon : (c : ℕ) → c < contexts w → Some (tree (store_of w) c) × Canon (tree (store_of w) c)
  canon c k = tree_canon (store_of w) holds c (rw (store_length w (contexts w)) k)

  -- one set, one number
  pub one : (a b : ℕ) → a < contexts w → b < contexts w → tree (store_of w) a ≡ tree (store_of w) b → a ≡ b
  one a b k l = tree_inj (store_of w) holds a b (rw (store_length w (contexts w)) k) (rw (store_length w (contexts w)) l)

-- a known number keeps its set
same_tree : {u v : List ℕ} → Whole u → Grows u v → (k : ℕ) → k < contexts u → tree (store_of v) k ≡ tree (store_of u) k
same_tree h g k l = ext _ _ (canon g.whole k (g.known k l)).1 (canon h k l).1 (g.same k l)

-- ---- what a call says

-- the state r over a set: the mark stands for the empty stack alone
unfoldable pub raised : ℕ → Forest → Forest
raised r F = elim (eqb r empty_mark) [ true ↦ mark | false ↦ over r F none ]

pub record Merged (v : List ℕ) (m : Bool) (a b c : ℕ) : Type 0 where
  pub left : a < contexts v
  pub right : b < contexts v
  pub number : c < contexts v
  pub is : tree (store_of v) c ≡ merge_t m (tree (store_of v) a) (tree (store_of v) b)

pub record Placed (v : List ℕ) (p r c : ℕ) : Type 0 where
  pub parent : p < contexts v
  pub number : c < contexts v
  pub is : tree (store_of v) c ≡ raised r (tree (store_of v) p)

abbrev pub Says : List ℕ → Event → Type 0
Says v (merged m a b c) = Merged v m a b c
Says v (placed p r c) = Placed v p r c
Says v other = Unit {0}

says_grows : {u v : List ℕ} → Whole u → Grows u v → (e : Event) → Says u e → Says v e
says_grows h g (merged m a b c) s = record {
  left = g.known a s.left;
  right = g.known b s.right;
  number = g.known c s.number;
  is = rw (same_tree h g c s.number, same_tree h g a s.left, same_tree h g b s.right) s.is;
}
says_grows h g (placed p r c) s = record {
  parent = g.known p s.parent;
  number = g.known c s.number;
  is = rw (same_tree h g c s.number, same_tree h g p s.parent) s.is;
}
says_grows h g other s = tt

step_says : {u v : List ℕ} {e : Event} → Whole u → Step u e v → Says v e
unfolding raised
step_says {u} {v} h (singleton z p r c ok) =
    let g = step_grows h (singleton z p r c ok) in record {
      parent = g.known p (parent_known u z p r c v ok);
      number = (single_sound_after u z p r c v ok).2;
      is = single_tree u z p r c v ok ∙ ap (raised r) (sym (same_tree h g p (parent_known u z p r c v ok)));
    }
step_says {u} {v} h (merge z m a b c ok) =
    let g = step_grows h (merge z m a b c ok) in
    let k = merge_known_before u z a b m c v ok in record {
      left = g.known a k.0;
      right = g.known b k.1;
      number = (merge_sound_after u z a b m c v ok).2;
      is = merge_tree u z a b m c v ok ∙ (rw (same_tree h g a k.0, same_tree h g b k.1));
    }
step_says h (query z c r e) = tt
step_says h (add s z x a s' ok) = tt
step_says h (close s z s' ok) = tt

-- every call of a run, wherever it stands in it
pub event_says : {w v : List ℕ} {es : List Event} {e : Event} → Whole w → Run w es v → Memᴰ e es → Says v e
event_says h begin m = absurd (Memᴰ.not-nil m)
event_says {e = e} h (next {v = v} r s) (Memᴰ.head q) = subst (Says v) (sym q) (step_says (run_grows h r).whole s)
event_says {e = e} h (next r s) (Memᴰ.tail m) = let g = (run_grows h r).whole in says_grows g (step_grows g s) e (event_says h r m)
