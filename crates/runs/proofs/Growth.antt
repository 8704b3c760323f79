-- Every accepted call keeps the store sound and every older number's set. Nothing here has to be believed.
use Rattle.std.specs.Prelude.{◌≡◌, refl, Bool, true, false, not, List, [], ◌∷◌, ℕ, ◌<◌, length}
use Rattle.std.proofs.Common.{sym, ap, ◌∙◌, subst}
use Rattle.stacks.specs.Numbers.{two}
use Rattle.arena.specs.Stands.{stands}
use Rattle.encoding.specs.Layout.{store_words, count as contexts}
use Rattle.encoding.specs.Decode.{store_of}
use Rattle.encoding.specs.Decide.{sound}
use Rattle.interning.specs.Checks.Laws.{by_unless}
use Rattle.interning.specs.Calls.{Reply, Left, kept, refusal, asked, Accepts}
use Rattle.interning.specs.Calls.Laws.{refusal_store}
use Rattle.interning.proofs.Promises.{single_sound_after, single_older_kept}
use Rattle.configs.specs.MergeCall.{merge_call}
use Rattle.configs.specs.Layout.{config_at, flag}
use Rattle.configs.proofs.Sentences.{answer_merged, merged_call, inserted_store, closed_store}
use Rattle.configs.specs.Promises.{merge_sound_after, older_kept}
use Rattle.runs.specs.Runs.{Event, Step, singleton, merge, query, add, close, Run, begin, next}

-- the words of a sound store
pub record Whole (w : List ℕ) : Type 0 where
  pub sized : length w ≡ store_words
  pub sound : sound w ≡ true

-- v is a sound store that has u's contexts, each with its set
pub record Grows (u v : List ℕ) : Type 0 where
  pub whole : Whole v
  pub known : (k : ℕ) → k < contexts u → k < contexts v
  pub same : (k : ℕ) → k < contexts u → (σ : List ℕ) → stands (store_of v) k σ ≡ stands (store_of u) k σ

pub grows_refl : (u : List ℕ) → Whole u → Grows u u
grows_refl u h = record { whole = h; known = λ k l. l; same = λ k l σ. refl }

pub grows_trans : {u v w : List ℕ} → Grows u v → Grows v w → Grows u w
grows_trans g h = record {
  whole = h.whole;
  known = λ k l. h.known k (g.known k l);
  same = λ k l σ. h.same k (g.known k l) σ ∙ g.same k l σ;
}

-- a call that only reads leaves the store, refused or not
asked_store : (w z : List ℕ) (c : ℕ) (r : Reply) → (asked w z c r).store ≡ w
unfolding asked
asked_store w z c r = by_unless (refusal w z) (kept r w) (λ x. x.store ≡ w) (refusal_store w z) refl _

merge_grows : (u z : List ℕ) (a b : ℕ) (m : Bool) (c : ℕ) (v : List ℕ) → Accepts (merge_call u z a b m) c v → Grows u v
merge_grows u z a b m c v ok = record {
  whole = let s = merge_sound_after u z a b m c v ok in record { sized = s.0; sound = s.1 };
  known = λ k l. (older_kept u z a b m c v ok k l).0;
  same = λ k l. (older_kept u z a b m c v ok k l).1;
}

pub step_grows : {u v : List ℕ} {e : Event} → Whole u → Step u e v → Grows u v
step_grows {u} {v} h (singleton z p r c ok) = record {
  whole = let a = single_sound_after u z p r c v ok in record { sized = a.0; sound = a.1 };
  known = λ k l. (single_older_kept u z p r c v ok k l).0;
  same = λ k l. (single_older_kept u z p r c v ok k l).1;
}
step_grows {u} {v} h (merge z m a b c ok) = merge_grows u z a b m c v ok
step_grows {u} {v} h (query z c r e) = let q : u ≡ v = sym (asked_store u z c r) ∙ e in subst (Grows u) q (grows_refl u h)
step_grows {u} {v} h (add s z x a s' ok) =
    two a 0
    (λ e.
    let k = (answer_merged u s z x a v s' ok).0 e in
    let call = merged_call u s z x a v s' ok k.0 k.1 k.2 in
    merge_grows u z (config_at s k.0).context x.context (not (flag 1 s)) (config_at s' k.0).context v
    (ap (λ (l : Left). l.reply) call, ap (λ (l : Left). l.store) call))
    (λ d. subst (Grows u) (sym (inserted_store u s z x a v s' ok (λ i l q. d ((answer_merged u s z x a v s' ok).1 (i, l, q))))) (grows_refl u h))
step_grows {u} {v} h (close s z s' ok) = subst (Grows u) (sym (closed_store u s z v s' ok)) (grows_refl u h)

pub run_grows : {u v : List ℕ} {es : List Event} → Whole u → Run u es v → Grows u v
run_grows {u} h begin = grows_refl u h
run_grows h (next r s) = let g = run_grows h r in grows_trans g (step_grows g.whole s)
