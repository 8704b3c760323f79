-- Entries on the stack, and the rest of a context's entries after them: what interning them all leaves. Nothing here has to be believed.
use Rattle.std.specs.Prelude.{◌≡◌, refl, List, ℕ, suc, ◌<◌, ◌≤◌, ◌+◌, ◌-◌, ◌*◌, length, get_or}
use Rattle.std.proofs.Math.Path.{sym, ap}
use Rattle.std.proofs.Common.{◌∙◌, add-one}
use native.Mathlib.Omega.{arith}
use Rattle.arena.specs.Store.{Node, end, Store, node_at}
use Rattle.arena.proofs.Soundness.{Rise, Full}
use Rattle.arena.proofs.Below.{NodeBelow}
use Rattle.arena.specs.Kinds.{size}
use Rattle.arena.proofs.Trees.{node_rise}
use Rattle.arena.specs.Place.{intern}
use Rattle.layout.specs.Layout.{store_words, scratch_words, stop}
use Rattle.layout.specs.Scratch.{stack_parent, stack_state}
use Rattle.layout.specs.Listing.{listing}
use Rattle.layout.specs.Decode.{store_of}
use Rattle.layout.specs.Ceilings.{Fits}
use Rattle.work.specs.Encoded.{node_below}
use Rattle.index.specs.Records.{stack_node}
use Rattle.index.specs.Writes.{put_entry}
use Rattle.interning.specs.Asks.{Known}
use Rattle.interning.specs.Live.{Live, Pushed, GrewTo, live_sound, live_count, live_length}
use Rattle.interning.specs.Interned.{More, Interns}
use Rattle.work.proofs.Heads.{head_state, head_parent}
use Rattle.entries.specs.EntriesFrom.{rest, rest_next, rest_size, rest_none, size_full, rest_rise, rest_below, head_rises, head_most, head_older, head_dollar, head_cons}
use Rattle.entries.specs.StackAhead.{onto_listing}
use Rattle.entries.specs.StackEntry.{Under, under_le}
use Rattle.entries.specs.Laying.{Stacks, ahead, SameBelow, Next, Laid, lay}
use Rattle.std.specs.Prelude.{Result, Ok, Err}
use Rattle.words.specs.declared.refusals.Refusal.{Refusal}
use Rattle.words.specs.declared.refusals.Refusal.TheVariants.{FullStore}
use Rattle.interning.specs.declared.numbered.Numbered.{Numbered}

-- n entries from `top` on, to be followed by those of the context c from i on
pub record Finishing (w z : List ℕ) (c i top n : ℕ) : Type 0 where
  pub live : Live w z
  pub known : c < length (store_of w)
  pub within : i ≤ size (node_at (store_of w) c)
  pub entries : Stacks (store_of w) z top n
  pub under : i < size (node_at (store_of w) c) → Under z top n (head_state (rest (node_at (store_of w) c) i))
  pub room : top + n + (size (node_at (store_of w) c) - i) ≤ 4200

abbrev pub whole : List ℕ → List ℕ → ℕ → ℕ → ℕ → ℕ → ℕ × Store
whole w z c i top n = intern (store_of w) (ahead z top n (rest (node_at (store_of w) c) i))

-- the store is grown to x, and the scratch above the index and up to `top` is as it was
pub record Extended (z : List ℕ) (top : ℕ) (x : ℕ × Store) (d : ℕ) (w u : List ℕ) : Type 0 where
  pub number : d ≡ x.0
  pub store : store_of w ≡ x.1
  pub live : Live w u
  pub same : (e : ℕ) → 2048 ≤ e → e < 7936 + 2 * top → get_or u e 0 ≡ get_or z e 0
  pub after : (e : ℕ) → 16336 ≤ e → get_or u e 0 ≡ get_or z e 0

abbrev pub Extends : List ℕ → List ℕ → ℕ → ℕ × Store → Result Numbered Refusal → List ℕ → List ℕ → Type 0
Extends w z top x (Ok d) v u = Extended z top x d.context.0 v u × More w d.made v × (d.made ≤ 1)
Extends w z top x (Err f) v u = (f ≡ FullStore) × (Fits x.1 → ⊥) × (v ≡ w) × (length u ≡ scratch_words)

-- a live store's context can be read
pub live_known : {w z : List ℕ} → Live w z → (c : ℕ) → c < length (store_of w) → Known w c
live_known v c h = record { sized = live_length v; sound = live_sound v; below = rw (live_count v) h }

-- ---- a turn of the loop

-- of the entries of c from i₀ on, those before i have been pushed
pub record Tail (w z₀ : List ℕ) (c i₀ top n₀ : ℕ) (z : List ℕ) (i n : ℕ) : Type 0 where
  pub now : Finishing w z c i top n
  pub same : SameBelow z₀ z (top + n₀)
  pub after : (e : ℕ) → 16336 ≤ e → get_or z e 0 ≡ get_or z₀ e 0
  pub grown : n₀ ≤ n
  pub is : ahead z top n (rest (node_at (store_of w) c) i) ≡ ahead z₀ top n₀ (rest (node_at (store_of w) c) i₀)

pub tail_start : (w z : List ℕ) (c i top n : ℕ) → Finishing w z c i top n → Tail w z c i top n z i n
tail_start w z c i top n v = record { now = v; same = λ _ _. refl; after = λ _ _. refl; grown = omega arith; is = refl }

module _ {w z₀ : List ℕ} {c i₀ top n₀ : ℕ} {z : List ℕ} {i n : ℕ} (v : Tail w z₀ c i₀ top n₀ z i n) where
  abbrev N : Node
  N = node_at (store_of w) c

  below : NodeBelow stop (rest N i)
  below = rest_below N i stop (node_below stop (store_of w) v.now.live.good.below c v.now.known)

  rises : Rise 0 (length (store_of w)) (rest N i)
  rises = rest_rise N i 0 (length (store_of w)) (node_rise (store_of w) v.now.live.good.sound c v.now.known)

  pub tail_done : size N ≤ i → (Pushed w z top n) × (stack_node z top n ≡ ahead z₀ top n₀ (rest N i₀))
  unfolding listing
  tail_done h =
      let e : n + 0 ≡ n = omega arith in
      let l : ahead z top n end ≡ stack_node z top n = onto_listing (stack_state z) (stack_parent z) top n 0 ∙ ap (stack_node z top) e in (
        record {
          live = v.now.live;
          stacked = record { sized = v.now.live.index.sized; room = omega (arith, v.now.room); entries = v.now.entries };
        },
        sym l ∙ ap (ahead z top n) (sym (rest_none N i h)) ∙ v.is,
      )

  module _ (h : i < size N) {p r : ℕ} (ep : p ≡ head_parent (rest N i)) (er : r ≡ head_state (rest N i)) where
    pub tail_next : Next (store_of w) z top n p r
    tail_next = record {
      room = omega (arith, v.now.room);
      most = rw er (head_most (rest N i) below);
      older = rw ep (head_older (rest N i) 0 (length (store_of w)) v.now.live.good.some rises);
      dollar = λ q. ep ∙ head_dollar (rest N i) below (sym er ∙ q);
      under = rw er (v.now.under h);
    }

    pub tail_turn : (y : List ℕ) → y ≡ put_entry z (top + n) p r → Tail w z₀ c i₀ top n₀ y (i + 1) (n + 1)
    tail_turn y ey =
        let g : Laid w z top n p r y = lay w z top n p r v.now.live v.now.entries tail_next y ey in
        let full : Full (rest N i) = size_full (rest N i) (rw (rest_size N i) (omega arith)) in
        rw (add-one i, add-one n) (record {
          now = record {
            live = g.live;
            known = v.now.known;
            within = omega arith;
            entries = g.entries;
            under = λ q. g.under _ (under_le z top n _ _ (omega (arith, er, next q)) tail_next.under) (rw er (next q));
            room = omega (arith, v.now.room);
          };
          same = λ e l. g.same e (omega (arith, v.grown)) ∙ v.same e l;
          after = λ e l. g.high e l ∙ v.after e l;
          grown = omega (arith, v.grown);
          is =
              g.onward (rest N (suc i))
              ∙ ap (ahead z top n) ((rw (er, ep, ← rest_next N i)) ∙ sym (head_cons (rest N i) full below))
              ∙ v.is;
        })
      where
        next : suc i < size (node_at (store_of w) c) → head_state (rest (node_at (store_of w) c) i) < head_state (rest (node_at (store_of w) c) (suc i))
        next q =
            rw (rest_next (node_at (store_of w) c) i) at (head_rises (rest N i) 0 (length (store_of w)) rises below
            (rw (rest_next N i) (size_full (rest N (suc i)) (rw (rest_size N (suc i)) (omega arith)))))

-- ---- what interning leaves

module _ {w z₀ : List ℕ} {c i₀ top n₀ : ℕ} {z : List ℕ} {i n : ℕ} (v : Tail w z₀ c i₀ top n₀ z i n) (h : size (node_at (store_of w) c) ≤ i) where
  reached : (d : ℕ) (w' u : List ℕ) → GrewTo z u w' (intern (store_of w) (stack_node z top n)) d → Extended z₀ top (whole w z₀ c i₀ top n₀) d w' u
  reached d w' u g = record {
    number = g.number ∙ ap (λ (q : Node). (intern (store_of w) q).0) (tail_done v h).1;
    store = g.store ∙ ap (λ (q : Node). (intern (store_of w) q).1) (tail_done v h).1;
    live = g.live;
    same = λ e a b. g.above e a ∙ v.same e (omega arith);
    after = λ e a. g.above e (omega arith) ∙ v.after e a;
  }

  pub finished : (r : Result Numbered Refusal) (w' u : List ℕ) → Interns w z top n r w' u → Extends w z₀ top (whole w z₀ c i₀ top n₀) r w' u
  finished (Ok d) w' u g = (reached d.context.0 w' u g.0, g.1, g.2)
  finished (Err f) w' u g = (g.0, λ f. g.1 (rw (tail_done v h).1 f), g.2, ap length g.3 ∙ v.now.live.index.sized)

-- whatever it answers, lengths are kept
pub extends_lengths : {w z : List ℕ} {c i top n : ℕ} → Finishing w z c i top n → (r : Result Numbered Refusal) (w' u : List ℕ) → Extends w z top (whole w z c i top n) r w' u
    → (length w' ≡ store_words) × (length u ≡ scratch_words)
extends_lengths v (Ok x) w' u g = (live_length g.0.live, g.0.live.index.sized)
extends_lengths v (Err f) w' u g = (ap length g.2 ∙ live_length v.live, g.3)
