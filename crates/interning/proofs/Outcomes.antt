-- What a call leaves, from what its parts leave: a state that is not placed, and a context that is made or has no room. Nothing here has to be believed.
use Rattle.std.specs.Prelude.{◌≡◌, List, ℕ, ◌<◌, ◌+◌, ◌-◌, ◌*◌, ◌≢◌, replicate, Result, Ok, Err}
use Rattle.std.proofs.Common.{sym, ap, ◌∙◌, arith}
use Rattle.std.proofs.Math.ListN.{length}
use borrow.Author.Tests.{eq-eqb, ne_eqb, lt-ltb, le-ltb}
use Rattle.arena.specs.Forest.{none, over}
use Rattle.words.specs.Names.{empty_mark}
use Rattle.words.specs.Compact.{compacted, compact_mark}
use Rattle.words.specs.declared.names.CompactState.{CompactState}
use Rattle.words.specs.Compact.Laws.{state_of_compacted, mark_of_compacted, out_of_compacted}
use Rattle.arena.specs.Store.{end, push, Store, tree}
use Rattle.arena.specs.Place.{place, intern}
use Rattle.arena.proofs.Placed.{place_single}
use Rattle.layout.specs.Layout.{scratch_words, stop, count}
use Rattle.layout.specs.Scratch.{stack_parent, stack_state}
use Rattle.layout.specs.Decode.{store_of}
use Rattle.layout.specs.Ceilings.{Fits}
use Rattle.layout.specs.Encode.{words_of}
use Rattle.encoding.proofs.DecideLaws.{true_fits, fits_false}
use Rattle.index.specs.Records.{stack_node}
use Rattle.index.specs.Writes.{put_entry}
use Rattle.index.specs.Grow.{index_frame, entry_length, entry_below, entry_parent_lem, entry_state_lem}
use Rattle.index.specs.Same.{single_node}
use Rattle.words.specs.Refusals.{number}
use Rattle.words.specs.declared.refusals.Refusal.{Refusal}
use Rattle.store.specs.Admit.{Admits, cleared}
use Rattle.interning.specs.declared.numbered.Numbered.{Numbered}
use Rattle.store.specs.Calls.{refused, context, Left, zeros, leaves, leaves_after}
use Rattle.store.specs.Nested.{grown}
use Rattle.interning.specs.Live.{Live, Pushed, GrewTo, live_count, ready_live}
use Rattle.interning.specs.SingletonCall.Laws.{if_state, placed_single}
use Rattle.interning.proofs.SingletonNested.{singleton_nested}
use Rattle.interning.specs.SingletonCall.{singleton_call}
use Rattle.interning.specs.Interned.{More, Interns}
use Rattle.interning.specs.Replies.{numbered}

-- ---- a context that is made, or no room

module _ (w : List ℕ) (x : ℕ × Store) where
  pub grown_fits : (w' : List ℕ) (c k : ℕ) → Fits x.1 → c ≡ x.0 → w' ≡ words_of x.1 → length (store_of w) + k ≡ length x.1
      → leaves_after 0 k (context c) w' zeros ≡ grown w x
  unfolding grown
  grown_fits w' c k f ec ew more =
      let e : length x.1 - length (store_of w) ≡ k = omega (arith, more) in
      rw (true_fits x.1 f, grown, ec, ew, e)

  pub grown_full : (Fits x.1 → ⊥) → leaves (refused 6) w zeros ≡ grown w x
  unfolding grown
  grown_full n = rw (fits_false x.1 n, grown)

-- ---- the state at the border

module _ (w : List ℕ) (r : ℕ) (go : Left) where
  pub mark_answered : (c : CompactState) → compacted r ≡ Ok c → c.0 ≡ compact_mark → if_state w r go ≡ leaves (context 0) w zeros
  unfolding if_state
  mark_answered c e m = rw (eq-eqb r empty_mark (mark_of_compacted r c e m), if_state)

  pub out_of_range : (f : Refusal) → compacted r ≡ Err f → if_state w r go ≡ leaves (refused 5) w zeros
  unfolding if_state
  out_of_range f e = let o = out_of_compacted r f e in rw (ne_eqb r empty_mark o.0, if_state, le-ltb r stop o.1)

  pub placed : (c : CompactState) → compacted r ≡ Ok c → (c.0 ≢ compact_mark) → (c.0 ≡ r) × (r < stop) × (if_state w r go ≡ go)
  unfolding if_state
  placed c e n =
      let o = state_of_compacted r c e n in
      (o.0, o.1, rw (ne_eqb r empty_mark (λ q. omega arith), if_state, lt-ltb r stop o.1))

-- ---- one entry on the stack

module _ (w z : List ℕ) (v : Live w z) (p r : ℕ) (hp : p < count w) (hr : r < stop) (y : List ℕ) (e : y ≡ put_entry z 0 p r) where
  long_enough : 7936 + 2 * 0 + 1 < length z
  long_enough = omega (arith, v.index.sized)

  put_parent : stack_parent y 0 ≡ p
  put_parent = rw e (entry_parent_lem z 0 p r long_enough)

  put_state : stack_state y 0 ≡ r
  put_state = rw e (entry_state_lem z 0 p r long_enough)

  put_length : length y ≡ scratch_words
  put_length = rw e (entry_length z 0 p r ∙ v.index.sized)

  pub single_pushed : Pushed w y 0 1
  single_pushed = record {
    live = record {
      good = v.good;
      words = v.words;
      index = index_frame (store_of w) z y v.good.fits.0 put_length (λ i l. rw e (entry_below z 0 p r i (omega arith))) v.index;
    };
    stacked = record {
      sized = put_length;
      room = omega arith;
      entries = record {
        fit = λ j a b. let q : j ≡ 0 = omega arith in rw (q, put_state) (omega arith);
        older = λ j a b. let q : j ≡ 0 = omega arith in rw (q, put_parent) (rw (live_count v) at hp);
        rise = λ j a b. absurd (omega arith);
        dollar = λ j a b s. let q : j ≡ 0 = omega arith in absurd (omega (arith, sym put_state ∙ ap (stack_state y) (sym q) ∙ s));
      };
    };
  }

  single_is : stack_node y 0 1 ≡ push r p end
  single_is = single_node y 0 (record { some = omega arith; not_dollar = λ _. rw put_state hr }) ∙ rw (put_state, put_parent)

  pub single_place : place (store_of w) (over r (tree (store_of w) p) none) ≡ intern (store_of w) (stack_node y 0 1)
  single_place = place_single (store_of w) v.good.sound r p (rw (live_count v) at hp) ∙ ap (intern (store_of w)) (sym single_is)

-- ---- what a call that interned leaves

grown_left : (w z : List ℕ) (y x : ℕ × Store) (c k : ℕ) (w' u : List ℕ) → x ≡ y → GrewTo z u w' y c → More w k w'
    → leaves_after 0 k (context c) w' zeros ≡ grown w x
grown_left w z y x c k w' u e g more =
    let o : store_of w' ≡ x.1 = g.store ∙ ap (λ (y : ℕ × Store). y.1) (sym e) in
    grown_fits w x w' c k (rw (← o) g.live.good.fits) (g.number ∙ ap (λ (y : ℕ × Store). y.0) (sym e)) (g.live.words ∙ ap words_of o) (more ∙ ap length o)

pub interned_left : (w z : List ℕ) (place n : ℕ) (x : ℕ × Store) (r : Result Numbered Refusal) (w' u : List ℕ)
    → x ≡ intern (store_of w) (stack_node z place n) → Interns w z place n r w' u → numbered r w' zeros ≡ grown w x
interned_left w z place n x (Ok d) w' u e g = grown_left w z _ x d.context.0 d.made w' u e g.0 g.1
interned_left w z place n x (Err f) w' u e g =
    ap (λ (h : Refusal). leaves (refused (number h)) w' zeros) g.0
    ∙ ap (λ (y : List ℕ). leaves (refused 6) y zeros) g.2
    ∙ grown_full w x (λ f. g.1 (rw e at f))

pub interned_length : (w z : List ℕ) (place n : ℕ) (r : Result Numbered Refusal) (w' u : List ℕ) → length z ≡ scratch_words → Interns w z place n r w' u
    → length u ≡ scratch_words
interned_length w z place n (Ok d) w' u l g = g.0.live.index.sized
interned_length w z place n (Err f) w' u l g = ap length g.3 ∙ l

-- ---- the singleton call, after its first checks

module _ (w z u : List ℕ) (p r : ℕ) (a : Result Unit Refusal) (v : Admits w z p a u) where
  pub singleton_refused : (f : Refusal) → a ≡ Err f → leaves (refused (number f)) w u ≡ singleton_call w z p r
  singleton_refused f e = sym (singleton_nested w z p r ∙ (rw e at v) (if_state w r (placed_single w p r)))

  module _ (e : a ≡ Ok tt) where
    pub singleton_ready : Live w u × (p < count w)
    singleton_ready = let o = rw e at v in (ready_live w u o.0, o.1)

    goes : singleton_call w z p r ≡ if_state w r (placed_single w p r)
    goes = singleton_nested w z p r ∙ (rw e at v).2 (if_state w r (placed_single w p r))

    -- the scratch that was cleared
    module _ (y : List ℕ) (ey : y ≡ replicate (length u) 0) where
      zero_again : y ≡ zeros
      zero_again = ey ∙ cleared u singleton_ready.0.index.sized

      pub singleton_mark : (c : CompactState) → compacted r ≡ Ok c → c.0 ≡ compact_mark → leaves (context 0) w y ≡ singleton_call w z p r
      singleton_mark c m k = ap (leaves (context 0) w) zero_again ∙ sym (goes ∙ mark_answered w r (placed_single w p r) c m k)

      pub singleton_out : (f : Refusal) → compacted r ≡ Err f → leaves (refused 5) w y ≡ singleton_call w z p r
      singleton_out f m = ap (leaves (refused 5) w) zero_again ∙ sym (goes ∙ out_of_range w r (placed_single w p r) f m)

    pub singleton_placed : (c : CompactState) → compacted r ≡ Ok c → (c.0 ≢ compact_mark) → (x : Left) → x ≡ placed_single w p c.0 → x ≡ singleton_call w z p r
    singleton_placed c m n x e =
        let o = placed w r (placed_single w p r) c m n in
        e ∙ ap (placed_single w p) o.0 ∙ sym (goes ∙ o.2)
