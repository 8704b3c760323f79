-- What a merge call promises, over its definition alone: an accepted one is the union, or satisfies document 01's wildcard sentences; a sound
-- store knows the number; older sets kept; the numbering rule; sides exchanged; a refused one exactly when, and with nothing changed; its
-- outcome determined. Nothing here has to be believed.
use Rattle.std.specs.Prelude.{◌≡◌, ◌↔◌, Bool, true, false, ◌||◌, List}
use Rattle.std.proofs.Math.Path.{refl, sym, ap}
use Rattle.std.proofs.Common.{◌∙◌, arith}
use Prim.Native.Nat.{ℕ, ◌+◌, ◌-◌, ◌<◌, ◌≤◌}
use Rattle.std.proofs.Math.ListN.{length}
use Rattle.words.specs.Numbers.{below?}
use Rattle.stacks.specs.Forest.{Forest, mem}
use Rattle.stacks.specs.Canon.{Canon}
use Rattle.stacks.specs.Merge.{merge_t}
use Rattle.stacks.specs.Rules.{WildcardMerge}
use Rattle.stacks.proofs.RulesLaws.{MergeRule}
use Rattle.stacks.proofs.RulesTheorems.{merge_rule}
use Rattle.arena.specs.Store.{Store, tree, at}
use Rattle.arena.proofs.Trees.{tree_canon}
use Rattle.arena.specs.Stands.{stands}
use Rattle.arena.proofs.Identity.{same_stacks}
use Rattle.arena.specs.Place.{merge_s}
use Rattle.arena.proofs.Placed.{grew_tree, grew_length, place_there}
use Rattle.arena.proofs.Steps.{merge_holds, merge_grew, merge_same}
use Rattle.arena.specs.Numbering.{parts, Joins}
use Rattle.arena.proofs.NumberingLaws.{merge_numbers}
use Rattle.arena.proofs.BelowLaws.{tree_below, merge_below, place_below}
use Rattle.layout.specs.Layout.{store_words, stop, count as contexts}
use Rattle.layout.specs.Decode.{store_of}
use Rattle.layout.specs.Decode.Laws.{store_length}
use Rattle.layout.specs.Ceilings.{Fits}
use Rattle.layout.specs.Encode.{words_of}
use Rattle.encoding.specs.Good.{GoodStore}
use Rattle.encoding.specs.Decoded.{decoded}
use Rattle.encoding.specs.Decide.{sound}
use Rattle.encoding.proofs.DecideLaws.{sound_true}
use Rattle.store.specs.Checks.{order, due}
use Rattle.store.specs.Checks.Laws.{in_order}
use Rattle.words.specs.Refusals.{number}
use Rattle.work.specs.Counted.{counting, refused as over, count_of}
use Rattle.work.proofs.Theorems.{else_answered, count_within}
use Rattle.store.proofs.Told.{number_tells}
use Rattle.store.specs.Calls.{refused, context, Left, refusal, gives_after, Accepts}
use Rattle.store.specs.Calls.Laws.{refused_exactly, refused_leaves, accepted, right_lengths, is_sound, both_known, has_room, little_work, accepted_merges, made_exactly, found_exactly}
use Rattle.store.specs.Nested.{if_known}
use Rattle.store.specs.Admit.{known_goes, unknown}
use Rattle.interning.proofs.SingletonNested.{checked_agree}
use Rattle.interning.proofs.Promises.{After, after_of, no_refusal}
use Rattle.contexts.specs.MergeCall.{merge_checks, merge_call}
use Rattle.contexts.specs.MergeCall.Laws.{merge_nested, worked_sides}
use Rattle.contexts.specs.Replies.{merged}
use Rattle.contexts.specs.declared.merges.Merged.{Merged}
use Rattle.std.specs.Prelude.{Result, Ok, Err}
use Rattle.words.specs.declared.refusals.Refusal.{Refusal}

-- ---- an accepted merge

module _ (w z : List ℕ) (a b : ℕ) (m : Bool) (c : ℕ) (w' : List ℕ) (ok : Accepts (merge_call w z a b m) c w') where
  record Passed : Type 0 where
    pub sized : length w ≡ store_words
    pub good : GoodStore (store_of w)
    pub words : w ≡ words_of (store_of w)
    pub known : (a < contexts w) × (b < contexts w)
    pub light : counting m (store_of w) a b ≡ over 12 → ⊥
    pub fits : Fits (merge_s m (store_of w) a b).1
    pub number : (merge_s m (store_of w) a b).0 ≡ c
    pub after : words_of (merge_s m (store_of w) a b).1 ≡ w'

  passed : Passed
  unfolding merge_call merge_checks
  passed =
      let r = accepted w z _ (count_of (counting m (store_of w) a b)) (store_of w) (merge_s m (store_of w) a b) c w' ok in
      let l = (right_lengths w z r.0.0).0 in
      let d = decoded w l (sound_true w l (is_sound w z r.0.1.0)) in
      record {
        sized = l;
        good = d.0;
        words = d.1;
        known = both_known w z a b r.0.1.1.0;
        light = little_work _ r.0.1.1.1.0;
        fits = has_room _ r.0.1.1.1.1.0;
        number = r.1;
        after = r.2;
      }

  ha : a < length (store_of w)
  ha = rw (store_length w (contexts w)) passed.known.0

  hb : b < length (store_of w)
  hb = rw (store_length w (contexts w)) passed.known.1

  -- both numbers were known
  pub merge_known_before : (a < contexts w) × (b < contexts w)
  merge_known_before = passed.known

  -- and so the sets of the sides are in canonical form
  pub sides_canon : Canon (tree (store_of w) a) × Canon (tree (store_of w) b)
  sides_canon = ((tree_canon (store_of w) passed.good.sound a ha).1, (tree_canon (store_of w) passed.good.sound b hb).1)

  -- the store that the merge made
  after : After (merge_s m (store_of w) a b) c w'
  unfolding merge_s
  after =
      let s = store_of w in
      let h = merge_holds m s passed.good.sound a b ha hb in
      let below = tree_below stop s passed.good.below in
      let good : GoodStore (merge_s m s a b).1 = record {
        sound = h.sound;
        below = place_below stop s _ passed.good.below (merge_below stop m _ _ (below a) (below b));
        some = omega (arith, h.known);
        fits = passed.fits;
      } in
      after_of (merge_s m s a b) c w' good h.known passed.number passed.after

  pub store_after : store_of w' ≡ (merge_s m (store_of w) a b).1
  store_after = after.store

  -- the number is in a sound store
  pub merge_sound_after : (length w' ≡ store_words) × (sound w' ≡ true) × (c < contexts w')
  merge_sound_after = (after.sized, after.sound.0, after.sound.1)

  -- its set is the merge of the sides' sets
  pub merge_tree : tree (store_of w') c ≡ merge_t m (tree (store_of w) a) (tree (store_of w) b)
  merge_tree = (rw (store_after, ← passed.number)) ∙ (merge_holds m (store_of w) passed.good.sound a b ha hb).is

  -- the number stands for the merged set, by the rule of its mode
  pub merge_stands : MergeRule m (mem (tree (store_of w) a)) (mem (tree (store_of w) b)) (mem (tree (store_of w') c))
  merge_stands =
      let s = store_of w in
      rw merge_tree (merge_rule m _ _ (tree_canon s passed.good.sound a ha).1 (tree_canon s passed.good.sound b hb).1)

  -- a context merged with itself gives its number, and nothing is made
  pub itself : a ≡ b → (c ≡ a) × (w' ≡ w)
  itself e =
      let s = store_of w in
      let same : merge_s m s a b ≡ (a, s) = merge_same m s passed.good.sound a b ha hb e in (
        sym passed.number ∙ ap (λ (x : ℕ × Store). x.0) same,
        sym passed.after ∙ ap (λ (x : ℕ × Store). words_of x.1) same ∙ sym passed.words,
      )

  -- every older number's set is as it was, and none goes
  pub older_kept : (k : ℕ) → k < contexts w → (k < contexts w') × ((σ : List ℕ) → stands (store_of w') k σ ≡ stands (store_of w) k σ)
  older_kept k l =
      let old : k < length (store_of w) = rw (store_length w (contexts w)) l in
      let g = merge_grew m (store_of w) passed.good.sound a b ha hb in
      let more : length (store_of w) ≤ length (store_of w') = rw store_after (grew_length (store_of w) _ g) in
      let there : k < length (store_of w') = omega arith in
      (rw (store_length w' (contexts w')) at there, λ σ. ap (λ (F : Forest). mem F σ) ((rw store_after) ∙ grew_tree (store_of w) _ g k old))

  -- the contexts that there are more than before
  merge_grows : contexts w + (length (merge_s m (store_of w) a b).1 - length (store_of w)) ≡ contexts w'
  merge_grows =
      let more = grew_length (store_of w) _ (merge_grew m (store_of w) passed.good.sound a b ha hb) in
      omega (arith, more, ap length store_after, store_length w (contexts w), store_length w' (contexts w'))

  -- where the number was there before, nothing is made
  merge_there : c < contexts w → w' ≡ w
  unfolding merge_s
  merge_there h =
      let s = store_of w in
      let old : c < length s = rw (store_length w (contexts w)) h in
      let g = merge_grew m s passed.good.sound a b ha hb in
      let is : tree s c ≡ merge_t m (tree s a) (tree s b) = sym (grew_tree s _ g c old) ∙ ap (λ (u : Store). tree u c) (sym store_after) ∙ merge_tree in
      sym passed.after ∙ ap (λ (x : ℕ × Store). words_of x.1) (place_there s passed.good.sound c _ old is) ∙ sym passed.words

  -- "New contexts take the next number: inner merges go in rising order of top state, each before the context above it, and nothing else is made."
  pub merge_numbers_after : Joins (store_of w) (parts (merge_t m (tree (store_of w) a) (tree (store_of w) b))) (store_of w')
  merge_numbers_after = rw store_after (merge_numbers m (store_of w) passed.good.sound a b ha hb)

-- An accepted full-context merge stands for the union of its sides.
pub merge_is_union : (w z : List ℕ) (a b c : ℕ) (w' : List ℕ) → Accepts (merge_call w z a b false) c w'
    → (σ : List ℕ) → stands (store_of w') c σ ≡ (stands (store_of w) a σ || stands (store_of w) b σ)
merge_is_union w z a b c w' ok = merge_stands w z a b false c w' ok

-- An accepted wildcard merge satisfies document 01's sentences.
pub merge_by_wildcard : (w z : List ℕ) (a b c : ℕ) (w' : List ℕ) → Accepts (merge_call w z a b true) c w'
    → WildcardMerge (stands (store_of w) a) (stands (store_of w) b) (stands (store_of w') c)
merge_by_wildcard w z a b c w' ok = merge_stands w z a b true c w' ok

-- ---- sides exchanged, refused calls too

known_swapped : (w : List ℕ) (a b : ℕ) (x y : Left) → (a < contexts w → b < contexts w → x ≡ y) → if_known w a (if_known w b x) ≡ if_known w b (if_known w a y)
known_swapped w a b x y h =
    below? a (contexts w)
    (λ p. below? b (contexts w)
    (λ q. known_goes w a _ p ∙ known_goes w b x q ∙ h p q ∙ sym (known_goes w b _ q ∙ known_goes w a y p))
    (λ q. known_goes w a _ p ∙ unknown w b x q ∙ sym (unknown w b _ q)))
    (λ p. below? b (contexts w)
    (λ q. unknown w a _ p ∙ sym (known_goes w b _ q ∙ unknown w a y p))
    (λ q. unknown w a _ p ∙ sym (unknown w b _ q)))

-- The sides can be exchanged: the same reply and the same words.
pub sides_exchanged : (w z : List ℕ) (a b : ℕ) (m : Bool) → merge_call w z a b m ≡ merge_call w z b a m
sides_exchanged w z a b m =
    merge_nested w z a b m ∙
    checked_agree w z _ _ (λ l s. known_swapped w a b _ _ (λ p q.
    let g : GoodStore (store_of w) = (decoded w l (sound_true w l s)).0 in
    let n = store_length w (contexts w) in
    worked_sides w a b m g.sound (rw n p) (rw n q))) ∙
    sym (merge_nested w z b a m)

-- ---- numbers and stacks, over the words of a sound store

-- Two numbers are equal exactly when they stand for the same stacks.
pub equal_exactly : (w : List ℕ) → length w ≡ store_words → sound w ≡ true → (a b : ℕ) → a < contexts w → b < contexts w
    → (a ≡ b) ↔ ((σ : List ℕ) → stands (store_of w) a σ ≡ stands (store_of w) b σ)
equal_exactly w l s a b h k =
    let n = store_length w (contexts w) in
    same_stacks (store_of w) (decoded w l (sound_true w l s)).0.sound a b (rw n h) (rw n k)

-- ---- a refused merge: exactly when, and with nothing changed

module _ (w z : List ℕ) (a b : ℕ) (m : Bool) (n : ℕ) where
  pub merge_refused_exactly : ((merge_call w z a b m).reply ≡ refused n) ↔ (due (merge_checks w z a b m) ≡ at n)
  unfolding merge_call
  merge_refused_exactly =
      let x = merge_s m (store_of w) a b in
      let k = count_of (counting m (store_of w) a b) in
      refused_exactly w z (merge_checks w z a b m) (gives_after k (store_of w) x) (no_refusal k (store_of w) x) n

  pub merge_refused_leaves : (merge_call w z a b m).reply ≡ refused n → merge_call w z a b m ≡ refusal w z n
  unfolding merge_call
  merge_refused_leaves =
      let x = merge_s m (store_of w) a b in
      let k = count_of (counting m (store_of w) a b) in
      refused_leaves w z (merge_checks w z a b m) (gives_after k (store_of w) x) (no_refusal k (store_of w) x) n

  pub merge_in_order : in_order order (merge_checks w z a b m) ≡ true
  unfolding merge_checks in_order
  merge_in_order = refl

-- ---- any two outcomes that satisfy the contract for the same input are equal

merged_tells : (a b : Result Merged Refusal) (u v y x : List ℕ) → merged a u y ≡ merged b v x → a ≡ b
merged_tells (Ok c) (Ok d) u v y x e =
    let f : context c.context.0 ≡ context d.context.0 = ap (λ (o : Left). o.reply) e in
    let i : c.context.0 ≡ d.context.0 = cc in
    let n : c.tally.merges ≡ d.tally.merges = ap (λ (o : Left). o.merges) e in
    let k : c.tally.made ≡ d.tally.made = ap (λ (o : Left). o.made) e in
    ap (λ (j : ℕ). Ok (record { context = record { 0 = j }; tally = c.tally })) i ∙
    ap (λ (j : ℕ). Ok (record { context = d.context; tally = record { merges = j; made = c.tally.made } })) n ∙
    ap (λ (j : ℕ). Ok (record { context = d.context; tally = record { merges = d.tally.merges; made = j } })) k
merged_tells (Ok c) (Err g) u v y x e = let f : context c.context.0 ≡ refused (number g) = ap (λ (o : Left). o.reply) e in cc
merged_tells (Err f) (Ok d) u v y x e = let g : refused (number f) ≡ context d.context.0 = ap (λ (o : Left). o.reply) e in cc
merged_tells (Err f) (Err g) u v y x e = ap Err (number_tells f g (ap (λ (o : Left). o.reply) e))

words_tell : (a b : Result Merged Refusal) (u v y x : List ℕ) → merged a u y ≡ merged b v x → (u ≡ v) × (y ≡ x)
words_tell (Ok c) (Ok d) u v y x e = (ap (λ (o : Left). o.store) e, ap (λ (o : Left). o.scratch) e)
words_tell (Ok c) (Err g) u v y x e = (ap (λ (o : Left). o.store) e, ap (λ (o : Left). o.scratch) e)
words_tell (Err f) (Ok d) u v y x e = (ap (λ (o : Left). o.store) e, ap (λ (o : Left). o.scratch) e)
words_tell (Err f) (Err g) u v y x e = (ap (λ (o : Left). o.store) e, ap (λ (o : Left). o.scratch) e)

pub merge_determined : (w z : List ℕ) (l r : ℕ) (m : Bool) (a b : Result Merged Refusal) (u v y x : List ℕ)
    → merged a u y ≡ merge_call w z l r m → merged b v x ≡ merge_call w z l r m → (a ≡ b) × (u ≡ v) × (y ≡ x)
merge_determined w z l r m a b u v y x p q =
    let e : merged a u y ≡ merged b v x = p ∙ sym q in
    let o = words_tell a b u v y x e in
    (merged_tells a b u v y x e, o.0, o.1)

-- ---- what is made

-- "how many contexts the call made: exactly the count after less the count before"
pub merge_figure : (w z : List ℕ) (a b : ℕ) (m : Bool) → contexts w + (merge_call w z a b m).made ≡ contexts (merge_call w z a b m).store
unfolding merge_call
merge_figure w z a b m =
    let s = store_of w in
    made_exactly w z (merge_checks w z a b m) (count_of (counting m s a b)) s (merge_s m s a b) (λ ok. merge_grows w z a b m _ _ ok)

-- "whether the context was found or made": the figure is 0 exactly if the number was there before
pub merge_found : (w z : List ℕ) (a b : ℕ) (m : Bool) (c : ℕ) (w' : List ℕ) → Accepts (merge_call w z a b m) c w'
    → ((merge_call w z a b m).made ≡ 0) ↔ (c < contexts w)
merge_found w z a b m c w' ok =
    found_exactly w w' c _ (merge_figure w z a b m ∙ ap contexts ok.1) (merge_sound_after w z a b m c w' ok).2 (merge_there w z a b m c w' ok)

-- ---- what is counted

-- An accepted merge counts what the definition counts, and never more than the ceiling.
pub merge_counts : (w z : List ℕ) (a b : ℕ) (m : Bool) (c : ℕ) (w' : List ℕ) → Accepts (merge_call w z a b m) c w'
    → ((merge_call w z a b m).merges ≡ count_of (counting m (store_of w) a b)) × ((merge_call w z a b m).merges ≤ 65536)
unfolding merge_call merge_checks count_of
merge_counts w z a b m c w' ok =
    let s = store_of w in
    let is = accepted_merges w z (merge_checks w z a b m) (count_of (counting m s a b)) s (merge_s m s a b) c w' ok in
    let v = passed w z a b m c w' ok in
    let l = ha w z a b m c w' ok in
    let r = hb w z a b m c w' ok in
    let e = else_answered m s a b v.good.sound v.good.fits l r v.light v.fits in
    let few = count_within m s a b v.good.sound v.good.fits l r _ e.0 e.1 in
    (is, rw (is, e.1) few)
