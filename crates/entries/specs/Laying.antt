-- One entry more on the entry stack of a live store. Nothing here has to be believed.
use Rattle.std.specs.Prelude.{◌≡◌, List, ℕ, suc, ◌<◌, ◌≤◌, ◌+◌, ◌*◌, length, get_or}
use Rattle.std.proofs.Common.{arith, get_or-set_other}
use Rattle.arena.specs.Store.{Node, Store}
use Rattle.layout.specs.Layout.{scratch_words, stop}
use Rattle.layout.specs.Scratch.{stack_parent, stack_state}
use Rattle.layout.specs.Listing.Laws.{Entries}
use Rattle.layout.specs.Decode.{store_of}
use Rattle.index.specs.Grow.{index_frame}
use Rattle.index.specs.Writes.{put_entry}
use Rattle.interning.specs.Live.{Live}
use Rattle.work.proofs.Heads.{cons}
use Rattle.entries.specs.StackAhead.{onto}
use Rattle.entries.specs.StackEntry.{Under, push_length, push_between, push_under, push_onto, push_entries}

-- n entries of contexts of s are on the stack from `top` on
abbrev pub Stacks : Store → List ℕ → ℕ → ℕ → Type 0
Stacks s z top n = Entries (stack_state z) (stack_parent z) top n (length s)

-- they, and then the entries x
abbrev pub ahead : List ℕ → ℕ → ℕ → Node → Node
ahead z top n x = onto (stack_state z) (stack_parent z) top n x

-- the scratch is as it was below the stack's place t
abbrev pub SameBelow : List ℕ → List ℕ → ℕ → Type 0
SameBelow z u t = (i : ℕ) → i < 7936 + 2 * t → get_or u i 0 ≡ get_or z i 0

-- the parent p and the state r can follow n entries on the stack
pub record Next (s : Store) (z : List ℕ) (top n p r : ℕ) : Type 0 where
  pub room : top + n < 4200
  pub most : r ≤ stop
  pub older : p < length s
  pub dollar : r ≡ stop → p ≡ 0
  pub under : Under z top n r

-- they have followed
pub record Laid (w z : List ℕ) (top n p r : ℕ) (y : List ℕ) : Type 0 where
  pub live : Live w y
  pub entries : Stacks (store_of w) y top (suc n)
  pub same : SameBelow z y (top + n)
  pub high : (i : ℕ) → 16336 ≤ i → get_or y i 0 ≡ get_or z i 0
  pub onward : (x : Node) → ahead y top (suc n) x ≡ ahead z top n (cons r p x)
  pub under : (x : ℕ) → Under z top n x → r < x → Under y top (suc n) x

-- the same store, another scratch that agrees below the stack
pub live_moved : (w z u : List ℕ) (t : ℕ) → length u ≡ scratch_words → SameBelow z u t → Live w z → Live w u
live_moved w z u t l same v = record {
  good = v.good;
  words = v.words;
  index = index_frame (store_of w) z u v.good.fits.0 l (λ i h. same i (omega arith)) v.index;
}

-- the words after the stack stay
entry_high : (z : List ℕ) (e p r : ℕ) → e < 4200 → (i : ℕ) → 16336 ≤ i → get_or (put_entry z e p r) i 0 ≡ get_or z i 0
unfolding put_entry
entry_high z e p r l i h =
    let a : i ≡ 7936 + 2 * e → ⊥ = λ q. omega arith in
    let b : i ≡ 7936 + 2 * e + 1 → ⊥ = λ q. omega arith in
    rw (get_or-set_other, get_or-set_other)

pub lay : (w z : List ℕ) (top n p r : ℕ) → Live w z → Stacks (store_of w) z top n → Next (store_of w) z top n p r
    → (y : List ℕ) → y ≡ put_entry z (top + n) p r → Laid w z top n p r y
lay w z top n p r v e x y ey =
    let l = v.index.sized in
    let same = push_between z top n p r l x.room y ey in
    record {
      live = live_moved w z y (top + n) (push_length z top n p r l x.room y ey) same v;
      entries = push_entries z top n p r l x.room y ey (length (store_of w)) e x.most x.older x.dollar x.under;
      same = same;
      high = λ i h. rw ey (entry_high z (top + n) p r x.room i h);
      onward = push_onto z top n p r l x.room y ey;
      under = push_under z top n p r l x.room y ey;
    }
