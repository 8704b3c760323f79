-- Where a call stands, by its words; what a merge is given and what it leaves. Nothing here has to be believed.
use Rattle.std.specs.Prelude.{◌≡◌, refl, ◌⊎◌, Bool, true, false, List, ℕ, ◌<◌, ◌≤◌, ◌+◌, eqb, length, get_or}
use Rattle.std.proofs.Common.{ap, ◌∙◌, inr, arith, eqb-true}
use Rattle.std.proofs.lemmas.Bool.{eqb-false}
use Rattle.arena.specs.Store.{Node, node_at}
use Rattle.arena.proofs.Placed.{Grew, grew_trans}
use Rattle.index.specs.Layout.{scratch_words, store_words}
use Rattle.index.specs.Decode.{store_of}
use Rattle.index.specs.Encode.{words_of}
use Rattle.encoding.specs.Good.{GoodStore}
use Rattle.encoding.specs.Written.{words_length}
use Rattle.interning.specs.Live.{Live, live_length}
use Rattle.interning.specs.Interned.{More}
use Rattle.work.specs.Counted.{State, standing, Outcome, done, refused, and_then, walk, interned, counted}
use Rattle.work.proofs.After.{Good}
use Rattle.cache.specs.Cache.{CacheSound, kept_of, merges_counted}
use Rattle.cache.specs.Frames.{kept_same}
use Rattle.entries.specs.StackEntry.{SameStack}
use Rattle.merging.specs.Ends.{ends}
use Rattle.words.specs.Refusals.{number}
use Rattle.std.specs.Prelude.{Result, Ok, Err}
use Rattle.words.specs.declared.refusals.Refusal.{Refusal}
use Rattle.interning.specs.declared.numbered.Numbered.{Numbered}

-- the store that the words w hold, the results that the scratch z keeps, and the merges that it counts
abbrev pub state_of : List ℕ → List ℕ → State
state_of w z = standing (store_of w) (kept_of z) (merges_counted z)

-- the entries of a and b merged and interned
abbrev pub walked : Bool → State → ℕ → ℕ → Outcome ℕ
walked m t a b = and_then Node ℕ (walk (counted m) t (node_at t.store a) (node_at t.store b)) interned

-- a merge of a and b, with the stack in use up to `top`
pub record Mergeable (w z : List ℕ) (a b top : ℕ) : Type 0 where
  pub live : Live w z
  pub cache : CacheSound z
  pub good : Good (state_of w z)
  pub left : a < length (store_of w)
  pub right : b < length (store_of w)
  pub room : top + ends (store_of w) a + ends (store_of w) b + 2 ≤ 4200

-- of two contexts
pub record Apart (w z : List ℕ) (a b top : ℕ) : Type 0 where
  pub sides : Mergeable w z a b top
  pub differ : a ≡ b → ⊥

-- the outcome is c, where the words now stand, and everything below the stack's place `top` is in order
pub record Reached (z : List ℕ) (top : ℕ) (o : Outcome ℕ) (c : ℕ) (w u : List ℕ) : Type 0 where
  pub is : o ≡ done c (state_of w u)
  pub live : Live w u
  pub cache : CacheSound u
  pub between : SameStack z u top

-- refused: the words are those of a good store that has all of the old one
pub record Stuck (w v u : List ℕ) : Type 0 where
  pub grew : Grew (store_of w) (store_of v)
  pub good : GoodStore (store_of v)
  pub words : v ≡ words_of (store_of v)
  pub sized : length u ≡ scratch_words

-- what a merge with the outcome o leaves, k contexts more than before
abbrev pub Ended : List ℕ → List ℕ → ℕ → Outcome ℕ → Result Numbered Refusal → List ℕ → List ℕ → Type 0
Ended w z top o (Ok d) v u = Reached z top o d.context.0 v u × More w d.made v
Ended w z top o (Err f) v u = (o ≡ refused (number f)) × Stuck w v u

-- seen from an earlier place
pub stuck_from : (w₀ w v u : List ℕ) → Grew (store_of w₀) (store_of w) → Stuck w v u → Stuck w₀ v u
stuck_from w₀ w v u g s = record { grew = grew_trans (store_of w₀) (store_of w) (store_of v) g s.grew; good = s.good; words = s.words; sized = s.sized }

-- ---- by wildcard a side is the empty context; or not

abbrev pub Swallows : Bool → ℕ → ℕ → Bool → Type 0
Swallows m a b true = (m ≡ true) × ((a ≡ 0) ⊎ (b ≡ 0))
Swallows m a b false = m ≡ true → (0 < a) × (0 < b)

-- the last test, on the right side
pub swallows_if : (m : Bool) (a b : ℕ) → m ≡ true → (a ≡ 0 → ⊥) → Swallows m a b (eqb b 0)
swallows_if m a b e n = go (eqb b 0) refl
  where
    go : (t : Bool) → eqb b 0 ≡ t → Swallows m a b t
    go true q = (e, inr (eqb-true b 0 q))
    go false q = λ _. (omega arith, let k : b ≡ 0 → ⊥ = eqb-false b 0 q in omega arith)

-- ---- small moves

-- the cache and the counts are as they were
pub record SameCache (z u : List ℕ) : Type 0 where
  pub inside : (i : ℕ) → 2048 ≤ i → i < 7936 → get_or u i 0 ≡ get_or z i 0
  pub after : (i : ℕ) → 16336 ≤ i → get_or u i 0 ≡ get_or z i 0

pub state_moved : (w z u : List ℕ) → SameCache z u → CacheSound z → state_of w u ≡ state_of w z
unfolding merges_counted
state_moved w z u s v = rw (kept_same z u s.inside (s.after 16336 (omega arith)) v, s.after 16337 (omega arith))

-- whatever the answer, lengths are kept
pub ended_lengths : {w z : List ℕ} {a b top : ℕ} → Mergeable w z a b top → (o : Outcome ℕ) (r : Result Numbered Refusal) (v u : List ℕ) → Ended w z top o r v u
    → (length v ≡ store_words) × (length u ≡ scratch_words)
ended_lengths m o (Ok d) v u g = (live_length g.0.live, g.0.live.index.sized)
ended_lengths m o (Err f) v u g = (ap length g.1.words ∙ words_length (store_of v), g.1.sized)
