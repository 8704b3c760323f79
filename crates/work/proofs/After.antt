-- What an outcome says: answer and store are those that are meant; or these are above a ceiling; or the work is. Nothing here has to be believed.
use Rattle.std.specs.Prelude.{◌≡◌, ◌⊎◌, Bool, List, [], ◌∷◌, ℕ, ◌<◌, ◌≤◌, ◌+◌, length}
use Rattle.std.proofs.Common.{inl, inr, arith}
use Rattle.stacks.specs.Merge.{merge_t}
use Rattle.arena.specs.Store.{Node, Store, tree}
use Rattle.arena.proofs.Soundness.{Sound}
use Rattle.arena.proofs.PlaceLaws.{ahead}
use Rattle.arena.proofs.Placed.{Grew, grew_refl, grew_trans, grew_length, grew_tree}
use Rattle.arena.proofs.RoomLaws.{room_grew}
use Rattle.encoding.specs.Ceilings.{Fits}
use Rattle.work.specs.Counted.{most_merges, most_results, Result, State, Outcome, done, refused, and_then, before}

-- c stands for the merge of a and b
pub record Right (m : Bool) (s : Store) (a b c : ℕ) : Type 0 where
  pub left : a < length s
  pub right : b < length s
  pub known : c < length s
  pub is : tree s c ≡ merge_t m (tree s a) (tree s b)

-- so does each result that is kept
abbrev pub AllRight : Store → List Result → Type 0
AllRight s [] = Unit {0}
AllRight s (r ∷ k) = Right r.kind s r.smaller r.larger r.context × AllRight s k

-- a state in which a call can stand
pub record Good (t : State) : Type 0 where
  pub sound : Sound t.store
  pub fits : Fits t.store
  pub right : AllRight t.store t.kept
  pub few : length t.kept ≤ most_results
  pub within : t.count ≤ most_merges

-- from t, with at most w merges, the step came to c and u, where x is meant
pub record Went (X : Type 0) (t : State) (w : ℕ) (x : X × Store) (c : X) (u : State) : Type 0 where
  pub is : x ≡ (c, u.store)
  pub good : Good u
  pub grew : Grew t.store u.store
  pub more : t.count ≤ u.count
  pub spent : u.count ≤ t.count + w

-- refused from t, where w merges at most and the store s are meant: 6, s is above a ceiling; or 12, w is too much
abbrev pub Refused : State → ℕ → Store → ℕ → Type 0
Refused t w s n = ((n ≡ 6) × (Fits s → ⊥)) ⊎ ((n ≡ 12) × (most_merges < t.count + w))

abbrev pub After : (X : Type 0) → State → ℕ → X × Store → Outcome X → Type 0
After X t w x (done c u) = Went X t w x c u
After X t w x (refused n) = Refused t w x.1 n

-- ---- results stay right while the store grows

pub right_grew : (m : Bool) (s u : Store) (a b c : ℕ) → Grew s u → Right m s a b c → Right m u a b c
right_grew m s u a b c g v =
    let l : length s ≤ length u = grew_length s u g in
    record {
      left = omega (arith, v.left);
      right = omega (arith, v.right);
      known = omega (arith, v.known);
      is = rw (grew_tree s u g c v.known, grew_tree s u g a v.left, grew_tree s u g b v.right) v.is;
    }

pub all_grew : (s u : Store) (k : List Result) → Grew s u → AllRight s k → AllRight u k
all_grew s u [] g v = tt
all_grew s u (r ∷ k) g v = (right_grew r.kind s u r.smaller r.larger r.context g v.0, all_grew s u k g v.1)

-- ---- one step and then the next

-- a refusal seen from an earlier state, with a larger store in mind: what is above a ceiling stays so
refused_from : (t u : State) (w v : ℕ) (s s' : Store) (n : ℕ) → Grew s s' → u.count + w ≤ t.count + v → Refused u w s n → Refused t v s' n
refused_from t u w v s s' n g h (inl a) = let r = room_grew s s' g in inl (a.0, λ f. a.1 (omega (arith, f.0), omega (arith, f.1)))
refused_from t u w v s s' n g h (inr b) = inr (b.0, omega (arith, b.1))

-- seen from an earlier state
pub seen_from : (X Y : Type 0) (t : State) (w : ℕ) (x : X × Store) (c : X) (u : State) → Went X t w x c u
    → (v all : ℕ) (y : Y × Store) (o : Outcome Y) → w + v ≤ all → After Y u v y o → After Y t all y o
seen_from X Y t w x c u a v all y (done d z) h b = record {
  is = b.is;
  good = b.good;
  grew = grew_trans t.store u.store z.store a.grew b.grew;
  more = omega (arith, a.more, b.more);
  spent = omega (arith, a.spent, b.spent);
}
seen_from X Y t w x c u a v all y (refused n) h b = refused_from t u v all y.1 y.1 n (grew_refl y.1) (omega (arith, a.spent)) b

pub and_then_lem : (X Y : Type 0) (t : State) (w v all : ℕ) (x : X × Store) (y : Y × Store) (o : Outcome X) (next : X → State → Outcome Y)
    → w + v ≤ all → Grew x.1 y.1 → After X t w x o
    → ((c : X) (u : State) → Went X t w x c u → After Y u v y (next c u))
    → After Y t all y (and_then X Y o next)
unfolding and_then
and_then_lem X Y t w v all x y (done c u) next h g a b = seen_from X Y t w x c u a v all y (next c u) h (b c u a)
and_then_lem X Y t w v all x y (refused n) next h g a b = refused_from t t w all x.1 y.1 n g (omega arith) a

-- an entry ahead of the others
pub and_before : (t : State) (r p w all : ℕ) (x : Node × Store) (o : Outcome Node) → w ≤ all
    → After Node t w x o → After Node t all (ahead r p x) (before r p o)
unfolding before and_then
and_before t r p w all x (done n u) h a = record {
  is = rw a.is;
  good = a.good;
  grew = a.grew;
  more = a.more;
  spent = omega (arith, a.spent);
}
and_before t r p w all x (refused n) h a = refused_from t t w all x.1 x.1 n (grew_refl x.1) (omega arith) a

-- nothing done
pub and_stay : (X : Type 0) (t : State) (w : ℕ) (x : X × Store) (c : X) → Good t → x ≡ (c, t.store) → After X t w x (done c t)
and_stay X t w x c v e = record { is = e; good = v; grew = grew_refl t.store; more = omega arith; spent = omega arith }
