-- A reader in two stores, its contexts standing for the same stacks in both: each call answers the same to be seen, and keeps this.
-- Nothing here has to be believed.
use Rattle.std.proofs.Math.Path.{◌≡◌, refl, ap}
use Rattle.std.proofs.Common.{sym, ◌∙◌, arith, eq-eqb, ne_eqb, lt-ltb}
use Rattle.std.specs.Prelude.{◌↔◌, Bool, not, ◌&&◌, eqb, ltb, leb, length, get_or}
use Rattle.std.proofs.Math.Bool.{true, false}
use Rattle.std.proofs.lemmas.Bool.{false≢true}
use mathlib.Core.List.{List, [], ◌∷◌, ◌++◌, map}
use Prim.Native.Nat.{ℕ, zero, suc, ◌<◌}
use Rattle.arena.specs.Numbers.{two, never}
use Rattle.encoding.specs.Names.{empty_mark}
use Rattle.arena.specs.Forest.{Forest, mem}
use Rattle.arena.specs.Merge.{is_mark, merge_t}
use Rattle.arena.specs.Store.{Node, end, dollar, push, Store, tree_of, tree, node_at, Found, at, nowhere}
use Rattle.arena.specs.Kinds.{size}
use Rattle.arena.proofs.Soundness.{Rise, Sound}
use Rattle.arena.proofs.Trees.{node_rise, tree_node, tree_inj}
use Rattle.arena.specs.Place.{merge_s}
use Rattle.arena.proofs.Placed.{Grew, grew_length, grew_tree}
use Rattle.encoding.specs.Layout.{stop}
use Rattle.encoding.specs.Decide.{fits}
use Rattle.store.specs.Checks.{Check, given, unless}
use Rattle.store.specs.Calls as Stores
use Rattle.interning.specs.SingletonCall.{single_s}
use Rattle.queries.specs.Queries.{Question, entry_count, is_empty, has_empty_path, entry_state, entry_parent, entry_at, answer_to}
use Rattle.queries.specs.Listed.{state_at, parent_at, parent_of}
use Rattle.sets.specs.Config.{Config, config}
use Rattle.sets.specs.Lists.{any}
use Rattle.sets.specs.Layout.{most_configs}
use Rattle.sets.specs.Sets.{Set, empty_set, with_configs, closed_set, same_keys, held, joined_all, add_to}
use Rattle.sets.proofs.Sound.{good_known}
use Rattle.store.specs.Calls.{too_much_work}
use Rattle.sets.specs.Calls as SetCalls
use Rattle.sets.specs.Calls.{add_work}
use Rattle.configs.proofs.Adds.{add_joined, add_new}
use Rattle.groups.specs.Groups as Grouped
use Rattle.groups.specs.Answers as Answers
use Rattle.groups.specs.Reason.{reason}
use Rattle.groups.proofs.Renamed as Renamed
use Rattle.groups.proofs.Renamed.{Each, more, moved, Twin, twin, OneToOne, twin_groups, twin_conflicting, twin_conflict, twin_equal, twin_viable, twin_unique, twin_verdict, twin_reason}
use Rattle.reasons.specs.Outputs.{alts_length, padded, alts_words}
use Rattle.reasons.specs.VerdictsCalls as Verdicts
use Rattle.reasons.specs.VerdictsCalls.{most_stops}
use Rattle.readers.specs.Calls.{Name, Call, singleton, merge, query, fresh_set, add, close, subsets, conflicting_alts, unique_alt}
use Rattle.readers.specs.Calls.{single_viable_alt, all_subsets_conflict, all_subsets_equal, verdict, why, of_store, of_set, of_subsets, words, Got, refused, context, groups, plain, told, reasoned}
use Rattle.readers.proofs.Pure.{State, to, halt, part_of, singleton_to, merge_to, add_checks_of, addition_to, verdict_to, why_to, state_after}
use Rattle.readers.proofs.Kept.{Makes, single_t, single_makes, merge_makes, Good, Known, held_known, found?}
use Rattle.readers.proofs.Alike as Names
use Rattle.readers.proofs.Alike.{each_append, each_wider, Founds, both, neither, Sets, set, Gots, refusals, contexts, grouped, plains, configs_wider, sets_wider, parts_alike, reason_alike}
use Rattle.readers.proofs.Alike.{held_alike, join_alike, full_alike}

-- ---- numbers that stand for the same stacks, each in its store

pub record Like (s t : Store) (c d : ℕ) : Type 0 where
  pub left : c < length s
  pub right : d < length t
  pub same : tree s c ≡ tree t d

pub like_grew : (s t u v : Store) → Grew s u → Grew t v → (c d : ℕ) → Like s t c d → Like u v c d
like_grew s t u v f g c d h = record {
  left = omega (arith, grew_length s u f, h.left);
  right = omega (arith, grew_length t v g, h.right);
  same = grew_tree s u f c h.left ∙ h.same ∙ sym (grew_tree t v g d h.right);
}

-- equal on one side exactly if on the other
like_one : (s t : Store) → Sound s → Sound t → OneToOne (Like s t)
like_one s t w v c c' d d' h k = (
  λ e. tree_inj t v d d' h.right k.right (sym h.same ∙ ap (tree s) e ∙ k.same),
  λ e. tree_inj s w c c' h.left k.left (h.same ∙ ap (tree t) e ∙ sym k.same),
)

-- ---- the entries of alike contexts

data Nodes (R : ℕ → ℕ → Type 0) : Node → Node → Type 0 where
  ends : Nodes R end end
  dollars : Nodes R dollar dollar
  pushes : (r : ℕ) {p q : ℕ} {n k : Node} → R p q → Nodes R n k → Nodes R (push r p n) (push r q k)

nodes_alike : (s t : Store) (n k : Node) (lo lo' : ℕ) → Rise lo (length s) n → Rise lo' (length t) k
    → tree_of (tree s) n ≡ tree_of (tree t) k → Nodes (Like s t) n k
unfolding tree_of
nodes_alike s t end end lo lo' u v e = ends
nodes_alike s t end dollar lo lo' u v e = never (cc)
nodes_alike s t end (push q o k) lo lo' u v e = never (cc)
nodes_alike s t dollar end lo lo' u v e = never (cc)
nodes_alike s t dollar dollar lo lo' u v e = dollars
nodes_alike s t dollar (push q o k) lo lo' u v e = never (cc)
nodes_alike s t (push r p n) end lo lo' u v e = never (cc)
nodes_alike s t (push r p n) dollar lo lo' u v e = never (cc)
nodes_alike s t (push r p n) (push q o k) lo lo' u v e =
    let states : r ≡ q = cc in
    let parents : Like s t p o = record { left = u.1; right = v.1; same = cc } in
    rw (← states) (pushes r parents (nodes_alike s t n k (suc r) (suc q) u.2 v.2 (cc)))

module _ (R : ℕ → ℕ → Type 0) where
  size_alike : {n k : Node} → Nodes R n k → size n ≡ size k
  unfolding size
  size_alike ends = refl
  size_alike dollars = refl
  size_alike (pushes r h l) = ap suc (size_alike l)

  state_alike : {n k : Node} (i : ℕ) → Nodes R n k → Gots R (told (state_at n i)) (told (state_at k i))
  unfolding entry_at told
  state_alike i ends = plains (of_store Stores.none)
  state_alike zero dollars = plains (of_store (Stores.state empty_mark))
  state_alike (suc i) dollars = plains (of_store Stores.none)
  state_alike zero (pushes r h l) = plains (of_store (Stores.state r))
  state_alike (suc i) (pushes r h l) = state_alike i l

  parent_alike : {n k : Node} (i : ℕ) → R 0 0 → Nodes R n k → Gots R (told (parent_at n i)) (told (parent_at k i))
  unfolding entry_at told
  parent_alike i z ends = plains (of_store Stores.none)
  parent_alike zero z dollars = contexts z
  parent_alike (suc i) z dollars = plains (of_store Stores.none)
  parent_alike zero z (pushes r h l) = contexts h
  parent_alike (suc i) z (pushes r h l) = parent_alike i z l

-- ---- what a call leaves, alike

pub record Alike (D E : State) : Type 0 where
  pub gots : Gots (Like D.store E.store) D.got E.got
  pub sets : Sets (Like D.store E.store) D.set E.set

-- not refused n
abbrev pub Room : ℕ → State → Type 0
Room n D = D.got ≡ refused n → ⊥

-- both calls are refused n or neither is
abbrev pub Even : ℕ → State → State → Type 0
Even n D E = (Room n D → Room n E) × (Room n E → Room n D)

-- if both calls lack room or neither does, and the same of work
abbrev pub Keeps : State → State → Type 0
Keeps D E = Even 6 D E → Even 12 D E → Alike D E

module _ (s t : Store) {S T : Set} (w : Good s S) (v : Good t T) (l : Sets (Like s t) S T) where
  -- where the store stays
  stay : {p q : Got ℕ} → Gots (Like s t) p q → Keeps (to p s S) (to q t T)
  stay g a b = record { gots = g; sets = l }

  -- ---- checks

  -- one that both pass or neither
  check_kept : (n : ℕ) (b b' : Bool) (cs ds : List Check) (D E : State) → b ≡ b'
      → (b ≡ false → b' ≡ false → Keeps (unless cs (halt s S) D) (unless ds (halt t T) E))
      → Keeps (unless (given n b ∷ cs) (halt s S) D) (unless (given n b' ∷ ds) (halt t T) E)
  unfolding unless
  check_kept n true true cs ds D E e h = stay (refusals n)
  check_kept n true false cs ds D E e h = absurd (false≢true (sym e))
  check_kept n false true cs ds D E e h = absurd (false≢true e)
  check_kept n false false cs ds D E e h = h refl refl

  -- that of room, last
  room_kept : (b b' : Bool) (D E : State) → Room 6 D → Room 6 E → Alike D E → Keeps (unless (given 6 b ∷ []) (halt s S) D) (unless (given 6 b' ∷ []) (halt t T) E)
  unfolding unless
  room_kept true true D E x y h f g = stay (refusals 6) f g
  room_kept true false D E x y h f g = absurd (f.1 y refl)
  room_kept false true D E x y h f g = absurd (f.0 x refl)
  room_kept false false D E x y h f g = h

  -- a lack of room is none of work
  no_room : (u : Store) (U : Set) (b : Bool) (D : State) → Room 12 D → Room 12 (unless (given 6 b ∷ []) (halt u U) D)
  unfolding unless
  no_room u U true D x e = never (let q : ◌≡◌ {A = Got ℕ} (refused 6) (refused 12) = e in let k : ◌≡◌ {A = ℕ} 6 12 = cc in absurd (omega arith))
  no_room u U false D x e = x e

  -- those of work and room
  worked_kept : (a a' b b' : Bool) (D E : State) → Room 6 D → Room 6 E → Room 12 D → Room 12 E → Alike D E
      → Keeps (unless (given 12 a ∷ given 6 b ∷ []) (halt s S) D) (unless (given 12 a' ∷ given 6 b' ∷ []) (halt t T) E)
  unfolding unless
  worked_kept true true b b' D E x y i j h f g = stay (refusals 12) f g
  worked_kept true false b b' D E x y i j h f g = absurd (g.1 (no_room t T b' E j) refl)
  worked_kept false true b b' D E x y i j h f g = absurd (g.0 (no_room s S b D i) refl)
  worked_kept false false b b' D E x y i j h f g = room_kept b b' D E x y h f g

  -- ---- one set of stacks, made in both stores

  module _ (x y : ℕ × Store) (F G : Forest) (e : F ≡ G) (m : Makes s x F) (k : Makes t y G) where
    made_alike : Like x.1 y.1 x.0 y.0
    made_alike = record { left = m.holds.known; right = k.holds.known; same = m.holds.is ∙ e ∙ sym k.holds.is }

    still : (c d : ℕ) → Like s t c d → Like x.1 y.1 c d
    still = like_grew s t x.1 y.1 m.grew k.grew

    made_kept : Keeps (unless (given 6 (not (fits x.1)) ∷ []) (halt s S) (to (context x.0) x.1 S)) (unless (given 6 (not (fits y.1)) ∷ []) (halt t T) (to (context y.0) y.1 T))
    made_kept =
        room_kept _ _ _ _ (λ q. never (cc)) (λ q. never (cc)) (record { gots = contexts made_alike; sets = sets_wider (Like s t) _ still l })

    -- with work, which the two stores need not share
    worked_made : (a a' : Bool)
        → Keeps (unless (given 12 a ∷ given 6 (not (fits x.1)) ∷ []) (halt s S) (to (context x.0) x.1 S))
        (unless (given 12 a' ∷ given 6 (not (fits y.1)) ∷ []) (halt t T) (to (context y.0) y.1 T))
    worked_made a a' =
        worked_kept a a' _ _ _ _ (λ q. never (cc)) (λ q. never (cc)) (λ q. never (cc)) (λ q. never (cc))
        (record { gots = contexts made_alike; sets = sets_wider (Like s t) _ still l })

  -- ---- the calls

  singleton_kept : (r c d : ℕ) → Like s t c d → Keeps (singleton_to s S r c) (singleton_to t T r d)
  singleton_kept r c d h =
      check_kept 5 _ _ _ _ _ _ refl
      (λ ok ok'. made_kept (single_s s c r) (single_s t d r) _ _ (ap (single_t r) h.same) (single_makes s w.store r c h.left ok) (single_makes t v.store r d h.right ok'))

  -- the merges of alike sides are of one set
  merge_same : (m : Bool) (a b a' b' : ℕ) → Like s t a a' → Like s t b b' → merge_t m (tree s a) (tree s b) ≡ merge_t m (tree t a') (tree t b')
  merge_same m a b a' b' h k = rw (h.same, k.same)

  merge_kept : (m : Bool) (a b a' b' : ℕ) → Like s t a a' → Like s t b b' → Keeps (merge_to s S m a b) (merge_to t T m a' b')
  merge_kept m a b a' b' h k =
      worked_made (merge_s m s a b) (merge_s m t a' b') _ _ (merge_same m a b a' b' h k)
      (merge_makes s w.store m a b h.left k.left) (merge_makes t v.store m a' b' h.right k.right) _ _

  nodes : (c d : ℕ) → Like s t c d → Nodes (Like s t) (node_at s c) (node_at t d)
  nodes c d h =
      let f = w.store.sound in
      let g = v.store.sound in
      nodes_alike s t (node_at s c) (node_at t d) 0 0 (node_rise s f c h.left) (node_rise t g d h.right)
      (sym (tree_node s f c h.left) ∙ h.same ∙ tree_node t g d h.right)

  zeros : Like s t 0 0 → (c d : ℕ) → Like s t c d → eqb c 0 ≡ eqb d 0
  zeros z c d h =
      let f = like_one s t w.store.sound v.store.sound c 0 d 0 h z in
      two c 0 (λ e. eq-eqb c 0 e ∙ sym (eq-eqb d 0 (f.0 e))) (λ n. ne_eqb c 0 n ∙ sym (ne_eqb d 0 (λ e. n (f.1 e))))

  parent_of_lem : Like s t 0 0 → (i c d : ℕ) → Like s t c d → Gots (Like s t) (told (parent_of s c i)) (told (parent_of t d i))
  unfolding told
  parent_of_lem z i c d h = go (eqb c 0) (eqb d 0) (zeros z c d h)
    where
      go : (b b' : Bool) → b ≡ b' → Gots (Like s t) (told (elim b [ true ↦ Stores.none | false ↦ parent_at (node_at s c) i ]))
          (told (elim b' [ true ↦ Stores.none | false ↦ parent_at (node_at t d) i ]))
      go true true e = plains (of_store Stores.none)
      go true false e = absurd (false≢true (sym e))
      go false true e = absurd (false≢true e)
      go false false e = parent_alike (Like s t) i z (nodes c d h)

-- ---- the calls on a set

module _ (s t : Store) (S : Set) {ys : List Config} (w : Good s S) (v : Good t (with_configs S ys)) (l : Each (Twin (Like s t)) S.configs ys) where
  abbrev T : Set
  T = with_configs S ys

  added_kept : (x : Config) (e : ℕ) → Like s t x.context e → {o p : Found} → Founds (Like s t) o p → held x S.configs ≡ o → held (moved x e) ys ≡ p
      → (let A = add_to s S x in let B = add_to t T (moved x e) in
      Keeps (unless (too_much_work (add_work s S x) ∷ given 6 (not (fits A.store)) ∷ []) (halt s S) (to (plain (of_set (SetCalls.added A.answer))) A.store A.set))
      (unless (too_much_work (add_work t T (moved x e)) ∷ given 6 (not (fits B.store)) ∷ []) (halt t T) (to (plain (of_set (SetCalls.added B.answer))) B.store B.set)))
  added_kept x e h (both {c} {d} r) f g =
      let m = not S.full in
      let here = merge_makes s w.store m c x.context r.left h.left in
      let there = merge_makes t v.store m d e r.right h.right in
      let same = merge_same s t w v (set S l) m c x.context d e r h in
      let X = merge_s m s c x.context in
      let Y = merge_s m t d e in
      rw (add_joined s S x c f, add_joined t T (moved x e) d g)
      (worked_kept s t w v (set S l) _ _ (not (fits X.1)) (not (fits Y.1)) _ _ (λ q. never (cc)) (λ q. never (cc)) (λ q. never (cc)) (λ q. never (cc))
      (record {
        gots = plains (of_set (SetCalls.added 0));
        sets = set (with_configs S (joined_all x X.0 S.configs))
            (join_alike _ x e _ _ (made_alike s t w v (set S l) X Y _ _ same here there) (configs_wider (Like s t) _ (still s t w v (set S l) X Y _ _ same here there) l));
      }))
  added_kept x e h neither f g =
      rw (add_new s S x f, add_new t T (moved x e) g)
      (worked_kept s t w v (set S l) _ _ (not (fits s)) (not (fits t)) _ _ (λ q. never (cc)) (λ q. never (cc)) (λ q. never (cc)) (λ q. never (cc))
      (record {
        gots = plains (of_set (SetCalls.added 1));
        sets = set (with_configs S (S.configs ++ (x ∷ []))) (each_append (Twin (Like s t)) l (more (twin x e h) Renamed.none));
      }))

  add_kept : (x : Config) (e : ℕ) → Like s t x.context e → Keeps (addition_to s S x) (addition_to t T (moved x e))
  add_kept x e h =
      let known : not (ltb x.context (length s)) ≡ not (ltb e (length t)) = ap not (lt-ltb x.context (length s) h.left ∙ sym (lt-ltb e (length t) h.right)) in
      check_kept s t w v (set S l) 7 S.closed S.closed _ _ _ _ refl (λ o p.
      check_kept s t w v (set S l) 4 _ _ _ _ _ _ known (λ o p.
      check_kept s t w v (set S l) 8 _ _ _ _ _ _ (full_alike (Like s t) x e l) (λ o p.
      added_kept x e h (held_alike (Like s t) x e l) refl refl)))

  one : OneToOne (Like s t)
  one = like_one s t w.store.sound v.store.sound

  subsets_kept : Keeps (to (groups (map part_of (Grouped.groups S.configs))) s S) (to (groups (map part_of (Grouped.groups ys))) t T)
  subsets_kept = stay s t w v (set S l) (grouped (parts_alike (Like s t) (twin_groups (Like s t) one l)))

  -- an answer that is the same on both sides
  answer_kept : {A : Type 0} (f : A → Got ℕ) → ((a : A) → Gots (Like s t) (f a) (f a)) → (a b : A) → a ≡ b → Keeps (to (f a) s S) (to (f b) t T)
  answer_kept f g a b e = rw (← e) (stay s t w v (set S l) (g a))

  alts_kept : Keeps (to (plain (words (alts_words S.configs))) s S) (to (plain (words (alts_words ys))) t T)
  unfolding alts_words
  alts_kept = answer_kept (λ (xs : List ℕ). plain (words (padded alts_length (length xs ∷ xs)))) (λ xs. plains _) _ _ (twin_conflicting (Like s t) one l)

  unique_kept : Keeps (to (plain (of_subsets (Verdicts.alternative (Answers.unique_alt S.configs)))) s S) (to (plain (of_subsets (Verdicts.alternative (Answers.unique_alt ys)))) t T)
  unique_kept = answer_kept (λ (a : Answers.Answer). plain (of_subsets (Verdicts.alternative a))) (λ a. plains _) _ _ (twin_unique (Like s t) one l)

  viable_kept : Keeps (to (plain (of_subsets (Verdicts.alternative (Answers.single_viable_alt S.configs)))) s S) (to (plain (of_subsets (Verdicts.alternative (Answers.single_viable_alt ys)))) t T)
  viable_kept = answer_kept (λ (a : Answers.Answer). plain (of_subsets (Verdicts.alternative a))) (λ a. plains _) _ _ (twin_viable (Like s t) one l)

  says_kept : (a b : Bool) → a ≡ b → Keeps (to (plain (of_subsets (Verdicts.says a))) s S) (to (plain (of_subsets (Verdicts.says b))) t T)
  says_kept a b e = answer_kept (λ (c : Bool). plain (of_subsets (Verdicts.says c))) (λ c. plains _) a b e

  conflict_kept : Keeps (to (plain (of_subsets (Verdicts.says (Answers.all_subsets_conflict S.configs)))) s S) (to (plain (of_subsets (Verdicts.says (Answers.all_subsets_conflict ys)))) t T)
  conflict_kept = says_kept _ _ (twin_conflict (Like s t) one l)

  equal_kept : Keeps (to (plain (of_subsets (Verdicts.says (Answers.all_subsets_equal S.configs)))) s S) (to (plain (of_subsets (Verdicts.says (Answers.all_subsets_equal ys)))) t T)
  equal_kept = says_kept _ _ (twin_equal (Like s t) one l)

  verdict_kept : (stops : List ℕ) → Keeps (verdict_to s S stops) (verdict_to t T stops)
  unfolding unless
  verdict_kept stops = check_kept s t w v (set S l) 10 (ltb most_stops (length stops)) (ltb most_stops (length stops)) [] []
      (to (plain (of_subsets (Verdicts.says (Answers.verdict stops S.configs)))) s S) (to (plain (of_subsets (Verdicts.says (Answers.verdict stops ys)))) t T) refl
      (λ o p. says_kept _ _ (twin_verdict (Like s t) one l stops))

  why_kept : (stops : List ℕ) → Keeps (why_to s S stops) (why_to t T stops)
  unfolding unless
  why_kept stops = check_kept s t w v (set S l) 10 (ltb most_stops (length stops)) (ltb most_stops (length stops)) [] []
      (to (reasoned (reason stops S.configs)) s S) (to (reasoned (reason stops ys)) t T) refl
      (λ o p. stay s t w v (set S l) (reason_alike (Like s t) (twin_reason (Like s t) one l stops)))

-- ---- a reader in two stores

-- its set and what it may name
pub record Own : Type 0 where
  pub set : Set
  pub names : List ℕ

pub record Both (s t : Store) (P Q : Own) : Type 0 where
  pub left : Good s P.set
  pub right : Good t Q.set
  pub zeros : Like s t 0 0
  pub names : Each (Like s t) P.names Q.names
  pub sets : Sets (Like s t) P.set Q.set

abbrev pub after : Store → Own → Call → State
after s P x = state_after s P.set P.names x

module _ (s t : Store) (P Q : Own) (h : Both s t P Q) where
  named_alike : (n : Name) → Like s t (get_or P.names n 0) (get_or Q.names n 0)
  named_alike n = Names.named_alike (Like s t) n h.zeros h.names

  told_same : (a b : Stores.Reply) → a ≡ b → Gots (Like s t) (told a) (told a) → Gots (Like s t) (told a) (told b)
  told_same a b e g = rw (← e) g

  query_alike : (q : Question) (c d : ℕ) → Like s t c d → Gots (Like s t) (told (answer_to q s c)) (told (answer_to q t d))
  unfolding told
  query_alike entry_count c d k = told_same _ _ (ap Stores.count (size_alike (Like s t) (nodes s t h.left h.right h.sets c d k))) (plains _)
  query_alike is_empty c d k = told_same _ _ (ap (λ (F : Forest). Stores.holds (is_mark F)) k.same) (plains _)
  query_alike has_empty_path c d k = told_same _ _ (ap (λ (F : Forest). Stores.holds (mem F [])) k.same) (plains _)
  query_alike (entry_state i) c d k = state_alike (Like s t) i (nodes s t h.left h.right h.sets c d k)
  query_alike (entry_parent i) c d k = parent_of_lem s t h.left h.right h.sets h.zeros i c d k

  -- a call on the set
  owning : (f g : Set → State) → ((S : Set) (ys : List Config) → Good s S → Good t (with_configs S ys) → Each (Twin (Like s t)) S.configs ys → Keeps (f S) (g (with_configs S ys)))
      → Keeps (f P.set) (g Q.set)
  owning f g k = go h.sets h.left h.right
    where
      go : {S T : Set} → Sets (Like s t) S T → Good s S → Good t T → Keeps (f S) (g T)
      go (set S {ys} l) w v = k S ys w v l

  -- Each call, if it lacks room in both stores or in neither, answers and leaves what is alike.
  pub step_kept : (x : Call) → Keeps (after s P x) (after t Q x)
  unfolding state_after told
  step_kept (singleton n r) = singleton_kept s t h.left h.right h.sets r _ _ (named_alike n)
  step_kept (merge n k m) = merge_kept s t h.left h.right h.sets m _ _ _ _ (named_alike n) (named_alike k)
  step_kept (query q n) = stay s t h.left h.right h.sets (query_alike q _ _ (named_alike n))
  step_kept (fresh_set f) = λ a b. record { gots = plains _; sets = set (empty_set f) Renamed.none }
  step_kept (add q a n m r p) =
      owning (λ S. addition_to s S (config q a (get_or P.names n 0) m r p)) (λ T. addition_to t T (config q a (get_or Q.names n 0) m r p))
      (λ S ys w v l. add_kept s t S w v l (config q a (get_or P.names n 0) m r p) (get_or Q.names n 0) (named_alike n))
  step_kept close =
      owning (λ S. to (plain (of_set SetCalls.done)) s (closed_set S)) (λ T. to (plain (of_set SetCalls.done)) t (closed_set T))
      (λ S ys w v l a b. record { gots = plains _; sets = set (closed_set S) l })
  step_kept subsets = owning _ (λ T. to (groups (map part_of (Grouped.groups T.configs))) t T) (λ S ys w v l. subsets_kept s t S w v l)
  step_kept conflicting_alts = owning _ (λ T. to (plain (words (alts_words T.configs))) t T) (λ S ys w v l. alts_kept s t S w v l)
  step_kept unique_alt = owning _ (λ T. to (plain (of_subsets (Verdicts.alternative (Answers.unique_alt T.configs)))) t T) (λ S ys w v l. unique_kept s t S w v l)
  step_kept single_viable_alt = owning _ (λ T. to (plain (of_subsets (Verdicts.alternative (Answers.single_viable_alt T.configs)))) t T) (λ S ys w v l. viable_kept s t S w v l)
  step_kept all_subsets_conflict = owning _ (λ T. to (plain (of_subsets (Verdicts.says (Answers.all_subsets_conflict T.configs)))) t T) (λ S ys w v l. conflict_kept s t S w v l)
  step_kept all_subsets_equal = owning _ (λ T. to (plain (of_subsets (Verdicts.says (Answers.all_subsets_equal T.configs)))) t T) (λ S ys w v l. equal_kept s t S w v l)
  step_kept (verdict stops) = owning (λ S. verdict_to s S stops) (λ T. verdict_to t T stops) (λ S ys w v l. verdict_kept s t S w v l stops)
  step_kept (why stops) = owning (λ S. why_to s S stops) (λ T. why_to t T stops) (λ S ys w v l. why_kept s t S w v l stops)
