-- The numbering rule holds of every set that is placed, and leaves no choice. Nothing here has to be believed.
use Rattle.std.specs.Prelude.{◌≡◌, refl, Bool, List, [], ◌∷◌, ◌++◌, ℕ, suc, ◌<◌, length}
use Rattle.std.proofs.Common.{sym, ap, ◌∙◌, arith, ne_eqb}
use Rattle.stacks.specs.Numbers.{two}
use Rattle.stacks.specs.Forest.{Forest, none, mark, over}
use Rattle.stacks.specs.Canon.{Some, From, Canon}
use Rattle.stacks.specs.Merge.{merge_t}
use Rattle.stacks.proofs.Algebra.{canon_merge, some_merge}
use Rattle.arena.specs.Store.{Node, Store, tree, node_at, nowhere, find}
use Rattle.arena.proofs.Soundness.{Full, Sound}
use Rattle.arena.proofs.Trees.{find?, find_at, find_none, node_rise, tree_new, tree_node, tree_canon, tree_inj, tree_of_inj}
use Rattle.arena.specs.Place.{intern, place_e, place, merge_s}
use Rattle.arena.proofs.Placed.{HoldsE, intern_found, intern_made, intern_holds, place_e_holds, full_of}
use Rattle.arena.specs.Numbering.{inner, parts, Standing, Joins, done, there, next}

-- ---- a list of entries takes the next number unless a context stands for its set

intern_joins : (s : Store) (n : Node) (F : Forest) → HoldsE 0 s n F → Some F → Joins s (F ∷ []) (intern s n).1
intern_joins s n F w h =
    let full : Full n = full_of (tree s) n F w.is h in
    find? n s
    (λ c e. let k = find_at n s c e in
    let stands : tree s c ≡ F = tree_node s w.sound c k.0 ∙ rw k.1 w.is in
    rw (intern_found n s full c e) (there (c, k.0, stands) done))
    (λ e. rw (intern_made n s full e) (next n (missing e) (tree_new n s (length s) refl ∙ w.is) done))
  where
    missing : find n s ≡ nowhere → Standing s F → ⊥
    missing e r =
        find_none n s e r.0 r.1
        (tree_of_inj (tree s) 0 0 (length s) (node_at s r.0) n (node_rise s w.sound r.0 r.1) w.rise
        (tree_inj s w.sound) (sym (tree_node s w.sound r.0 r.1) ∙ r.2 ∙ sym w.is))

joins_on : {s u v : Store} {a b : List Forest} → Joins s a u → Joins u b v → Joins s (a ++ b) v
joins_on done q = q
joins_on (there h p) q = there h (joins_on p q)
joins_on (next n h e p) q = next n h e (joins_on p q)

place_e_joins : (lo : ℕ) (s : Store) (F : Forest) → Sound s → From lo F → Joins s (inner F) (place_e s F).1
unfolding place_e inner
place_e_joins lo s none w v = done
place_e_joins lo s mark w v = done
place_e_joins lo s (over r b t) w v =
    let B = place_e s b in
    let P = intern B.1 B.0 in
    let hb : HoldsE 0 B.1 B.0 b = place_e_holds 0 s b w v.2 in
    let rest = place_e_joins (suc r) P.1 t (intern_holds B.1 B.0 b hb v.1).sound v.3 in
    joins_on (place_e_joins 0 s b w v.2) (joins_on (intern_joins B.1 B.0 b hb v.1) rest)

-- The numbering rule, of any set that is placed: its parts, in the order in which they are complete, take the next numbers.
pub place_numbers : (s : Store) (F : Forest) → Sound s → Canon F → Some F → Joins s (parts F) (place s F).1
unfolding place parts
place_numbers s F w v h =
    let B = place_e s F in
    joins_on (place_e_joins 0 s F w v) (intern_joins B.1 B.0 F (place_e_holds 0 s F w v) h)

-- The numbering rule, of a merge of either mode.
pub merge_numbers : (m : Bool) (s : Store) → Sound s → (a b : ℕ) → a < length s → b < length s
    → Joins s (parts (merge_t m (tree s a) (tree s b))) (merge_s m s a b).1
unfolding merge_s
merge_numbers m s w a b h k =
    let u = tree_canon s w a h in
    place_numbers s _ w (canon_merge m _ _ u.1 (tree_canon s w b k).1) (some_merge m _ (tree s b) u.0)

-- ---- the rule leaves no choice: number by number the same sets

pub record SameSets (s t : Store) : Type 0 where
  pub count : length s ≡ length t
  pub each : (c : ℕ) → tree s c ≡ tree t c

same_standing : {s t : Store} {F : Forest} → SameSets s t → Standing s F → Standing t F
same_standing h r = (r.0, omega (arith, h.count, r.1), sym (h.each r.0) ∙ r.2)

same_back : {s t : Store} → SameSets s t → SameSets t s
same_back h = record { count = sym h.count; each = λ c. sym (h.each c) }

same_next : (s t : Store) (n m : Node) → SameSets s t → tree (n ∷ s) (length s) ≡ tree (m ∷ t) (length t) → SameSets (n ∷ s) (m ∷ t)
unfolding tree
same_next s t n m h e = record {
  count = ap suc h.count;
  each = λ c. two c (length s)
      (λ q. rw q (e ∙ ap (tree (m ∷ t)) (sym h.count)))
      (λ d. rw (ne_eqb c (length s) d, tree, ne_eqb c (length t) (λ q. d (q ∙ sym h.count)), tree) (h.each c));
}

pub joins_determined : {s t u v : Store} {Fs : List Forest} → SameSets s t → Joins s Fs u → Joins t Fs v → SameSets u v
joins_determined h done done = h
joins_determined h (there r p) (there k q) = joins_determined h p q
joins_determined h (there r p) (next n k e q) = absurd (k (same_standing h r))
joins_determined h (next n r d p) (there k q) = absurd (r (same_standing (same_back h) k))
joins_determined {s = s} {t = t} h (next n r d p) (next m k e q) = joins_determined (same_next s t n m h (d ∙ sym e)) p q
