-- Records and the sets they stand for: appending keeps older ones, sets are canonical, and in a sound store equal sets have equal numbers.
-- Nothing here has to be believed.
use Rattle.std.specs.Prelude.{◌≡◌, refl, Bool, true, false, [], ◌∷◌, ℕ, suc, ◌<◌, ◌≤◌, eqb, length}
use Rattle.std.proofs.Common.{sym, ◌∙◌, arith, eq-eqb, ne_eqb, eqb-true}
use Rattle.std.proofs.lemmas.Bool.{false≢true}
use Rattle.stacks.specs.Numbers.{two}
use Rattle.stacks.specs.Forest.{Forest}
use Rattle.stacks.specs.Canon.{Some, From, Canon}
use Rattle.arena.specs.Store.{Node, end, dollar, push, Store, tree_of, tree, node_at, same, Found, at, nowhere, find}
use Rattle.arena.proofs.Soundness.{Rise, Full, Sound}
use Rattle.stacks.specs.Bools.{and_left, and_right}

-- ---- equal records

pub same_self : (n : Node) → same n n ≡ true
unfolding same
same_self end = refl
same_self dollar = refl
same_self (push r p n) = rw (eq-eqb r r refl, eq-eqb p p refl, same_self n)

pub same_true : (a b : Node) → same a b ≡ true → a ≡ b
unfolding same
same_true end end e = refl
same_true end dollar e = absurd (false≢true e)
same_true end (push s q k) e = absurd (false≢true e)
same_true dollar end e = absurd (false≢true e)
same_true dollar dollar e = refl
same_true dollar (push s q k) e = absurd (false≢true e)
same_true (push r p n) end e = absurd (false≢true e)
same_true (push r p n) dollar e = absurd (false≢true e)
same_true (push r p n) (push s q k) e =
    let states : r ≡ s = eqb-true r s (and_left _ _ e) in
    let parents : p ≡ q = eqb-true p q (and_left _ _ (and_right (eqb r s) _ e)) in
    let rests : n ≡ k = same_true n k (and_right (eqb p q) _ (and_right (eqb r s) _ e)) in
    cc

-- two records are equal or not
pub same? {ℓ} : {X : Type ℓ} (a b : Node) → (a ≡ b → X) → (same a b ≡ false → X) → X
same? {X = X} a b equal other = go (same a b) refl
  where
    go : (t : Bool) → same a b ≡ t → X
    go true e = equal (same_true a b e)
    go false e = other e

-- ---- the newest record, and the older ones

module _ (n : Node) (s : Store) (c : ℕ) where
  pub node_new : c ≡ length s → node_at (n ∷ s) c ≡ n
  unfolding node_at
  node_new h = rw (eq-eqb c (length s) h, node_at)

  pub node_old : c < length s → node_at (n ∷ s) c ≡ node_at s c
  unfolding node_at
  node_old h = rw (ne_eqb c (length s) (omega arith), node_at)

  pub tree_new : c ≡ length s → tree (n ∷ s) c ≡ tree_of (tree s) n
  unfolding tree
  tree_new h = rw (eq-eqb c (length s) h, tree)

  pub tree_old : c < length s → tree (n ∷ s) c ≡ tree s c
  unfolding tree
  tree_old h = rw (ne_eqb c (length s) (omega arith), tree)

-- ---- what `find` says

pub find_new : (n x : Node) (s : Store) → n ≡ x → find n (x ∷ s) ≡ at (length s)
unfolding find
find_new n x s e = rw (e, same_self x, find)

pub find_old : (n x : Node) (s : Store) → same n x ≡ false → find n (x ∷ s) ≡ find n s
unfolding find
find_old n x s e = rw (e, find)

pub at_inj : (a b : ℕ) → at a ≡ at b → a ≡ b
at_inj a b e = cc

pub at_nowhere : (a : ℕ) → at a ≡ nowhere → ⊥
at_nowhere a e = let z : ◌≡◌ {A = ℕ} 0 1 = cc in omega arith

pub find_none : (n : Node) (s : Store) → find n s ≡ nowhere → (c : ℕ) → c < length s → node_at s c ≡ n → ⊥
find_none n [] e c h k = omega arith
find_none n (x ∷ s) e c h k =
    same? n x
    (λ q. at_nowhere (length s) (sym (find_new n x s q) ∙ e))
    (λ q. two c (length s)
    (λ d. false≢true (sym q ∙ (rw (sym (node_new x s c d) ∙ k) (same_self n))))
    (λ d. find_none n s (sym (find_old n x s q) ∙ e) c (omega arith) (sym (node_old x s c (omega arith)) ∙ k)))

pub find_at : (n : Node) (s : Store) (c : ℕ) → find n s ≡ at c → (c < length s) × (node_at s c ≡ n)
unfolding find
find_at n [] c e = absurd (at_nowhere c (sym e))
find_at n (x ∷ s) c e =
    same? n x
    (λ q. let d : c ≡ length s = sym (at_inj _ _ (sym (find_new n x s q) ∙ e)) in (omega arith, node_new x s c d ∙ sym q))
    (λ q. let r : (c < length s) × (node_at s c ≡ n) = find_at n s c (sym (find_old n x s q) ∙ e) in (omega arith, node_old x s c r.0 ∙ r.1))

-- a record is somewhere in the store, or nowhere
pub find? {ℓ} : {X : Type ℓ} (n : Node) (s : Store) → ((c : ℕ) → find n s ≡ at c → X) → (find n s ≡ nowhere → X) → X
find? {X = X} n s found missing = go (find n s) refl
  where
    go : (o : Found) → find n s ≡ o → X
    go (at c) e = found c e
    go nowhere e = missing e

-- ---- a sound store's records

pub rise_le : (lo c d : ℕ) (n : Node) → c ≤ d → Rise lo c n → Rise lo d n
rise_le lo c d end h v = tt
rise_le lo c d dollar h v = tt
rise_le lo c d (push r p n) h v = (v.0, omega arith, rise_le (suc r) c d n h v.2)

pub node_sound : (s : Store) → Sound s → (c : ℕ) → c < length s → Rise 0 c (node_at s c) × Full (node_at s c)
node_sound [] w c h = absurd (omega arith)
node_sound (n ∷ s) w c h =
    two c (length s)
    (λ d. rw (node_new n s c d, d) (w.0, w.1))
    (λ d. rw (node_old n s c (omega arith)) (node_sound s w.3 c (omega arith)))

-- a record's states rise, and its parents are contexts of the store
pub node_rise : (s : Store) → Sound s → (c : ℕ) → c < length s → Rise 0 (length s) (node_at s c)
node_rise s w c h = rise_le 0 c (length s) (node_at s c) (omega arith) (node_sound s w c h).0

pub nodes_differ : (s : Store) → Sound s → (a b : ℕ) → a < length s → b < length s → node_at s a ≡ node_at s b → a ≡ b
nodes_differ [] w a b h k e = omega arith
nodes_differ (n ∷ s) w a b h k e =
    two a (length s)
    (λ i. two b (length s) (λ j. omega arith)
    (λ j. absurd (find_none n s w.2 b (omega arith) (sym (node_old n s b (omega arith)) ∙ sym e ∙ node_new n s a i))))
    (λ i. two b (length s)
    (λ j. absurd (find_none n s w.2 a (omega arith) (sym (node_old n s a (omega arith)) ∙ e ∙ node_new n s b j)))
    (λ j. nodes_differ s w.3 a b (omega arith) (omega arith) (sym (node_old n s a (omega arith)) ∙ e ∙ node_old n s b (omega arith))))

-- ---- a context's set is that of its record over the contexts of the same store

pub tree_of_agree : (f g : ℕ → Forest) (lo c : ℕ) (n : Node) → Rise lo c n → ((p : ℕ) → p < c → f p ≡ g p) → tree_of f n ≡ tree_of g n
unfolding tree_of
tree_of_agree f g lo c end v h = refl
tree_of_agree f g lo c dollar v h = refl
tree_of_agree f g lo c (push r p n) v h = rw (h p v.1, tree_of_agree f g (suc r) c n v.2 h)

pub tree_node : (s : Store) → Sound s → (c : ℕ) → c < length s → tree s c ≡ tree_of (tree s) (node_at s c)
tree_node [] w c h = absurd (omega arith)
tree_node (n ∷ s) w c h =
    two c (length s)
    (λ d. rw (tree_new n s c d, node_new n s c d) (tree_of_agree _ _ 0 (length s) n w.0 (λ p l. sym (tree_old n s p l))))
    (λ d. let l : c < length s = omega arith in
    rw (tree_old n s c l, node_old n s c l, tree_node s w.3 c l)
    (tree_of_agree _ _ 0 c (node_at s c) (node_sound s w.3 c l).0 (λ p k. sym (tree_old n s p (omega arith)))))

-- ---- the sets are in canonical form, with a stack in each

tree_of_from : (f : ℕ → Forest) (lo c : ℕ) (n : Node) → Rise lo c n → ((p : ℕ) → p < c → Some (f p) × Canon (f p)) → From lo (tree_of f n)
unfolding tree_of
tree_of_from f lo c end v h = tt
tree_of_from f lo c dollar v h = tt
tree_of_from f lo c (push r p n) v h = (v.0, (h p v.1).0, (h p v.1).1, tree_of_from f (suc r) c n v.2 h)

tree_of_some : (f : ℕ → Forest) (n : Node) → Full n → Some (tree_of f n)
unfolding tree_of
tree_of_some f end h = h
tree_of_some f dollar h = tt
tree_of_some f (push r p n) h = tt

pub tree_canon : (s : Store) → Sound s → (c : ℕ) → c < length s → Some (tree s c) × Canon (tree s c)
tree_canon [] w c h = absurd (omega arith)
tree_canon (n ∷ s) w c h =
    two c (length s)
    (λ d. rw (tree_new n s c d) (tree_of_some _ n w.1, tree_of_from _ 0 (length s) n w.0 (λ p l. tree_canon s w.3 p l)))
    (λ d. rw (tree_old n s c (omega arith)) (tree_canon s w.3 c (omega arith)))

-- ---- equal sets have equal numbers

pub tree_of_inj : (f : ℕ → Forest) (lo lo' c : ℕ) (a b : Node) → Rise lo c a → Rise lo' c b
    → ((p q : ℕ) → p < c → q < c → f p ≡ f q → p ≡ q) → tree_of f a ≡ tree_of f b → a ≡ b
unfolding tree_of
tree_of_inj f lo lo' c end end v w h e = refl
tree_of_inj f lo lo' c end dollar v w h e = cc
tree_of_inj f lo lo' c end (push s q k) v w h e = cc
tree_of_inj f lo lo' c dollar end v w h e = cc
tree_of_inj f lo lo' c dollar dollar v w h e = refl
tree_of_inj f lo lo' c dollar (push s q k) v w h e = cc
tree_of_inj f lo lo' c (push r p n) end v w h e = cc
tree_of_inj f lo lo' c (push r p n) dollar v w h e = cc
tree_of_inj f lo lo' c (push r p n) (push s q k) v w h e =
    let states : r ≡ s = cc in
    let parents : p ≡ q = h p q v.1 w.1 (cc) in
    let rests : n ≡ k = tree_of_inj f (suc r) (suc s) c n k v.2 w.2 h (cc) in
    cc

-- no older context stands for the set of a sound store's newest record
not_older : (n : Node) (s : Store) → Sound (n ∷ s) → ((p q : ℕ) → p < length s → q < length s → tree s p ≡ tree s q → p ≡ q)
    → (c : ℕ) → c < length s → tree_of (tree s) n ≡ tree s c → ⊥
not_older n s w inj c l q =
    find_none n s w.2 c l
    (sym (tree_of_inj (tree s) 0 0 (length s) n (node_at s c) w.0 (node_rise s w.3 c l) inj (q ∙ tree_node s w.3 c l)))

pub tree_inj : (s : Store) → Sound s → (a b : ℕ) → a < length s → b < length s → tree s a ≡ tree s b → a ≡ b
tree_inj [] w a b h k e = omega arith
tree_inj (n ∷ s) w a b h k e =
    two a (length s)
    (λ i. two b (length s) (λ j. omega arith)
    (λ j. absurd (not_older n s w (tree_inj s w.3) b (omega arith) (sym (tree_new n s a i) ∙ e ∙ tree_old n s b (omega arith)))))
    (λ i. two b (length s)
    (λ j. absurd (not_older n s w (tree_inj s w.3) a (omega arith) (sym (tree_new n s b j) ∙ sym e ∙ tree_old n s a (omega arith))))
    (λ j. tree_inj s w.3 a b (omega arith) (omega arith) (sym (tree_old n s a (omega arith)) ∙ e ∙ tree_old n s b (omega arith))))
