-- Laws of placing: what is there makes nothing; only appends; keeps soundness; the number stands for the set. Nothing here has to be believed.
use Rattle.std.specs.Prelude.{◌≡◌, [], ◌∷◌, ◌++◌, ℕ, suc, ◌<◌, ◌≤◌, length}
use Rattle.std.proofs.Math.Path.{refl}
use Rattle.std.proofs.Common.{sym, ap, ◌∙◌, subst, append_assoc, arith, length-append}
use Rattle.stacks.specs.Forest.{Forest, none, mark, over}
use Rattle.stacks.specs.Canon.{Some, From, Canon}
use Rattle.arena.specs.Store.{Node, end, dollar, push, Store, tree_of, tree, node_at, at, nowhere, find}
use Rattle.arena.proofs.Soundness.{Rise, Full, Sound}
use Rattle.arena.proofs.Trees.{node_sound, node_rise, nodes_differ, find?, find_at, find_none, tree_new, tree_old, tree_node, tree_of_agree}
use Rattle.arena.specs.Place.{listed, intern, place_e, place}

-- ---- interning a list that has an entry

pub listed_full : (n : Node) → Full n → listed n ≡ n
unfolding listed
listed_full end h = absurd h
listed_full dollar h = refl
listed_full (push r p n) h = refl

module _ (n : Node) (s : Store) (h : Full n) where
  pub intern_found : (c : ℕ) → find n s ≡ at c → intern s n ≡ (c, s)
  unfolding intern
  intern_found c e = rw (listed_full n h, e, intern)

  pub intern_made : find n s ≡ nowhere → intern s n ≡ (length s, n ∷ s)
  unfolding intern
  intern_made e = rw (listed_full n h, e, intern, listed_full n h)

-- ---- what is there makes nothing

module _ (s : Store) (w : Sound s) where
  pub intern_self : (c : ℕ) → c < length s → intern s (node_at s c) ≡ (c, s)
  intern_self c h =
      find? (node_at s c) s
      (λ d e. let k : (d < length s) × (node_at s d ≡ node_at s c) = find_at _ s d e in
      let q : d ≡ c = nodes_differ s w d c k.0 h k.1 in
      intern_found _ s (node_sound s w c h).1 d e ∙ (cc))
      (λ e. absurd (find_none _ s e c h refl))

  pub place_e_there : (F : Forest) (n : Node) (lo : ℕ) → Rise lo (length s) n → tree_of (tree s) n ≡ F → place_e s F ≡ (n, s)
  unfolding place_e tree_of
  place_e_there none end lo v e = refl
  place_e_there none dollar lo v e = cc
  place_e_there none (push q p k) lo v e = cc
  place_e_there mark end lo v e = cc
  place_e_there mark dollar lo v e = refl
  place_e_there mark (push q p k) lo v e = cc
  place_e_there (over r b t) end lo v e = cc
  place_e_there (over r b t) dollar lo v e = cc
  place_e_there (over r b t) (push q p k) lo v e =
      let states : q ≡ r = cc in
      let beneath : tree s p ≡ b = cc in
      let rests : tree_of (tree s) k ≡ t = cc in
      let hb : place_e s b ≡ (node_at s p, s) = place_e_there b (node_at s p) 0 (node_rise s w p v.1) (sym (tree_node s w p v.1) ∙ beneath) in
      let ht : place_e s t ≡ (k, s) = place_e_there t k (suc q) v.2 rests in
      rw (hb, intern_self p v.1, ht, states)

  -- placing a set that a context stands for finds that context and makes nothing
  pub place_there : (c : ℕ) (F : Forest) → c < length s → tree s c ≡ F → place s F ≡ (c, s)
  unfolding place
  place_there c F h e = rw (place_e_there F (node_at s c) 0 (node_rise s w c h) (sym (tree_node s w c h) ∙ e)) (intern_self c h)

  -- a state over a context: one entry to intern
  pub place_single : (r p : ℕ) → p < length s → place s (over r (tree s p) none) ≡ intern s (push r p end)
  unfolding place place_e
  place_single r p h =
      let hp : place_e s (tree s p) ≡ (node_at s p, s) = place_e_there (tree s p) (node_at s p) 0 (node_rise s w p h) (sym (tree_node s w p h)) in
      rw (hp, intern_self p h)

-- ---- the store only grows, and older contexts keep their meaning

abbrev pub Grew : Store → Store → Type 0
Grew s u = (k : Store) × (u ≡ k ++ s)

pub grew_refl : (s : Store) → Grew s s
grew_refl s = ([], refl)

pub grew_trans : (s t u : Store) → Grew s t → Grew t u → Grew s u
grew_trans s t u f g = (g.0 ++ f.0, g.1 ∙ ap (λ (x : Store). g.0 ++ x) f.1 ∙ sym (append_assoc g.0 f.0 s))

pub grew_length : (s u : Store) → Grew s u → length s ≤ length u
grew_length s u g = omega (arith, simp length-append at (ap length g.1))

tree_more : (k s : Store) (c : ℕ) → c < length s → tree (k ++ s) c ≡ tree s c
tree_more [] s c h = refl
tree_more (n ∷ k) s c h = tree_old n (k ++ s) c (omega (arith, length-append k s)) ∙ tree_more k s c h

pub grew_tree : (s u : Store) → Grew s u → (c : ℕ) → c < length s → tree u c ≡ tree s c
grew_tree s u g c h = rw g.1 (tree_more g.0 s c h)

pub grew_node : (s u : Store) → Grew s u → (lo : ℕ) (n : Node) → Rise lo (length s) n → tree_of (tree u) n ≡ tree_of (tree s) n
grew_node s u g lo n v = tree_of_agree _ _ lo (length s) n v (grew_tree s u g)

pub intern_grew : (s : Store) (n : Node) → Grew s (intern s n).1
unfolding intern
intern_grew s n =
    find? (listed n) s (λ c e. rw (e, intern) (grew_refl s)) (λ e. rw (e, intern) (listed n ∷ [], refl))

-- one context at most is made of entries
pub intern_one : (s : Store) (n : Node) → length (intern s n).1 ≤ suc (length s)
unfolding intern
intern_one s n = find? (listed n) s (λ c e. rw (e, intern) (omega arith)) (λ e. rw (e, intern) (omega arith))

pub place_e_grew : (s : Store) (F : Forest) → Grew s (place_e s F).1
unfolding place_e
place_e_grew s none = grew_refl s
place_e_grew s mark = grew_refl s
place_e_grew s (over r b t) =
    let B = place_e s b in
    let P = intern B.1 B.0 in
    grew_trans s P.1 _ (grew_trans s B.1 P.1 (place_e_grew s b) (intern_grew B.1 B.0)) (place_e_grew P.1 t)

pub place_grew : (s : Store) (F : Forest) → Grew s (place s F).1
unfolding place
place_grew s F = grew_trans s (place_e s F).1 _ (place_e_grew s F) (intern_grew _ _)

-- ---- the store stays sound, and the number stands for the set

-- the store is sound, and its context c stands for F
pub record Holds (s : Store) (c : ℕ) (F : Forest) : Type 0 where
  pub sound : Sound s
  pub known : c < length s
  pub is : tree s c ≡ F

-- the store is sound, and the entries n over it stand for F, whose top states rise from lo on
pub record HoldsE (lo : ℕ) (s : Store) (n : Node) (F : Forest) : Type 0 where
  pub sound : Sound s
  pub rise : Rise lo (length s) n
  pub is : tree_of (tree s) n ≡ F

pub full_of : (f : ℕ → Forest) (n : Node) (F : Forest) → tree_of f n ≡ F → Some F → Full n
unfolding tree_of
full_of f end F e h = subst Some (sym e) h
full_of f dollar F e h = tt
full_of f (push r p n) F e h = tt

pub intern_holds : (s : Store) (n : Node) (F : Forest) → HoldsE 0 s n F → Some F → Holds (intern s n).1 (intern s n).0 F
intern_holds s n F w h =
    let full : Full n = full_of (tree s) n F w.is h in
    find? n s
    (λ c e.
    let k : (c < length s) × (node_at s c ≡ n) = find_at n s c e in
    rw (intern_found n s full c e) (record { sound = w.sound; known = k.0; is = tree_node s w.sound c k.0 ∙ rw k.1 w.is }))
    (λ e. rw (intern_made n s full e)
    (record { sound = (w.rise, full, e, w.sound); known = omega arith; is = tree_new n s (length s) refl ∙ w.is }))

pub place_e_holds : (lo : ℕ) (s : Store) (F : Forest) → Sound s → From lo F → HoldsE lo (place_e s F).1 (place_e s F).0 F
unfolding place_e tree_of
place_e_holds lo s none w v = record { sound = w; rise = tt; is = refl }
place_e_holds lo s mark w v = record { sound = w; rise = tt; is = refl }
place_e_holds lo s (over r b t) w v =
    let B = place_e s b in
    let P = intern B.1 B.0 in
    let hp : Holds P.1 P.0 b = intern_holds B.1 B.0 b (place_e_holds 0 s b w v.2) v.1 in
    let ht : HoldsE (suc r) (place_e P.1 t).1 (place_e P.1 t).0 t = place_e_holds (suc r) P.1 t hp.sound v.3 in
    let g = place_e_grew P.1 t in
    record {
      sound = ht.sound;
      rise = (v.0, omega (arith, grew_length _ _ g), ht.rise);
      is = rw (grew_tree _ _ g P.0 hp.known, hp.is, ht.is);
    }

pub place_holds : (s : Store) (F : Forest) → Sound s → Canon F → Some F → Holds (place s F).1 (place s F).0 F
unfolding place
place_holds s F w v h = intern_holds _ _ F (place_e_holds 0 s F w v) h
