-- One config more has marked; and what all marks together say. Nothing here has to be believed.
use Rattle.std.specs.Prelude.{◌≡◌, refl, ◌⊎◌, Bool, ◌&&◌, not, List, ℕ, suc, ◌<◌, ◌≤◌, ◌+◌, eqb, length, get_or, set}
use Rattle.std.proofs.Common.{sym, ap, ◌∙◌, subst, inl, inr, ⊎_elim, arith, add-one, length-set, get_or-set_same, get_or-set_other, eq-eqb, ne_eqb}
use Rattle.std.proofs.Math.Bool.{true, false}
use Rattle.std.proofs.lemmas.Bool.{eqb-false, not-true}
use Rattle.words.specs.Lent.{cleared_range}
use Rattle.words.specs.Lent.Laws.{length_cleared_range, cleared_range_before, cleared_range_inside}
use Rattle.words.specs.Numbers.{two}
use Rattle.encoding.specs.Layout.{scratch_words}
use Rattle.groups.specs.Config.{Config}
use Rattle.groups.specs.Layout.{most_configs, config_at, config_count}
use Rattle.groups.specs.SetsLists.{any}
use Rattle.words.specs.Bools.{never_both, is_false, both_true, and_left, and_right}
use Rattle.groups.specs.Words.{configs_in}
use Rattle.groups.specs.Listed.{any_at, at_any}
use Rattle.grouping.specs.Alike.{alike_of, alike_at}
use Rattle.grouping.specs.Leads.{leads_one}
use Rattle.grouping.specs.Led.{leaders_at, marks_at, marks_end, Led}
use Rattle.grouping.specs.Led.Laws.{kin}
use Rattle.grouping.specs.Marks.{picks, leader_at, mark_at, marked_if, Markable, Marked}
use Rattle.grouping.specs.declared.inner.traits.Alike.{Alike}
use Rattle.grouping.specs.declared.inner.marks.Picks.{Picks}
use Rattle.grouping.specs.declared.inner.marks.Picks.TheVariants.{Rivals, Holders}

pub markable : {v : List ℕ} {k : Alike} {z : List ℕ} → Led v k (config_count v) z → Markable v z
markable x = record { words = x.words; early = λ i h. (x.leads i h).early }

-- ---- marking

-- the marks cleared: what stands before them stays
module _ (v : List ℕ) (z : List ℕ) (m : Markable v z) (y : List ℕ) (e : y ≡ cleared_range z marks_at marks_end) where
  pub cleared_length : length y ≡ scratch_words
  cleared_length = ap length e ∙ length_cleared_range z marks_at marks_end (omega arith) (omega (arith, m.words.lent)) ∙ m.words.lent

  cleared_same : (j : ℕ) → j < marks_at → get_or y j 0 ≡ get_or z j 0
  cleared_same j h = ap (λ (l : List ℕ). get_or l j 0) e ∙ cleared_range_before z marks_at marks_end (omega arith) (omega (arith, m.words.lent)) j h

  cleared_leader : (i : ℕ) → i < config_count v → leader_at y i ≡ leader_at z i
  cleared_leader i h = cleared_same (leaders_at + i) (omega (arith, m.words.few))

  pub cleared_markable : Markable v y
  cleared_markable = record {
    words = record { sized = m.words.sized; few = m.words.few; lent = cleared_length };
    early = λ i h. rw (cleared_leader i h) (m.early i h);
  }

  pub marked_none : (p : Picks) → Marked v p 0 y y
  marked_none p = record {
    lent = cleared_length;
    same = λ j h. refl;
    hit = λ i h. absurd (omega arith);
    only = λ l h. inl (ap (λ (l' : List ℕ). get_or l' (marks_at + l) 0) e
        ∙ cleared_range_inside z marks_at marks_end (omega arith) (omega (arith, m.words.lent)) (marks_at + l) (omega arith) (omega (arith, m.words.few)));
  }

  -- marked since then
  pub marked_since : (p : Picks) (u : List ℕ) → Marked v p (config_count v) y u → Marked v p (config_count v) z u
  marked_since p u x = record {
    lent = x.lent;
    same = λ j h. x.same j h ∙ cleared_same j h;
    hit = λ i h. rw (cleared_leader i h) at (x.hit i h);
    only = λ l h. ⊎_elim inl (λ r. inr (r.0, r.1, sym (cleared_leader r.0 r.1) ∙ r.2, r.3)) (x.only l h);
  }

module _ (v : List ℕ) (p : Picks) (n : ℕ) (z u : List ℕ) (m : Markable v z) (x : Marked v p n z u) (h : n < config_count v) where
  -- the first one of config n, before and now
  pub leader_same : leader_at u n ≡ leader_at z n
  leader_same = x.same (leaders_at + n) (omega (arith, m.words.few))

  pub leader_few : leader_at u n < most_configs
  leader_few = omega (arith, leader_same, m.early n h, m.words.few)

  abbrev l : ℕ
  l = leader_at z n

  abbrev Pick : ℕ → ℕ → Type 0
  Pick a i = picks p (config_at v a) (config_at v i) ≡ true

  small : l < config_count v
  small = omega (arith, m.early n h)

  set_mark : mark_at (set u (marks_at + l) 1) l ≡ 1
  set_mark = get_or-set_same u (marks_at + l) 1 0 (omega (arith, x.lent, m.words.few, small))

  other_mark : (a : ℕ) → (a ≡ l → ⊥) → mark_at (set u (marks_at + l) 1) a ≡ mark_at u a
  other_mark a d = get_or-set_other u (marks_at + l) (marks_at + a) 1 0 (omega arith)

  mark_yes : Pick l n → Marked v p (n + 1) z (set u (marks_at + l) 1)
  mark_yes y = rw (add-one n) (record {
    lent = simp length-set x.lent;
    same = λ j s. get_or-set_other u (marks_at + l) j 1 0 (omega arith) ∙ x.same j s;
    hit = λ i s q. two (leader_at z i) l (λ e. rw e set_mark) (λ d. other_mark (leader_at z i) d ∙ x.hit i (earlier i s d) q);
    only = λ a s. two a l
        (λ e. inr (n, omega arith, sym e, rw e y))
        (λ d. ⊎_elim (λ q. inl (other_mark a d ∙ q)) (λ q. inr (q.0, omega (arith, q.1), q.2, q.3)) (x.only a s));
  })
    where
      earlier : (i : ℕ) → i < suc n → (leader_at z i ≡ l → ⊥) → i < n
      earlier i s d = two i n (λ e. absurd (d (ap (leader_at z) e))) (λ e. omega arith)

  mark_no : (Pick l n → ⊥) → Marked v p (n + 1) z u
  mark_no y = rw (add-one n) (record {
    lent = x.lent;
    same = x.same;
    hit = λ i s q. two i n (λ e. absurd (y (rw e at q))) (λ d. x.hit i (omega arith) q);
    only = λ a s. ⊎_elim inl (λ q. inr (q.0, omega (arith, q.1), q.2, q.3)) (x.only a s);
  })

  -- what the code does with config n
  pub marked_next : (b : Bool) → b ≡ picks p (config_at v (leader_at u n)) (config_at v n) → (y : List ℕ) → y ≡ marked_if b u (leader_at u n) → Marked v p (n + 1) z y
  unfolding marked_if
  marked_next true e y d = rw (d, leader_same) (mark_yes (sym (rw leader_same at e)))
  marked_next false e y d = rw d (mark_no (λ q. never_both q (sym (rw leader_same at e))))

pub marked_able : {v : List ℕ} {p : Picks} {z u : List ℕ} → Markable v z → Marked v p (config_count v) z u → Markable v u
marked_able m x = record {
  words = record { sized = m.words.sized; few = m.words.few; lent = x.lent };
  early = λ i h. rw (x.same (leaders_at + i) (omega (arith, m.words.few))) (m.early i h);
}

-- ---- what the marks say

-- a pick of the first one is a pick of every config alike to it, or the first one is
passed_on : (p : Picks) (c l d : Config) → picks p l d ≡ true → (picks p c d ≡ true) ⊎ (picks p c l ≡ true)
passed_on Rivals c l d e =
    two c.alternative l.alternative
    (λ q. inl (rw q e))
    (λ q. inr (rw (ne_eqb l.alternative c.alternative (λ r. q (sym r)))))
passed_on (Holders a) c l d e = inl e

-- and back
passed_back : (p : Picks) (c l d : Config) → picks p c d ≡ true → (picks p l d ≡ true) ⊎ (picks p l c ≡ true)
passed_back Rivals c l d e =
    two d.alternative l.alternative
    (λ q. inr (rw (ne_eqb c.alternative l.alternative (λ r. eqb-false d.alternative c.alternative (not-true _ e) (q ∙ sym r)))))
    (λ q. inl (rw (ne_eqb d.alternative l.alternative q)))
passed_back (Holders a) c l d e = inl e

module _ {v : List ℕ} {k : Alike} {p : Picks} {z u : List ℕ} (x : Led v k (config_count v) z) (w : Marked v p (config_count v) z u) where
  abbrev n : ℕ
  n = config_count v

  abbrev cs : List Config
  cs = configs_in v n

  -- config i has one alike that is picked
  abbrev Served : ℕ → Bool
  Served i = any (λ d. alike_of k (config_at v i) d && picks p (config_at v i) d) cs

  serve : (i j : ℕ) → j < n → alike_at v k i j ≡ true → picks p (config_at v i) (config_at v j) ≡ true → Served i ≡ true
  serve i j h a q = at_any (λ d. alike_of k (config_at v i) d && picks p (config_at v i) d) v n j h (both_true _ _ a q)

  same_leader : (i : ℕ) → i < n → leader_at u i ≡ leader_at z i
  same_leader i h = w.same (leaders_at + i) (omega (arith, x.words.few))

  served : (i : ℕ) → i < n → (mark_at u (leader_at z i) ≡ 0 → ⊥) → Served i ≡ true
  served i h m =
      let K = kin v k in
      let l : ℕ = leader_at z i in
      let few : l < n = omega (arith, (x.leads i h).early) in
      let up : alike_at v k i l ≡ true = K.swap l i (x.leads i h).same in
      ⊎_elim (λ e. absurd (m e))
      (λ r. ⊎_elim
      (λ q. serve i r.0 r.1 (K.next i l r.0 up (rw r.2 at (x.leads r.0 r.1).same)) q)
      (λ q. serve i l few up q)
      (passed_on p (config_at v i) (config_at v l) (config_at v r.0) r.3))
      (w.only l few)

  unserved : (i : ℕ) → i < n → mark_at u (leader_at z i) ≡ 0 → Served i ≡ false
  unserved i h e =
      let l : ℕ = leader_at z i in
      is_false (Served i) (λ s.
      let r = any_at (λ d. alike_of k (config_at v i) d && picks p (config_at v i) d) v n s in
      let one : l ≡ leader_at z r.0 = leads_one (alike_at v k) (kin v k) i r.0 l (leader_at z r.0) (and_left _ _ r.2) (x.leads i h) (x.leads r.0 r.1) in
      ⊎_elim
      (λ q. omega (arith, e, w.hit r.0 r.1 (subst (λ (a : ℕ). picks p (config_at v a) (config_at v r.0) ≡ true) one q), ap (mark_at u) one))
      (λ q. omega (arith, e, w.hit i h q))
      (passed_back p (config_at v i) (config_at v l) (config_at v r.0) (and_right (alike_at v k i r.0) _ r.2)))

  -- the mark of its first one tells whether config i has one alike that is picked
  pub mark_tells : (i : ℕ) → i < n → not (eqb (mark_at u (leader_at u i)) 0) ≡ any (λ d. alike_of k (config_at v i) d && picks p (config_at v i) d) cs
  mark_tells i h =
      let e = ap (mark_at u) (same_leader i h) in
      two (mark_at u (leader_at u i)) 0
      (λ q. rw (eq-eqb (mark_at u (leader_at u i)) 0 q) (sym (unserved i h (sym e ∙ q))))
      (λ q. rw (ne_eqb (mark_at u (leader_at u i)) 0 q) (sym (served i h (λ d. q (e ∙ d)))))

-- ---- as the code has it

-- the first m configs have marked
pub record Marking (v : List ℕ) (p : Picks) (m : ℕ) (z u : List ℕ) : Type 0 where
  pub within : m ≤ config_count v
  pub able : Markable v z
  pub marked : Marked v p m z u

pub marking_begin : (v z : List ℕ) → Markable v z → (y : List ℕ) → y ≡ cleared_range z marks_at marks_end → (p : Picks) → Marking v p 0 y y
marking_begin v z m y e p = record { within = omega arith; able = cleared_markable v z m y e; marked = marked_none v z m y e p }

pub marking_few : {v : List ℕ} {p : Picks} {m : ℕ} {z u : List ℕ} → Marking v p m z u → m < config_count v → leader_at u m < most_configs
marking_few {v} {p} {m} {z} {u} g h = leader_few v p m z u g.able g.marked h

pub marking_next : {v : List ℕ} {p : Picks} {m : ℕ} {z u : List ℕ} → Marking v p m z u → m < config_count v
    → (b : Bool) → b ≡ picks p (config_at v (leader_at u m)) (config_at v m) → (y : List ℕ) → y ≡ marked_if b u (leader_at u m) → Marking v p (m + 1) z y
marking_next {v} {p} {m} {z} {u} g h b e y d = record { within = omega arith; able = g.able; marked = marked_next v p m z u g.able g.marked h b e y d }

pub marking_end : (v z : List ℕ) → Markable v z → (y : List ℕ) → y ≡ cleared_range z marks_at marks_end → (p : Picks) (m : ℕ) (u : List ℕ)
    → Marking v p m y u → config_count v ≤ m → Marked v p (config_count v) z u
marking_end v z a y e p m u g h = let q : m ≡ config_count v = omega (arith, g.within) in marked_since v z a y e p u (rw q at g.marked)
