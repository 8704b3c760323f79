-- The reason given is true of the set, no earlier reason held, and the two together force the verdict; they leave no choice.
-- Nothing here has to be believed.
use Rattle.std.specs.Prelude.{◌≡◌, ◌↔◌, Bool, ◌&&◌, not, ℕ}
use Rattle.std.proofs.Math.Path.{refl, subst}
use Rattle.std.proofs.Common.{sym, ap, ap₂, ◌∙◌, ⊎_elim}
use Rattle.std.proofs.Math.Logic.{inl, inr}
use Rattle.std.proofs.Math.Bool.{true, false}
use Rattle.std.proofs.lemmas.Bool.{false≢true}
use mathlib.Core.List.{List, [], ◌∷◌}
use Rattle.sets.specs.Bools.{bool?, is_false, never_both}
use Rattle.sets.specs.Config.{Config}
use Rattle.sets.specs.Lists.{any}
use Rattle.groups.specs.Lists.{All, In}
use Rattle.groups.specs.Lists.Laws.{some_in, in_some, every_in}
use Rattle.groups.specs.Lists.Tests.{or_true, any_exact}
use Rattle.groups.specs.Groups.{Group, groups}
use Rattle.groups.specs.Answers.{many, stopped, just_one, verdict}
use Rattle.groups.specs.Sentences.{Many, Stopped, Conflict, JustOne}
use Rattle.groups.proofs.Conflicts.{many_exact, conflict_groups, any_many}
use Rattle.groups.proofs.Decided.{stopped_exact, just_exact}
use Rattle.groups.specs.Reason.{Reason, stop, none, one, clash, pick, reason, FirstOf, Holds, NoEarlier, says}

-- ---- the first of a list

module _ {A : Type 0} where
  pub first_unique : (P : A → Type 0) (xs : List A) (a b : A) → FirstOf P a xs → FirstOf P b xs → a ≡ b
  first_unique P (x ∷ xs) a b (inl p) (inl q) = sym p.1 ∙ q.1
  first_unique P (x ∷ xs) a b (inl p) (inr q) = absurd (q.0 p.0)
  first_unique P (x ∷ xs) a b (inr p) (inl q) = absurd (p.0 q.0)
  first_unique P (x ∷ xs) a b (inr p) (inr q) = first_unique P xs a b p.1 q.1
  first_unique P [] a b x'' _ = elim x'' [ ]

  pub first_some : (P : A → Type 0) (xs : List A) (a : A) → FirstOf P a xs → In a xs × P a
  first_some P (x ∷ xs) a (inl p) = (inl p.1, subst P p.1 p.0)
  first_some P (x ∷ xs) a (inr p) = let r = first_some P xs a p.1 in (inr r.0, r.1)
  first_some P [] a x' = elim x' [ ]

  any_first : (t : A → Bool) (P : A → Type 0) (xs : List A) → ((a : A) → (t a ≡ true) ↔ P a) → any t xs ≡ true → (a : A) × FirstOf P a xs
  unfolding any
  any_first t P [] d e = absurd (false≢true e)
  any_first t P (x ∷ xs) d e =
      bool? (t x)
      (λ h. (x, inl ((d x).0 h, refl)))
      (λ h.
      let f = any_first t P xs d (⊎_elim (λ k. never_both k h) (λ k. k) (or_true (t x) (any t xs) e)) in
      (f.0, inr (λ p. never_both ((d x).1 p) h, f.1)))

  module _ {X : Type 0} (t : A → Bool) (f : A → X) (x : X) where
    pub pick_yes : (a : A) (xs : List A) → t a ≡ true → pick t (a ∷ xs) f x ≡ f a
    unfolding pick
    pick_yes a xs e = rw (e, pick)

    pub pick_no : (a : A) (xs : List A) → t a ≡ false → pick t (a ∷ xs) f x ≡ pick t xs f x
    unfolding pick
    pick_no a xs e = rw (e, pick)

    -- the first that passes is picked, or none passes; the test decides P
    by_pick : (P : A → Type 0) (Q : X → Type 0) (xs : List A) → ((a : A) → (t a ≡ true) ↔ P a)
        → ((a : A) → FirstOf P a xs → Q (f a)) → (All (λ a. P a → ⊥) xs → Q x) → Q (pick t xs f x)
    unfolding pick
    by_pick P Q [] d g h = h tt
    by_pick P Q (a ∷ xs) d g h =
        bool? (t a)
        (λ e. subst Q (sym (pick_yes a xs e)) (g a (inl ((d a).0 e, refl))))
        (λ e.
        let n : P a → ⊥ = λ p. never_both ((d a).1 p) e in
        subst Q (sym (pick_no a xs e)) (by_pick P Q xs d (λ b k. g b (inr (n, k))) (λ v. h (n, v))))

-- ---- the definition by cases

-- what is said where a subset has two or more alternatives, g the first
unfoldable pub past : List Config → Group → Reason
past cs g = pick (just_one cs) cs (λ (c : Config). one c.state c.alternative) (clash g.state g.context g.alternatives)

module _ (stops : List ℕ) (cs : List Config) where
  pub reason_stop : stopped stops cs ≡ true → reason stops cs ≡ stop
  unfolding reason
  reason_stop e = rw (e, reason)

  pub reason_go : stopped stops cs ≡ false → reason stops cs ≡ pick many (groups cs) (past cs) none
  unfolding reason past
  reason_go e = rw (e, reason)

  -- ---- both at once, for each reason

  abbrev Right : Reason → Type 0
  Right r = Holds stops cs r × NoEarlier stops cs r

  no_lone : All (λ c. JustOne cs c → ⊥) cs → (s a : ℕ) → Holds stops cs (one s a) → ⊥
  no_lone v s a h = let r = first_some (JustOne cs) cs h.0 h.1 in every_in (λ c. JustOne cs c → ⊥) cs v h.0 r.0 r.1

  right : Right (reason stops cs)
  unfolding past
  right =
      bool? (stopped stops cs)
      (λ e. subst Right (sym (reason_stop e)) ((stopped_exact stops cs).0 e, tt))
      (λ e.
      let go : Stopped stops cs → ⊥ = λ v. never_both ((stopped_exact stops cs).1 v) e in
      subst Right (sym (reason_go e))
      (by_pick many (past cs) none Many Right (groups cs) many_exact
      (λ g k.
      let c : Conflict cs = (conflict_groups cs).0 (let r = first_some Many (groups cs) g k in in_some Many (groups cs) g r.0 r.1) in
      by_pick (just_one cs) (λ (c : Config). one c.state c.alternative) (clash g.state g.context g.alternatives) (JustOne cs) Right cs
      (just_exact cs)
      (λ d l. ((d, l, refl, refl), (go, λ n. n c)))
      (λ v. (k, (go, λ n. n c, no_lone v))))
      (λ v. (λ c. let s = some_in Many (groups cs) ((conflict_groups cs).1 c) in every_in (λ g. Many g → ⊥) (groups cs) v s.0 s.1 s.2, go))))

  -- The reason given is true of the set.
  pub reason_holds : Holds stops cs (reason stops cs)
  reason_holds = right.0

  -- No earlier reason held.
  pub reason_first : NoEarlier stops cs (reason stops cs)
  reason_first = right.1

  -- ---- what forces what

  -- some state has just one alternative: then there is a first such
  some_lone : any (just_one cs) cs ≡ true → (s a : ℕ) × Holds stops cs (one s a)
  some_lone e = let f = any_first (just_one cs) (JustOne cs) cs (just_exact cs) e in (f.0.state, f.0.alternative, (f.0, f.1, refl, refl))

  module _ (go : stopped stops cs ≡ false) where
    verdict_go : verdict stops cs ≡ (any many (groups cs) && not (any (just_one cs) cs))
    unfolding verdict
    verdict_go = rw go

    verdict_none : any many (groups cs) ≡ false → verdict stops cs ≡ false
    verdict_none e = verdict_go ∙ rw e

    verdict_many : any many (groups cs) ≡ true → (b : Bool) → any (just_one cs) cs ≡ b → verdict stops cs ≡ not b
    verdict_many e b d = verdict_go ∙ rw (e, d)

  not_stopped : (Holds stops cs stop → ⊥) → stopped stops cs ≡ false
  not_stopped n = is_false (stopped stops cs) (λ e. n ((stopped_exact stops cs).0 e))

  some_many : (Holds stops cs none → ⊥) → any many (groups cs) ≡ true
  some_many n = bool? (any many (groups cs)) (λ e. e) (λ e. absurd (n (λ c. never_both ((any_many cs).1 c) e)))

  -- The two together force the verdict.
  pub reason_forces : (r : Reason) → Holds stops cs r → NoEarlier stops cs r → verdict stops cs ≡ says r
  unfolding verdict says
  reason_forces stop h n = rw ((stopped_exact stops cs).1 h)
  reason_forces none h n = verdict_none (not_stopped n) (is_false (any many (groups cs)) (λ e. h ((any_many cs).0 e)))
  reason_forces (one s a) h n =
      let r = first_some (JustOne cs) cs h.0 h.1 in
      verdict_many (not_stopped n.0) (some_many n.1) true
      ((any_exact (just_one cs) (JustOne cs) cs (just_exact cs)).1 (in_some (JustOne cs) cs h.0 r.0 r.1))
  reason_forces (clash s k xs) h n =
      verdict_many (not_stopped n.0) (some_many n.1) false (is_false (any (just_one cs) cs) (λ e. let l = some_lone e in n.2 l.0 l.1 l.2))

  -- They leave no choice: two reasons that are true, and before which none held, are one.
  pub reason_unique : (r q : Reason) → Holds stops cs r → NoEarlier stops cs r → Holds stops cs q → NoEarlier stops cs q → r ≡ q
  reason_unique stop stop h n k m = refl
  reason_unique stop none h n k m = absurd (m h)
  reason_unique stop (one s a) h n k m = absurd (m.0 h)
  reason_unique stop (clash s c xs) h n k m = absurd (m.0 h)
  reason_unique none stop h n k m = absurd (n k)
  reason_unique none none h n k m = refl
  reason_unique none (one s a) h n k m = absurd (m.1 h)
  reason_unique none (clash s c xs) h n k m = absurd (m.1 h)
  reason_unique (one s a) stop h n k m = absurd (n.0 k)
  reason_unique (one s a) none h n k m = absurd (n.1 k)
  reason_unique (one s a) (one t b) h n k m =
      let e = first_unique (JustOne cs) cs h.0 k.0 h.1 k.1 in
      ap₂ one (sym h.2 ∙ ap (λ (c : Config). c.state) e ∙ k.2) (sym h.3 ∙ ap (λ (c : Config). c.alternative) e ∙ k.3)
  reason_unique (one s a) (clash t c xs) h n k m = absurd (m.2 s a h)
  reason_unique (clash s c xs) stop h n k m = absurd (n.0 k)
  reason_unique (clash s c xs) none h n k m = absurd (n.1 k)
  reason_unique (clash s c xs) (one t b) h n k m = absurd (n.2 t b k)
  reason_unique (clash s c xs) (clash t d ys) h n k m =
      let e = first_unique Many (groups cs) (record { state = s; context = c; alternatives = xs }) (record { state = t; context = d; alternatives = ys }) h k in
      ap (λ (g : Group). clash g.state g.context g.alternatives) e

  pub reason_is : (r : Reason) → Holds stops cs r → NoEarlier stops cs r → r ≡ reason stops cs
  reason_is r h n = reason_unique r (reason stops cs) h n reason_holds reason_first

  -- So the verdict is what the reason says.
  pub reason_verdict : verdict stops cs ≡ says (reason stops cs)
  reason_verdict = reason_forces (reason stops cs) reason_holds reason_first
