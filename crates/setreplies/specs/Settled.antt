-- A new set, a config more, a set closed: what is laid out and left, from what the parts leave. Nothing here has to be believed.
use Rattle.std.specs.Prelude.{◌≡◌, Bool, List, [], ◌∷◌, ◌++◌, ℕ, Result, Ok, Err}
use Rattle.std.proofs.Math.Path.{refl}
use Rattle.words.specs.Refusals.{number}
use Rattle.words.specs.declared.refusals.Refusal.{Refusal}
use Rattle.lines.specs.Calls.{SetLeft, set_left, fresh_set_call}
use Rattle.contexts.specs.declared.merges.Tally.{Tally}
use Rattle.configs.specs.Replies.{settled, added_left}
use Rattle.configs.specs.declared.adding.Added.{Added}
use Rattle.configs.specs.declared.adding.Added.TheVariants.{Inserted, Merged}
use Rattle.lines.specs.Laid.{Wrote}
use Rattle.lines.specs.Lines.{spaced_all, number_line, numbers_line, refusal_line, added_line, closed_line, new_set_line}
use Rattle.lines.specs.Spread.{line_none, line_two}
use Rattle.replies.specs.Replies.{Lent, lent, wiped, set_line_of, on_set, new_set_call}
use Rattle.replies.specs.Replies.Laws.{Answered}

-- a call on the set, which leaves x; `done` prints e
pub record SetReplied (b e : List ℕ) (x : SetLeft) (r : ℕ) (u w v z : List ℕ) : Type 0 where
  pub wrote : Wrote b 0 (set_line_of e x.made x.reply) r u
  pub store : w ≡ x.store
  pub set : v ≡ x.set
  pub scratch : z ≡ x.scratch

pub on_set_lem : (b e : List ℕ) (x : SetLeft) (r : ℕ) (u w v t z : List ℕ) (l : Lent) → SetReplied b e x r u w v z → t ≡ l.stops
    → Answered b (on_set l e x) r u (lent w v t z)
on_set_lem b e x r u w v t z l p g = record { wrote = p.wrote; words = rw (p.store, p.set, p.scratch, g) }

-- ---- a new set: the store, w, is not lent

pub record Renewed (b v z : List ℕ) (full : Bool) (r : ℕ) (u v' z' : List ℕ) : Type 0 where
  pub over : (w : List ℕ) → SetReplied b new_set_line (new_set_call w v z full) r u w v' z'

module _ (b : List ℕ) (r : ℕ) (u v v' z : List ℕ) (full : Bool) where
  pub new_done : (settled (Ok tt), v') ≡ fresh_set_call v full → (z' : List ℕ) → z' ≡ wiped z → Wrote b 0 (78 ∷ spaced_all [] ++ 10 ∷ []) r u → Renewed b v z full r u v' z'
  unfolding new_set_call set_line_of new_set_line
  new_done g z' y p = record { over = λ w. rw (← g) (record { wrote = rw (line_none 78) at p; store = refl; set = refl; scratch = y }) }

  pub new_refused : (f : Refusal) → (settled (Err f), v') ≡ fresh_set_call v full → Wrote b 0 (refusal_line (number f)) r u → Renewed b v z full r u v' z
  unfolding new_set_call set_line_of
  new_refused f g p = record { over = λ w. rw (← g) (record { wrote = p; store = refl; set = refl; scratch = refl }) }

-- ---- a config more

module _ (b : List ℕ) (x : SetLeft) (r : ℕ) (u w v z : List ℕ) where
  pub inserted_call : added_left (Ok Inserted) w v z ≡ x → Wrote b 0 (65 ∷ spaced_all (1 ∷ 0 ∷ []) ++ 10 ∷ []) r u → SetReplied b [] x r u w v z
  unfolding set_line_of added_line
  inserted_call e p = rw (← e) (record { wrote = rw (line_two 65 1 0) at p; store = refl; set = refl; scratch = refl })

  pub merged_call : (k : Tally) → added_left (Ok (Merged k)) w v z ≡ x → Wrote b 0 (65 ∷ spaced_all (0 ∷ k.made ∷ []) ++ 10 ∷ []) r u → SetReplied b [] x r u w v z
  unfolding set_line_of added_line
  merged_call k e p = rw (← e) (record { wrote = rw (line_two 65 0 k.made) at p; store = refl; set = refl; scratch = refl })

  pub not_added_call : (f : Refusal) → added_left (Err f) w v z ≡ x → Wrote b 0 (refusal_line (number f)) r u → SetReplied b [] x r u w v z
  unfolding set_line_of
  not_added_call f e p = rw (← e) (record { wrote = p; store = refl; set = refl; scratch = refl })

-- the line of the answer
abbrev pub added_line_of : Result Added Refusal → List ℕ
added_line_of a = let x = added_left a [] [] [] in set_line_of [] x.made x.reply

pub added_call : (b : List ℕ) (x : SetLeft) (a : Result Added Refusal) (r : ℕ) (u w v z : List ℕ) → added_left a w v z ≡ x
    → Wrote b 0 (added_line_of a) r u → SetReplied b [] x r u w v z
added_call b x (Ok Inserted) r u w v z e p = rw (← e) (record { wrote = p; store = refl; set = refl; scratch = refl })
added_call b x (Ok (Merged k)) r u w v z e p = rw (← e) (record { wrote = p; store = refl; set = refl; scratch = refl })
added_call b x (Err f) r u w v z e p = rw (← e) (record { wrote = p; store = refl; set = refl; scratch = refl })

module _ (b : List ℕ) (j : ℕ) (u : List ℕ) (a : Result Added Refusal) where
  pub inserted_line : a ≡ Ok Inserted → Wrote b 0 (numbers_line 65 1 0) j u → Wrote b 0 (added_line_of a) j u
  unfolding set_line_of added_line
  inserted_line e v = rw e v

  pub merged_line : (k : Tally) → a ≡ Ok (Merged k) → Wrote b 0 (numbers_line 65 0 k.made) j u → Wrote b 0 (added_line_of a) j u
  unfolding set_line_of added_line
  merged_line k e v = rw e v

  pub not_added_line : (f : Refusal) (n : ℕ) → a ≡ Err f → n ≡ number f → Wrote b 0 (number_line 82 n) j u → Wrote b 0 (added_line_of a) j u
  unfolding set_line_of refusal_line
  not_added_line f n e q v = rw e (rw q at v)

-- ---- a set closed

module _ (b : List ℕ) (x : SetLeft) (r : ℕ) (u w v z : List ℕ) where
  pub closed_done : set_left (settled (Ok tt)) w v z ≡ x → Wrote b 0 (75 ∷ spaced_all [] ++ 10 ∷ []) r u → SetReplied b closed_line x r u w v z
  unfolding set_line_of closed_line
  closed_done g p = rw (← g) (record { wrote = rw (line_none 75) at p; store = refl; set = refl; scratch = refl })

  pub closed_refused : (f : Refusal) → set_left (settled (Err f)) w v z ≡ x → Wrote b 0 (refusal_line (number f)) r u → SetReplied b closed_line x r u w v z
  unfolding set_line_of
  closed_refused f g p = rw (← g) (record { wrote = p; store = refl; set = refl; scratch = refl })
