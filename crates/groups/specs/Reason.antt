-- To believe: why the verdict is what it is (request A6).
use Rattle.std.specs.Prelude.{◌≡◌, ◌⊎◌, Bool, true, false, List, [], ◌∷◌, ℕ}
use Rattle.sets.specs.Config.{Config}
use Rattle.groups.specs.Groups.{Group, groups}
use Rattle.groups.specs.Answers.{many, stopped, just_one}
use Rattle.groups.specs.Sentences.{Many, Stopped, Conflict, JustOne}

-- a state and its one alternative; state, context and alternatives of a subset
pub data Reason : Type 0 where
  stop : Reason
  none : Reason
  one : ℕ → ℕ → Reason
  clash : ℕ → ℕ → List ℕ → Reason

-- what f says of the first element that passes the test; x if none does
unfoldable pub pick : {A X : Type 0} → (A → Bool) → List A → (A → X) → X → X
pick t [] f x = x
pick t (a ∷ xs) f x = elim (t a) [ true ↦ f a | false ↦ pick t xs f x ]

-- "The reasons are tried in that order."
unfoldable pub reason : List ℕ → List Config → Reason
reason stops cs = elim (stopped stops cs) [
  | true ↦ stop
  | false ↦ pick many (groups cs)
      (λ (g : Group). pick (just_one cs) cs (λ (c : Config). one c.state c.alternative) (clash g.state g.context g.alternatives))
      none
]

-- ---- what a reason says of the set

-- a is the first of the elements that is a P
abbrev pub FirstOf : {A : Type 0} → (A → Type 0) → A → List A → Type 0
FirstOf P a [] = ⊥
FirstOf P a (x ∷ xs) = (P x × (x ≡ a)) ⊎ ((P x → ⊥) × FirstOf P a xs)

abbrev pub Holds : List ℕ → List Config → Reason → Type 0
-- "every config has stopped"
Holds stops cs stop = Stopped stops cs
-- "no subset holds two alternatives"
Holds stops cs none = Conflict cs → ⊥
-- "state s has only alternative a, the first such state in set order"
Holds stops cs (one s a) = (c : Config) × FirstOf (JustOne cs) c cs × (c.state ≡ s) × (c.alternative ≡ a)
-- "a clash, with state, context and alternatives of the first subset that holds two or more"
Holds stops cs (clash s k xs) = FirstOf Many (record { state = s; context = k; alternatives = xs }) (groups cs)

abbrev pub NoEarlier : List ℕ → List Config → Reason → Type 0
NoEarlier stops cs stop = Unit {0}
NoEarlier stops cs none = Holds stops cs stop → ⊥
NoEarlier stops cs (one s a) = (Holds stops cs stop → ⊥) × (Holds stops cs none → ⊥)
NoEarlier stops cs (clash s k xs) = (Holds stops cs stop → ⊥) × (Holds stops cs none → ⊥) × ((t a : ℕ) → Holds stops cs (one t a) → ⊥)

-- the verdict that goes with a reason
unfoldable pub says : Reason → Bool
says stop = true
says none = false
says (one s a) = false
says (clash s k xs) = true
