-- Two outcomes of a call on a set that satisfy its contract for the same input are equal: the answers, case and value, and every word.
-- Nothing here has to be believed.
use Rattle.std.specs.Prelude.{◌≡◌, refl, Bool, List, [], ℕ, Result, Ok, Err}
use Rattle.std.proofs.Common.{sym, ap, ◌∙◌}
use Rattle.words.specs.Refusals.{number}
use Rattle.words.specs.declared.refusals.Refusal.{Refusal}
use Rattle.store.specs.Calls.Laws.{determined}
use Rattle.store.specs.Calls.{refused as notMade}
use Rattle.store.proofs.Told.{number_tells}
use Rattle.contexts.specs.declared.merges.Tally.{Tally}
use Rattle.sets.specs.Config.{Config}
use Rattle.sets.specs.Calls.{SetReply, refused, SetLeft, set_left, set_left_after, fresh_set_call, add_call, close_call}
use Rattle.configs.specs.Replies.{settled, added_left}
use Rattle.configs.specs.declared.adding.Added.{Added}
use Rattle.configs.specs.declared.adding.Added.TheVariants.{Inserted, Merged}

-- ---- a reply tells the answer

refusal_tells : (f g : Refusal) → refused (number f) ≡ refused (number g) → f ≡ g
refusal_tells f g e = let n : number f ≡ number g = cc in number_tells f g (ap notMade n)

settled_tells : (a b : Result Unit Refusal) → settled a ≡ settled b → a ≡ b
settled_tells (Ok _) (Ok _) e = refl
settled_tells (Ok _) (Err g) e = cc
settled_tells (Err f) (Ok _) e = cc
settled_tells (Err f) (Err g) e = ap Err (refusal_tells f g e)

-- 1 for inserted, 0 for merged, or a refusal
replied : Result Added Refusal → SetReply
replied a = (added_left a [] [] []).reply

counted : Result Added Refusal → Tally
counted a = record { merges = (added_left a [] [] []).merges; made = (added_left a [] [] []).made }

added_tells : (a b : Result Added Refusal) → replied a ≡ replied b → counted a ≡ counted b → a ≡ b
unfolding replied counted
added_tells (Ok Inserted) (Ok Inserted) e m = refl
added_tells (Ok Inserted) (Ok (Merged k)) e m = cc
added_tells (Ok Inserted) (Err g) e m = cc
added_tells (Ok (Merged n)) (Ok Inserted) e m = cc
added_tells (Ok (Merged n)) (Ok (Merged k)) e m = ap (λ (t : Tally). Ok (Merged t)) m
added_tells (Ok (Merged n)) (Err g) e m = cc
added_tells (Err f) (Ok Inserted) e m = cc
added_tells (Err f) (Ok (Merged k)) e m = cc
added_tells (Err f) (Err g) e m = ap Err (refusal_tells f g e)

-- the answer and the words that it was left with
added_is : (a : Result Added Refusal) (w v z : List ℕ) → added_left a w v z ≡ set_left_after (counted a).merges (counted a).made (replied a) w v z
unfolding replied counted
added_is (Ok Inserted) w v z = refl
added_is (Ok (Merged k)) w v z = refl
added_is (Err f) w v z = refl

-- ---- the calls

pub fresh_determined : (v : List ℕ) (f : Bool) (a b : Result Unit Refusal) (t u : List ℕ) → (settled a, t) ≡ fresh_set_call v f → (settled b, u) ≡ fresh_set_call v f → (a ≡ b) × (t ≡ u)
fresh_determined v f a b t u p q =
    let e : ◌≡◌ {A = SetReply × List ℕ} (settled a, t) (settled b, u) = p ∙ sym q in
    (settled_tells a b (ap (λ (x : SetReply × List ℕ). x.0) e), ap (λ (x : SetReply × List ℕ). x.1) e)

-- what two equal outcomes have alike
alike : (x y : SetLeft) → x ≡ y → (x.store ≡ y.store) × (x.set ≡ y.set) × (x.scratch ≡ y.scratch)
alike x y e = (ap (λ (o : SetLeft). o.store) e, ap (λ (o : SetLeft). o.set) e, ap (λ (o : SetLeft). o.scratch) e)

pub add_determined : (w v z : List ℕ) (x : Config) (a b : Result Added Refusal) (s s' t t' u u' : List ℕ)
    → added_left a s t u ≡ add_call w v z x → added_left b s' t' u' ≡ add_call w v z x → (a ≡ b) × (s ≡ s') × (t ≡ t') × (u ≡ u')
add_determined w v z x a b s s' t t' u u' p q =
    let e = sym (added_is a s t u) ∙ determined (added_left a s t u) (added_left b s' t' u') (add_call w v z x) p q ∙ added_is b s' t' u' in
    let o = alike _ _ e in
    (added_tells a b (ap (λ (o : SetLeft). o.reply) e) (ap (λ (o : SetLeft). record { merges = o.merges; made = o.made }) e), o.0, o.1, o.2)

pub close_determined : (w v z : List ℕ) (a b : Result Unit Refusal) (s s' t t' u u' : List ℕ)
    → set_left (settled a) s t u ≡ close_call w v z → set_left (settled b) s' t' u' ≡ close_call w v z → (a ≡ b) × (s ≡ s') × (t ≡ t') × (u ≡ u')
close_determined w v z a b s s' t t' u u' p q =
    let e = determined (set_left (settled a) s t u) (set_left (settled b) s' t' u') (close_call w v z) p q in
    let o = alike (set_left (settled a) s t u) (set_left (settled b) s' t' u') e in
    (settled_tells a b (ap (λ (o : SetLeft). o.reply) e), o.0, o.1, o.2)
