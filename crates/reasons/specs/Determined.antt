-- Two outcomes that satisfy the call's equation for the same input are equal: the answer, case and value, and every word.
-- Nothing here has to be believed.
use Rattle.std.specs.Prelude.{◌≡◌, refl, List, ℕ, Result, Ok, Err}
use Rattle.std.proofs.Common.{sym, ap, ap₂, ◌∙◌}
use Rattle.words.specs.Refusals.{number}
use Rattle.words.specs.declared.refusals.Refusal.{Refusal}
use Rattle.store.specs.Calls.{refused as storeRefused}
use Rattle.store.proofs.Told.{number_tells}
use Rattle.verdicts.specs.Calls.{VerdictLeft, verdict_left}
use Rattle.reasons.specs.Replies.{told}
use Rattle.reasons.specs.declared.answers.Reason.{Reason}
use Rattle.reasons.specs.declared.answers.Reason.TheVariants.{Stop, NoClash, One, Clash}

-- the reply tells the reason
reason_tells : (o : List ℕ) (a b : Reason) → told (Ok a) o ≡ told (Ok b) o → a ≡ b
reason_tells o Stop Stop e = refl
reason_tells o Stop NoClash e = cc
reason_tells o Stop (One s' a') e = cc
reason_tells o Stop (Clash s' k') e = cc
reason_tells o NoClash Stop e = cc
reason_tells o NoClash NoClash e = refl
reason_tells o NoClash (One s' a') e = cc
reason_tells o NoClash (Clash s' k') e = cc
reason_tells o (One s a) Stop e = cc
reason_tells o (One s a) NoClash e = cc
reason_tells o (One s a) (One s' a') e =
    let n : s ≡ s' = cc in
    let m : a.0 ≡ a'.0 = cc in
    ap₂ (λ (x y : ℕ). One x (record { 0 = y })) n m
reason_tells o (One s a) (Clash s' k') e = cc
reason_tells o (Clash s k) Stop e = cc
reason_tells o (Clash s k) NoClash e = cc
reason_tells o (Clash s k) (One s' a') e = cc
reason_tells o (Clash s k) (Clash s' k') e =
    let n : s ≡ s' = cc in
    let m : k.0 ≡ k'.0 = cc in
    ap₂ (λ (x y : ℕ). Clash x (record { 0 = y })) n m

-- and the answer
told_tells : (o : List ℕ) (a b : Result Reason Refusal) → told a o ≡ told b o → a ≡ b
told_tells o (Ok a) (Ok b) e = ap Ok (reason_tells o a b e)
told_tells o (Ok Stop) (Err g) e = cc
told_tells o (Ok NoClash) (Err g) e = cc
told_tells o (Ok (One s a)) (Err g) e = cc
told_tells o (Ok (Clash s k)) (Err g) e = cc
told_tells o (Err f) (Ok Stop) e = cc
told_tells o (Err f) (Ok NoClash) e = cc
told_tells o (Err f) (Ok (One s a)) e = cc
told_tells o (Err f) (Ok (Clash s k)) e = cc
told_tells o (Err f) (Err g) e = let n : number f ≡ number g = cc in ap Err (number_tells f g (ap storeRefused n))

pub why_determined : (l : VerdictLeft) (u x o p : List ℕ) (a b : Result Reason Refusal) → verdict_left (told a o) u o ≡ l → verdict_left (told b p) x p ≡ l
    → (a ≡ b) × (u ≡ x) × (o ≡ p)
why_determined l u x o p a b d e =
    let f = d ∙ sym e in
    let q : o ≡ p = ap (λ (m : VerdictLeft). m.output) f in
    (told_tells o a b (ap (λ (m : VerdictLeft). m.reply) f ∙ ap (told b) (sym q)), ap (λ (m : VerdictLeft). m.scratch) f, q)
