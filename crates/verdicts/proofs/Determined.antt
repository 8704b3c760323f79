-- Two outcomes of a call that satisfy its contract for the same input are equal: the answers, case and value, and every word.
-- Nothing here has to be believed.
use Rattle.std.specs.Prelude.{◌≡◌, refl, Bool, List, ℕ, Option, Result, Ok, Err}
use Rattle.std.proofs.Common.{sym, ap, ◌∙◌}
use Rattle.words.specs.declared.refusals.Refusal.{Refusal}
use Rattle.words.specs.Refusals.{number}
use Rattle.words.specs.declared.names.Alternative.{Alternative}
use Rattle.deciding.specs.OneAlt.{one_alt}
use Rattle.deciding.specs.OneAlt.Laws.{one_tells}
use Rattle.store.specs.Calls.{refused as storeRefused}
use Rattle.store.proofs.Told.{number_tells}
use Rattle.verdicts.specs.Calls.{refused, VerdictLeft, verdict_left}
use Rattle.verdicts.specs.Replies.{decided, alt_found, wrote}

-- ---- a reply tells the answer

tells : (f g : Refusal) → refused (number f) ≡ refused (number g) → f ≡ g
tells f g e = let n : number f ≡ number g = cc in number_tells f g (ap storeRefused n)

decided_tells : (a b : Result Bool Refusal) → decided a ≡ decided b → a ≡ b
decided_tells (Ok a) (Ok b) e = let n : a ≡ b = cc in ap Ok n
decided_tells (Ok a) (Err g) e = cc
decided_tells (Err f) (Ok b) e = cc
decided_tells (Err f) (Err g) e = ap Err (tells f g e)

found_tells : (a b : Result (Option Alternative) Refusal) → alt_found a ≡ alt_found b → a ≡ b
found_tells (Ok a) (Ok b) e = let n : one_alt a ≡ one_alt b = cc in ap Ok (one_tells a b n)
found_tells (Ok a) (Err g) e = cc
found_tells (Err f) (Ok b) e = cc
found_tells (Err f) (Err g) e = ap Err (tells f g e)

wrote_tells : (a b : Result Unit Refusal) → wrote a ≡ wrote b → a ≡ b
wrote_tells (Ok a) (Ok b) e = refl
wrote_tells (Ok a) (Err g) e = cc
wrote_tells (Err f) (Ok b) e = cc
wrote_tells (Err f) (Err g) e = ap Err (tells f g e)

-- ---- whatever the call's equation says: l is what it leaves. Store and set are lent to read

module _ (l : VerdictLeft) (u x p q : List ℕ) where
  pub decided_determined : (a b : Result Bool Refusal) → verdict_left (decided a) u p ≡ l → verdict_left (decided b) x q ≡ l → (a ≡ b) × (u ≡ x) × (p ≡ q)
  decided_determined a b d e =
      let f = d ∙ sym e in
      (decided_tells a b (ap (λ (m : VerdictLeft). m.reply) f), ap (λ (m : VerdictLeft). m.scratch) f, ap (λ (m : VerdictLeft). m.output) f)

  pub found_determined : (a b : Result (Option Alternative) Refusal) → verdict_left (alt_found a) u p ≡ l → verdict_left (alt_found b) x q ≡ l → (a ≡ b) × (u ≡ x) × (p ≡ q)
  found_determined a b d e =
      let f = d ∙ sym e in
      (found_tells a b (ap (λ (m : VerdictLeft). m.reply) f), ap (λ (m : VerdictLeft). m.scratch) f, ap (λ (m : VerdictLeft). m.output) f)

  pub written_determined : (a b : Result Unit Refusal) → verdict_left (wrote a) u p ≡ l → verdict_left (wrote b) x q ≡ l → (a ≡ b) × (u ≡ x) × (p ≡ q)
  written_determined a b d e =
      let f = d ∙ sym e in
      (wrote_tells a b (ap (λ (m : VerdictLeft). m.reply) f), ap (λ (m : VerdictLeft). m.scratch) f, ap (λ (m : VerdictLeft). m.output) f)
