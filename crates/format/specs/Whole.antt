-- What the code that reads a payload relies on, that its bytes are there and as many as its kind asks for, and what it answers.
-- Nothing here has to be believed.
use Rattle.std.specs.Prelude.{◌≡◌, Bool, true, List, ℕ, ◌+◌, ◌*◌, ◌-◌, ◌/◌, ◌%◌, ◌<◌, ◌≤◌, eqb, length, Option, Some, None}
use Rattle.std.proofs.Common.{ap, sym, ◌∙◌, arith, eqb-true}
use Rattle.format.specs.declared.records.Record.{Record}
use Rattle.format.specs.Answers.{call_in, Before}
use Rattle.format.specs.Format.{Reading, found, malformed}
use Rattle.format.specs.Payloads.{Payload, exactly, fours, payload_of, accepts}

-- a payload of kind k from place p to place e
pub record Whole (s : List ℕ) (k p e : ℕ) : Type 0 where
  pub ordered : p ≤ e
  pub within : e ≤ length s
  pub bytes : (n : ℕ) → payload_of k ≡ exactly n → p + n ≤ length s
  pub words : payload_of k ≡ fours → p + 4 * ((e - p) / 4) ≡ e

-- the kind is none of those on contexts
pub record NoContexts (k : ℕ) : Type 0 where
  pub no_singleton : k ≡ 1 → ⊥
  pub no_merge : k ≡ 2 → ⊥
  pub no_show : k ≡ 7 → ⊥

-- a mode that was read, or that there is not
abbrev pub ModeIs : ℕ → Option Bool → Type 0
ModeIs m (Some wildcard) = (m ≤ 1) × (wildcard ≡ eqb m 1)
ModeIs m None = 1 < m

-- a payload that was read, or that no record has; the next record starts at e
abbrev pub payload_reading : List ℕ → ℕ → Option Record → Reading
payload_reading s e (Some r) = found (call_in s r) e
payload_reading s e None = malformed

abbrev pub PayloadPlaced : List ℕ → ℕ → Option Record → Type 0
PayloadPlaced s e (Some r) = Before s e r
PayloadPlaced s e None = Unit {0}

-- a payload whose length is right, within the script
pub whole : (s : List ℕ) (k p n : ℕ) → accepts (payload_of k) n ≡ true → p + n ≤ length s → Whole s k p (p + n)
unfolding accepts
whole s k p n t h = record {
  ordered = omega arith;
  within = h;
  bytes = λ m e. omega (arith, eqb-true n m (sym (ap (λ (q : Payload). accepts q n) e) ∙ t));
  words = λ e. omega (arith, eqb-true (n % 4) 0 (sym (ap (λ (q : Payload). accepts q n) e) ∙ t));
}
