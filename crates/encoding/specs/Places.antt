-- Every place among a store's words is a count, a word of a record, a parent or a state. Nothing here has to be believed.
use Rattle.std.specs.Prelude.{◌≡◌, ℕ, ◌<◌, ◌≤◌, ◌+◌, ◌-◌}
use Rattle.std.proofs.Common.{sym, subst, arith}
use Rattle.words.specs.Numbers.{two, below?}
use Rattle.layout.specs.Layout.{store_words}

pub by_place : (P : ℕ → Type 0) → P 0 → P 1
    → ((j : ℕ) → 2 ≤ j → j < 1538 → P j)
    → ((i : ℕ) → i < 2048 → P (1538 + i))
    → ((i : ℕ) → i < 2048 → P (3586 + i))
    → (j : ℕ) → j < store_words → P j
by_place P counts uses records parents states j l =
    two j 0 (λ e. subst P (sym e) counts) λ a.
    two j 1 (λ e. subst P (sym e) uses) λ b.
    below? j 1538 (λ h. records j (omega arith) h) λ c.
    below? j 3586
    (λ h. let e : 1538 + (j - 1538) ≡ j = omega arith in subst P e (parents (j - 1538) (omega arith)))
    (λ h. let e : 3586 + (j - 3586) ≡ j = omega arith in subst P e (states (j - 3586) (omega arith)))
