-- What the checks leave to a call that only reads: a known context and a cleared scratch, or the refusal, whatever the reply would have been.
-- Nothing here has to be believed.
use Rattle.std.specs.Prelude.{◌≡◌, ◌↔◌, List, ℕ, ◌<◌, length, replicate, Result, Ok, Err, IsOk}
use Rattle.std.proofs.Common.{sym, ◌∙◌}
use Rattle.words.specs.declared.refusals.Refusal.{Refusal}
use Rattle.words.specs.Refusals.{number}
use Rattle.layout.specs.Store.{at}
use Rattle.layout.specs.Layout.{store_words, count}
use Rattle.layout.specs.Sound.{SoundWords}
use Rattle.store.specs.Nested.{asked_nested}
use Rattle.store.specs.Checks.{due}
use Rattle.store.specs.Calls.Laws.{refused_exactly, refused_leaves}
use Rattle.store.specs.Calls.{Reply, refused, leaves, zeros, kept, refusal, ask_checks, asked}
use Rattle.store.specs.Admit.{Admits, cleared}

-- the words are sound, and c is one of their contexts
pub record Known (w : List ℕ) (c : ℕ) : Type 0 where
  pub sized : length w ≡ store_words
  pub sound : SoundWords w
  pub below : c < count w

-- the words w and z at entry, the context's number c, what the checks answered, with whatever they hand on, the scratch v afterwards
pub record Asks {A : Type 0} (w z : List ℕ) (c : ℕ) (a : Result A Refusal) (v : List ℕ) : Type 0 where
  pub known : IsOk a → Known w c
  pub replies : IsOk a → (r : Reply) → leaves r w v ≡ asked w z c r
  pub refuses : (f : Refusal) → a ≡ Err f → (r : Reply) → leaves (refused (number f)) w v ≡ asked w z c r

-- ---- from what `admit` answered; u is the scratch after it

module _ {A : Type 0} (w z : List ℕ) (c : ℕ) where
  pub asks_known : (x : A) (u v : List ℕ) → Admits w z c (Ok tt) u → v ≡ replicate (length u) 0 → Asks w z c (Ok x) v
  asks_known x u v passed f =
      let zero : v ≡ zeros = f ∙ cleared u passed.0.index.sized in
      record {
        known = λ _. record { sized = passed.0.sized; sound = passed.0.sound; below = passed.1 };
        replies = λ _ r. rw zero (sym (asked_nested w z c r ∙ passed.2 (kept r w)));
        refuses = λ f e r. cc;
      }

  pub asks_refused : (f : Refusal) (u : List ℕ) → Admits w z c (Err f) u → Asks {A = A} w z c (Err f) u
  asks_refused f u s =
      record {
        known = λ g. cc;
        replies = λ g. cc;
        refuses = λ h g r. let e : h ≡ f = cc in rw e (sym (asked_nested w z c r ∙ s (kept r w)));
      }

-- ---- refused exactly when, and with nothing changed

module _ (w z : List ℕ) (c : ℕ) (r : Reply) (answers : (n : ℕ) → r ≡ refused n → ⊥) (n : ℕ) where
  pub asked_refused_exactly : ((asked w z c r).reply ≡ refused n) ↔ (due (ask_checks w z c) ≡ at n)
  unfolding asked
  asked_refused_exactly = refused_exactly w z (ask_checks w z c) (kept r w) answers n

  pub asked_refused_leaves : (asked w z c r).reply ≡ refused n → asked w z c r ≡ refusal w z n
  unfolding asked
  asked_refused_leaves = refused_leaves w z (ask_checks w z c) (kept r w) answers n
