-- What a call leaves, from what its parts leave. Nothing here has to be believed.
use Rattle.std.specs.Prelude.{◌≡◌, List, [], ◌∷◌, ◌++◌, ℕ, length, replicate, Result, Ok, Err, IsOk}
use Rattle.std.proofs.Math.Path.{refl, sym}
use Rattle.std.proofs.Common.{◌∙◌, eq-eqb, ne_eqb}
use Rattle.words.specs.Refusals.{number}
use Rattle.words.specs.declared.refusals.Refusal.{Refusal}
use Rattle.layout.specs.Store.{node_at}
use Rattle.layout.specs.Layout.{scratch_words}
use Rattle.layout.specs.Decode.{store_of}
use Rattle.store.specs.Admit.{cleared}
use Rattle.store.specs.Calls.{done, Left, asked, leaves, leaves_after, refused, context}
use Rattle.store.specs.Asks.{Asks}
use Rattle.contexts.specs.Replies.{merged}
use Rattle.contexts.specs.declared.merges.Merged.{Merged}
use Rattle.interning.specs.Replies.{numbered}
use Rattle.interning.specs.declared.numbered.Numbered.{Numbered}
use Rattle.lines.specs.Laid.{Wrote}
use Rattle.lines.specs.Lines.{spaced_all, number_line, numbers_line, context_line, refusal_line, entries_line}
use Rattle.lines.specs.Spread.{line_two}
use Rattle.replies.specs.Replies.{Lent, lent, wiped, line_of, Printed, on_store}

-- the reply x is laid in the buffer b, and the words are x's
pub record Answered (b : List ℕ) (x : Printed) (r : ℕ) (u : List ℕ) (l : Lent) : Type 0 where
  pub wrote : Wrote b 0 x.reply r u
  pub words : l ≡ x.words

-- ---- the scratch

module _ (z : List ℕ) where
  pub wiped_right : length z ≡ scratch_words → wiped z ≡ replicate (length z) 0
  unfolding wiped
  wiped_right l = (rw (eq-eqb (length z) scratch_words l, wiped)) ∙ sym (cleared z l)

  pub wiped_wrong : (length z ≡ scratch_words → ⊥) → wiped z ≡ z
  unfolding wiped
  wiped_wrong n = rw (ne_eqb (length z) scratch_words n, wiped)

-- ---- a call on contexts, which leaves x; `done` prints e

-- the line of what is left
abbrev pub left_line : List ℕ → Left → List ℕ
left_line e x = line_of e x.made x.reply

pub record Replied (b e : List ℕ) (x : Left) (r : ℕ) (u w z : List ℕ) : Type 0 where
  pub wrote : Wrote b 0 (left_line e x) r u
  pub store : w ≡ x.store
  pub scratch : z ≡ x.scratch

pub on_store_lem : (b e : List ℕ) (x : Left) (r : ℕ) (u w v t z : List ℕ) (l : Lent) → Replied b e x r u w z → v ≡ l.set → t ≡ l.stops
    → Answered b (on_store l e x) r u (lent w v t z)
on_store_lem b e x r u w v t z l p f g = record {
  wrote = p.wrote;
  words = rw (p.store, p.scratch, f, g);
}

-- a refusal's line
pub replied_refused : (b e : List ℕ) (x : Left) (f : Refusal) (r : ℕ) (u w z : List ℕ) → leaves (refused (number f)) w z ≡ x
    → Wrote b 0 (refusal_line (number f)) r u → Replied b e x r u w z
unfolding line_of
replied_refused b e x f r u w z l v = rw (← l) (record { wrote = v; store = refl; scratch = refl })

-- ---- a call that may make a context

pub replied_context : (b : List ℕ) (x : Left) (n c k r : ℕ) (u w z : List ℕ) → leaves_after n k (context c) w z ≡ x
    → Wrote b 0 (67 ∷ spaced_all (c ∷ k ∷ []) ++ 10 ∷ []) r u → Replied b [] x r u w z
unfolding line_of context_line
replied_context b x n c k r u w z l v = rw (← l) (record { wrote = rw (line_two 67 c k) at v; store = refl; scratch = refl })

module _ (b : List ℕ) (j : ℕ) (u : List ℕ) (a : Result Numbered Refusal) where
  pub context_line_lem : (d : Numbered) → a ≡ Ok d → Wrote b 0 (numbers_line 67 d.context.0 d.made) j u → Wrote b 0 (left_line [] (numbered a [] [])) j u
  unfolding line_of context_line
  context_line_lem d e v = rw e v

  pub refusal_line_lem : (f : Refusal) (n : ℕ) → a ≡ Err f → n ≡ number f → Wrote b 0 (number_line 82 n) j u → Wrote b 0 (left_line [] (numbered a [] [])) j u
  unfolding line_of refusal_line
  refusal_line_lem f n e q v = rw e (rw q at v)

pub replied_call : (b : List ℕ) (x : Left) (a : Result Numbered Refusal) (r : ℕ) (u w z : List ℕ) → numbered a w z ≡ x
    → Wrote b 0 (left_line [] (numbered a [] [])) r u → Replied b [] x r u w z
replied_call b x (Ok d) r u w z e v = rw (← e) (record { wrote = v; store = refl; scratch = refl })
replied_call b x (Err f) r u w z e v = rw (← e) (record { wrote = v; store = refl; scratch = refl })

-- the same of a merge, of which no line has the merges counted
pub replied_merge : (b : List ℕ) (x : Left) (a : Result Merged Refusal) (line : List ℕ) (r : ℕ) (u w z : List ℕ) → merged a w z ≡ x
    → line ≡ left_line [] (merged a [] []) → Wrote b 0 line r u → Replied b [] x r u w z
replied_merge b x (Ok d) line r u w z e q v = rw (← e) (record { wrote = rw q at v; store = refl; scratch = refl })
replied_merge b x (Err f) line r u w z e q v = rw (← e) (record { wrote = rw q at v; store = refl; scratch = refl })

-- ---- the entries of a context

module _ {A : Type 0} {w z : List ℕ} {c : ℕ} {a : Result A Refusal} {y : List ℕ} (v : Asks w z c a y) (b : List ℕ) (r : ℕ) (u : List ℕ) where
  pub show_refused : (f : Refusal) → a ≡ Err f → Wrote b 0 (refusal_line (number f)) r u
      → Replied b (entries_line (node_at (store_of w) c)) (asked w z c done) r u w y
  show_refused f e p = replied_refused b _ _ f r u w y (v.refuses f e done) p

  pub show_done : IsOk a → Wrote b 0 (entries_line (node_at (store_of w) c)) r u
      → Replied b (entries_line (node_at (store_of w) c)) (asked w z c done) r u w y
  unfolding line_of
  show_done e p = rw (← v.replies e done) (record { wrote = p; store = refl; scratch = refl })
