-- One entry more on the stack: it stays sound, below what comes, and ahead of it. Nothing here has to be believed.
use Rattle.std.specs.Prelude.{◌≡◌, List, ℕ, suc, ◌<◌, ◌≤◌, ◌+◌, ◌*◌, length, get_or}
use Rattle.std.proofs.Common.{sym, ap, ◌∙◌, arith}
use Rattle.words.specs.Numbers.{two}
use Rattle.arena.specs.Store.{Node}
use Rattle.layout.specs.Layout.{scratch_words, stop}
use Rattle.layout.specs.Scratch.{stack_parent, stack_state}
use Rattle.layout.specs.Listing.Laws.{Entries}
use Rattle.index.specs.Writes.{put_entry}
use Rattle.index.specs.Grow.{entry_length, entry_below, entry_parent_lem, entry_state_lem}
use Rattle.work.proofs.Heads.{cons}
use Rattle.entries.specs.StackAhead.{onto, onto_more, onto_agree}

-- the stack below its place t is as it was
abbrev pub SameStack : List ℕ → List ℕ → ℕ → Type 0
SameStack z u t = (i : ℕ) → 7936 ≤ i → i < 7936 + 2 * t → get_or u i 0 ≡ get_or z i 0

module _ (z u : List ℕ) (t : ℕ) (v : SameStack z u t) (e : ℕ) (h : e < t) where
  pub same_state : stack_state u e ≡ stack_state z e
  unfolding stack_state
  same_state = v (7936 + 2 * e + 1) (omega arith) (omega arith)

  pub same_parent : stack_parent u e ≡ stack_parent z e
  unfolding stack_parent
  same_parent = v (7936 + 2 * e) (omega arith) (omega arith)

-- every state of the n entries from `top` on is below x
abbrev pub Under : List ℕ → ℕ → ℕ → ℕ → Type 0
Under z top n x = (e : ℕ) → top ≤ e → e < top + n → stack_state z e < x

pub under_le : (z : List ℕ) (top n x y : ℕ) → x ≤ y → Under z top n x → Under z top n y
under_le z top n x y h v e a b = omega (arith, v e a b)

-- ---- entries that another scratch holds too

module _ (z u : List ℕ) (top n : ℕ) (v : SameStack z u (top + n)) where
  pub moved_entries : (c d : ℕ) → c ≤ d → Entries (stack_state z) (stack_parent z) top n c → Entries (stack_state u) (stack_parent u) top n d
  moved_entries c d h e = record {
    fit = λ j a b. rw (same_state z u (top + n) v j b) (e.fit j a b);
    older = λ j a b. rw (same_parent z u (top + n) v j b) (omega (arith, e.older j a b));
    rise = λ j a b. rw (same_state z u (top + n) v j (omega arith), same_state z u (top + n) v (suc j) b) (e.rise j a b);
    dollar = λ j a b q. same_parent z u (top + n) v j b ∙ e.dollar j a b (sym (same_state z u (top + n) v j b) ∙ q);
  }

  pub moved_under : (x : ℕ) → Under z top n x → Under u top n x
  moved_under x w e a b = rw (same_state z u (top + n) v e b) (w e a b)

  pub moved_onto : (x : Node) → onto (stack_state u) (stack_parent u) top n x ≡ onto (stack_state z) (stack_parent z) top n x
  moved_onto x = onto_agree (stack_state u) (stack_parent u) (stack_state z) (stack_parent z) top n x (λ j a b. (same_state z u (top + n) v j b, same_parent z u (top + n) v j b))

-- ---- one entry more

module _ (z : List ℕ) (top n p r : ℕ) (l : length z ≡ scratch_words) (room : top + n < 4200) (y : List ℕ) (ey : y ≡ put_entry z (top + n) p r) where
  long_enough : 7936 + 2 * (top + n) + 1 < length z
  long_enough = omega arith

  pub push_length : length y ≡ scratch_words
  push_length = rw ey (entry_length z (top + n) p r ∙ l)

  pub push_between : (i : ℕ) → i < 7936 + 2 * (top + n) → get_or y i 0 ≡ get_or z i 0
  push_between i h = rw ey (entry_below z (top + n) p r i h)

  same : SameStack z y (top + n)
  same i a b = push_between i b

  new_state : stack_state y (top + n) ≡ r
  new_state = rw ey (entry_state_lem z (top + n) p r long_enough)

  new_parent : stack_parent y (top + n) ≡ p
  new_parent = rw ey (entry_parent_lem z (top + n) p r long_enough)

  pub push_under : (x : ℕ) → Under z top n x → r < x → Under y top (suc n) x
  push_under x w h e a b =
      two e (top + n)
      (λ q. rw (q, new_state) h)
      (λ d. moved_under z y top n same x w e a (omega arith))

  pub push_onto : (x : Node) → onto (stack_state y) (stack_parent y) top (suc n) x ≡ onto (stack_state z) (stack_parent z) top n (cons r p x)
  push_onto x =
      onto_more (stack_state y) (stack_parent y) top n x ∙
      (rw (new_state, new_parent)) ∙
      moved_onto z y top n same (cons r p x)

  pub push_entries : (c : ℕ) → Entries (stack_state z) (stack_parent z) top n c → r ≤ stop → p < c → (r ≡ stop → p ≡ 0) → Under z top n r → Entries (stack_state y)
      (stack_parent y) top (suc n) c
  push_entries c e hr hp hd u =
      let m = moved_entries z y top n same c c (omega arith) e in
      record {
        fit = λ j a b. two j (top + n) (λ q. rw (q, new_state) hr) (λ d. m.fit j a (omega arith));
        older = λ j a b. two j (top + n) (λ q. rw (q, new_parent) hp) (λ d. m.older j a (omega arith));
        rise = λ j a b.
            two (suc j) (top + n)
            (λ q. rw (q, new_state) (moved_under z y top n same r u j a (omega arith)))
            (λ d. m.rise j a (omega arith));
        dollar = λ j a b s. two j (top + n) (λ q. rw (q, new_parent) (hd (sym new_state ∙ ap (stack_state y) (sym q) ∙ s))) (λ d. m.dollar j a (omega arith) s);
      }
