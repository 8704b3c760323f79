-- Entries copied to the stack one at a time, and what the stack then holds. Nothing here has to be believed.
use Rattle.std.specs.Prelude.{◌≡◌, refl, List, ℕ, suc, ◌<◌, ◌≤◌, ◌+◌, ◌-◌, length}
use Rattle.std.proofs.Common.{sym, ap, ◌∙◌, arith}
use Rattle.words.specs.Numbers.{two}
use Rattle.layout.specs.Layout.{scratch_words, parent, state}
use Rattle.layout.specs.Scratch.{stack_parent, stack_state}
use Rattle.layout.specs.Listing.{listing}
use Rattle.layout.specs.Listing.Laws.{Entries, listing_agree}
use Rattle.index.specs.Records.{Stacked, stack_node}
use Rattle.index.specs.Writes.{put_entry, Loaded}
use Rattle.index.specs.Grow.{entry_length, entry_below, entry_parent_lem, entry_state_lem, other_parent, other_state}

-- nothing is copied yet
pub load_none : (w z : List ℕ) (from at : ℕ) → length z ≡ scratch_words → Loaded w z from 0 at z
load_none w z from at l = record {
  sized = l;
  below = λ i h. refl;
  parents = λ j h. absurd (omega arith);
  states = λ j h. absurd (omega arith);
}

-- one entry more
pub load_more : (w z u : List ℕ) (from i at p r : ℕ) → at + i < 4200 → p ≡ parent w (from + i) → r ≡ state w (from + i)
    → Loaded w z from i at u → Loaded w z from (i + 1) at (put_entry u (at + i) p r)
load_more w z u from i at p r h ep er v =
    let l = v.sized in
    record {
      sized = entry_length u (at + i) p r ∙ l;
      below = λ j k. entry_below u (at + i) p r j (omega arith) ∙ v.below j k;
      parents = λ j k.
          two j i
          (λ e. rw e (entry_parent_lem u (at + i) p r (omega arith) ∙ ep))
          (λ n. other_parent u (at + i) p r (at + j) (omega arith) ∙ v.parents j (omega arith));
      states = λ j k.
          two j i
          (λ e. rw e (entry_state_lem u (at + i) p r (omega arith) ∙ er))
          (λ n. other_state u (at + i) p r (at + j) (omega arith) ∙ v.states j (omega arith));
    }

-- ---- the stack holds what the pool held

module _ (w z : List ℕ) (from n at : ℕ) (u : List ℕ) (v : Loaded w z from n at u) where
  pub loaded_node : stack_node u at n ≡ listing (state w) (parent w) from n
  loaded_node = listing_agree (stack_state u) (stack_parent u) (state w) (parent w) at from n (λ j h. (v.states j h, v.parents j h))

  state_at_lem : (j : ℕ) → at ≤ j → j < at + n → stack_state u j ≡ state w (from + (j - at))
  state_at_lem j a b =
      let e : j ≡ at + (j - at) = omega arith in
      ap (stack_state u) e ∙ v.states (j - at) (omega arith)

  parent_at_lem : (j : ℕ) → at ≤ j → j < at + n → stack_parent u j ≡ parent w (from + (j - at))
  parent_at_lem j a b =
      let e : j ≡ at + (j - at) = omega arith in
      ap (stack_parent u) e ∙ v.parents (j - at) (omega arith)

  pub loaded_entries : (c : ℕ) → Entries (state w) (parent w) from n c → Entries (stack_state u) (stack_parent u) at n c
  loaded_entries c e = record {
    fit = λ j a b. rw (state_at_lem j a b) (e.fit _ (omega arith) (omega arith));
    older = λ j a b. rw (parent_at_lem j a b) (e.older _ (omega arith) (omega arith));
    rise = λ j a b.
        let s : suc j - at ≡ suc (j - at) = omega arith in
        let q : from + suc (j - at) ≡ suc (from + (j - at)) = omega arith in
        rw (state_at_lem j a (omega arith), state_at_lem (suc j) (omega arith) b, s, q) (e.rise _ (omega arith) (omega arith));
    dollar = λ j a b s. parent_at_lem j a b ∙ e.dollar _ (omega arith) (omega arith) (sym (state_at_lem j a b) ∙ s);
  }

  pub loaded_stacked : (c : ℕ) → at + n ≤ 4200 → Entries (state w) (parent w) from n c → Stacked u at n c
  loaded_stacked c h e = record { sized = v.sized; room = h; entries = loaded_entries c e }
