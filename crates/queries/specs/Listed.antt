-- The entry at a place of a list of entries, and of one held in words. Nothing here has to be believed.
use Rattle.std.specs.Prelude.{◌≡◌, refl, [], ℕ, zero, suc, ◌<◌, ◌≤◌, ◌+◌, eqb}
use Rattle.std.proofs.Common.{ap, ◌∙◌, arith, eq-eqb, ne_eqb}
use Rattle.words.specs.Compact.{expanded}
use Rattle.words.specs.Compact.Laws.{expanded_mark, expanded_state}
use Rattle.words.specs.Numbers.{two}
use Rattle.arena.specs.Store.{Node, end, dollar, push, Store}
use Rattle.arena.specs.Kinds.{size}
use Rattle.arena.proofs.Identity.{entries_stand}
use Rattle.layout.specs.Layout.{stop}
use Rattle.layout.specs.Listing.Laws.{Entries, listing_stop, listing_more, entries_rest, stop_last}
use Rattle.layout.specs.Listing.{listing}
use Rattle.store.specs.Calls.{Reply, context, state, none}
use Rattle.queries.specs.Queries.{entry_at, entry_parent, answer_to}

-- the state of an entry, and its parent
abbrev pub state_at : Node → ℕ → Reply
state_at n i = entry_at n i (λ r p. state r)

abbrev pub parent_at : Node → ℕ → Reply
parent_at n i = entry_at n i (λ r p. context p)

abbrev pub parent_of : Store → ℕ → ℕ → Reply
parent_of s c i = answer_to (entry_parent i) s c

-- ---- past the end

pub state_past : (n : Node) (i : ℕ) → size n ≤ i → state_at n i ≡ none
unfolding size entry_at
state_past end i h = refl
state_past dollar zero h = absurd (omega arith)
state_past dollar (suc i) h = refl
state_past (push r p n) zero h = absurd (omega arith)
state_past (push r p n) (suc i) h = state_past n i (omega arith)

pub parent_past : (n : Node) (i : ℕ) → size n ≤ i → parent_at n i ≡ none
unfolding size entry_at
parent_past end i h = refl
parent_past dollar zero h = absurd (omega arith)
parent_past dollar (suc i) h = refl
parent_past (push r p n) zero h = absurd (omega arith)
parent_past (push r p n) (suc i) h = parent_past n i (omega arith)

-- ---- held in words: the k entries from place i on

-- an entry with another after it is no `$`
not_last : (st pa : ℕ → ℕ) (i k c : ℕ) → Entries st pa i (suc k) c → 0 < k → st i ≡ stop → ⊥
not_last st pa i k c v h e = omega (arith, stop_last st pa i k c v e)

pub state_listing : (st pa : ℕ → ℕ) (i k c j : ℕ) → Entries st pa i k c → j < k → state_at (listing st pa i k) j ≡ state (expanded (st (i + j)))
unfolding entry_at
state_listing st pa i zero c j v h = absurd (omega arith)
state_listing st pa i (suc k) c zero v h =
    let z : i + 0 ≡ i = omega arith in
    two (st i) stop
    (λ e. rw (listing_stop st pa i k e, z, expanded_mark (st i) e))
    (λ n. rw (listing_more st pa i k n, z, expanded_state (st i) n))
state_listing st pa i (suc k) c (suc j) v h =
    let z : suc i + j ≡ i + suc j = omega arith in
    let later = state_listing st pa (suc i) k c j (entries_rest st pa i k c v) (omega arith) in
    rw (listing_more st pa i k (not_last st pa i k c v (omega arith))) (later ∙ ap (λ (x : ℕ). state (expanded (st x))) z)

pub parent_listing : (st pa : ℕ → ℕ) (i k c j : ℕ) → Entries st pa i k c → j < k → parent_at (listing st pa i k) j ≡ context (pa (i + j))
unfolding entry_at
parent_listing st pa i zero c j v h = absurd (omega arith)
parent_listing st pa i (suc k) c zero v h =
    let z : i + 0 ≡ i = omega arith in
    two (st i) stop
    (λ e. rw (listing_stop st pa i k e, z, v.dollar i (omega arith) (omega arith) e))
    (λ n. rw (listing_more st pa i k n, z))
parent_listing st pa i (suc k) c (suc j) v h =
    let z : suc i + j ≡ i + suc j = omega arith in
    let later = parent_listing st pa (suc i) k c j (entries_rest st pa i k c v) (omega arith) in
    rw (listing_more st pa i k (not_last st pa i k c v (omega arith))) (later ∙ ap (λ (x : ℕ). context (pa x)) z)

-- the empty stack is one of theirs exactly if the last is a `$`
pub empty_listing : (s : Store) (st pa : ℕ → ℕ) (i k c : ℕ) → Entries st pa i (suc k) c → entries_stand s (listing st pa i (suc k)) [] ≡ eqb (st (i + k)) stop
unfolding entries_stand listing
empty_listing s st pa i zero c v =
    let z : i + 0 ≡ i = omega arith in
    two (st i) stop
    (λ e. rw (listing_stop st pa i 0 e, z, eq-eqb (st i) stop e))
    (λ n. rw (listing_more st pa i 0 n, z, ne_eqb (st i) stop n))
empty_listing s st pa i (suc k) c v =
    let z : suc i + k ≡ i + suc k = omega arith in
    let later = empty_listing s st pa (suc i) k c (entries_rest st pa i (suc k) c v) in
    rw (listing_more st pa i (suc k) (not_last st pa i (suc k) c v (omega arith))) (later ∙ ap (λ (x : ℕ). eqb (st x) stop) z)
