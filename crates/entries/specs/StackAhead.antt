-- Entries on the stack ahead of more: what a merge has done so far. Nothing here has to be believed.
use Rattle.std.specs.Prelude.{◌≡◌, refl, ℕ, zero, suc, ◌<◌, ◌≤◌, ◌+◌}
use Rattle.std.proofs.Common.{sym, ap, ◌∙◌, arith}
use Rattle.words.specs.Numbers.{two}
use Rattle.arena.specs.Store.{Node}
use Rattle.layout.specs.Layout.{stop}
use Rattle.layout.specs.Listing.{listing}
use Rattle.layout.specs.Listing.Laws.{listing_stop, listing_more}
use Rattle.work.proofs.Heads.{cons, cons_stop, cons_push}

-- the n entries from place i on, and then x
unfoldable pub onto : (ℕ → ℕ) → (ℕ → ℕ) → ℕ → ℕ → Node → Node
onto st pa i zero x = x
onto st pa i (suc k) x = cons (st i) (pa i) (onto st pa (suc i) k x)

cons_listing : (st pa : ℕ → ℕ) (i k : ℕ) → cons (st i) (pa i) (listing st pa (suc i) k) ≡ listing st pa i (suc k)
cons_listing st pa i k =
    two (st i) stop
    (λ e. cons_stop (st i) (pa i) _ e ∙ sym (listing_stop st pa i k e))
    (λ n. cons_push (st i) (pa i) _ n ∙ sym (listing_more st pa i k n))

-- k entries, and then j more from where those end
pub onto_listing : (st pa : ℕ → ℕ) (i k j : ℕ) → onto st pa i k (listing st pa (i + k) j) ≡ listing st pa i (k + j)
unfolding onto
onto_listing st pa i zero j = let a : i + 0 ≡ i = omega arith in let b : 0 + j ≡ j = omega arith in rw (a, b)
onto_listing st pa i (suc k) j =
    let a : i + suc k ≡ suc i + k = omega arith in
    let b : suc k + j ≡ suc (k + j) = omega arith in
    rw (a, b, onto_listing st pa (suc i) k j) (cons_listing st pa i (k + j))

-- one entry more at the end
pub onto_more : (st pa : ℕ → ℕ) (i k : ℕ) (x : Node) → onto st pa i (suc k) x ≡ onto st pa i k (cons (st (i + k)) (pa (i + k)) x)
unfolding onto
onto_more st pa i zero x = let a : i + 0 ≡ i = omega arith in rw a
onto_more st pa i (suc k) x =
    let a : i + suc k ≡ suc i + k = omega arith in
    rw a (ap (cons (st i) (pa i)) (onto_more st pa (suc i) k x))

pub onto_agree : (st pa st' pa' : ℕ → ℕ) (i k : ℕ) (x : Node)
    → ((j : ℕ) → i ≤ j → j < i + k → (st j ≡ st' j) × (pa j ≡ pa' j)) → onto st pa i k x ≡ onto st' pa' i k x
unfolding onto
onto_agree st pa st' pa' i zero x h = refl
onto_agree st pa st' pa' i (suc k) x h =
    let q = h i (omega arith) (omega arith) in
    rw (q.0, q.1, onto_agree st pa st' pa' (suc i) k x (λ j a b. h j (omega arith) (omega arith)))
