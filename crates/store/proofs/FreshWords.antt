-- The words of a store of context 0 alone, and of a store that is cut back. Nothing here has to be believed.
use Rattle.std.specs.Prelude.{◌≡◌, ◌≢◌, List, [], ◌∷◌, ℕ, length, get_or, set, replicate}
use Rattle.std.proofs.Common.{◌∙◌, arith, get_or-set_other, eq-eqb, ne_eqb}
use Rattle.std.proofs.lemmas.List.{set-get_or}
use Rattle.layout.specs.Store.{dollar}
use Rattle.layout.specs.Room.{pool, room}
use Rattle.layout.specs.Layout.{store_words, blank}
use Rattle.layout.specs.Encode.{put_counts, put_node, written, words_of}
use Rattle.encoding.specs.Writes.{get_or_blank}
use Rattle.store.specs.Checks.{unless}
use Rattle.store.specs.Calls.{done, refused, fresh_call}

-- word 1 of zeros is 0 already
one_is_zero : (w : List ℕ) → get_or w 1 0 ≡ 0 → set w 1 0 ≡ w
one_is_zero w e = rw (← e) (set-get_or w 1 0)

fresh_is : words_of (dollar ∷ []) ≡ set (blank store_words) 0 1
unfolding words_of written put_counts put_node pool room
fresh_is =
    let n : ◌≢◌ {A = ℕ} 1 0 = omega arith in
    one_is_zero (set (blank store_words) 0 1) (get_or-set_other (blank store_words) 0 1 1 0 n ∙ get_or_blank store_words 1 (omega arith))

module _ (w : List ℕ) where
  pub fresh_goes : length w ≡ store_words → fresh_call w ≡ (done, words_of (dollar ∷ []))
  unfolding fresh_call unless
  fresh_goes l = rw (eq-eqb (length w) store_words l, fresh_call, unless, unless)

  -- count 1 and zeros
  pub fresh_count : length w ≡ store_words → fresh_call w ≡ (done, set (blank store_words) 0 1)
  fresh_count l = rw (← fresh_is) (fresh_goes l)

  pub fresh_words : length w ≡ store_words → (done, set (replicate (length w) 0) 0 1) ≡ fresh_call w
  unfolding fresh_call unless blank
  fresh_words l = rw (eq-eqb (length w) store_words l, fresh_call, unless, unless, fresh_is, l)

  pub fresh_refused : (length w ≡ store_words → ⊥) → (refused 2, w) ≡ fresh_call w
  unfolding fresh_call unless
  fresh_refused n = rw (ne_eqb (length w) store_words n, fresh_call, unless)
