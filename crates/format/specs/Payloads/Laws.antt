-- The table's rule: a test over the whole table gives it at each kind; and what an entry accepts is what its payload accepts.
-- Nothing here has to be believed.
use Rattle.std.specs.Prelude.{◌≡◌, Bool, true, false, ◌&&◌, List, [], ◌∷◌, ℕ, zero, suc, ◌%◌, ◌<◌, ◌≤◌, eqb, ltb, length, get_or}
use Rattle.std.proofs.Math.Path.{refl, sym, ap}
use Rattle.std.proofs.Common.{◌∙◌, arith}
use Rattle.std.proofs.Math.ListN.{get_or-eq_default}
use borrow.Author.Tests.{eqb-true, ltb-true, lt-ltb, le-ltb, ne_eqb}
use Rattle.words.specs.Bools.{and_left, and_right}
use Rattle.words.specs.Numbers.{below?}
use Rattle.format.specs.Payloads.{Payload, exactly, fours, none, payloads, payload_of, accepts}
use Rattle.format.specs.Table.{variable, no_kind, entry, entry_accepts}

-- the table of all kinds
unfoldable pub table : List ℕ
table = no_kind ∷ 12 ∷ 9 ∷ 1 ∷ 24 ∷ variable ∷ 0 ∷ 4 ∷ 0 ∷ 0 ∷ []

-- a length is no mark
unfoldable small : Payload → Bool
small (exactly n) = ltb n variable
small fours = true
small none = true

-- the two lists agree place by place, and no length is a mark
unfoldable agrees : List ℕ → List Payload → Bool
agrees [] [] = true
agrees [] (p ∷ ps) = false
agrees (e ∷ es) [] = false
agrees (e ∷ es) (p ∷ ps) = eqb e (entry p) && (small p && agrees es ps)

agree_at : (es : List ℕ) (ps : List Payload) → agrees es ps ≡ true → (k : ℕ) → k < length es
    → (get_or es k 0 ≡ entry (get_or ps k none)) × (small (get_or ps k none) ≡ true)
unfolding agrees
agree_at [] ps t k h = absurd (omega arith)
agree_at (e ∷ es) [] t k h = absurd (let z : ◌≡◌ {A = ℕ} 0 1 = cc in omega arith)
agree_at (e ∷ es) (p ∷ ps) t zero h = (eqb-true e (entry p) (and_left _ _ t), and_left _ _ (and_right (eqb e (entry p)) _ t))
agree_at (e ∷ es) (p ∷ ps) t (suc k) h =
    agree_at es ps (and_right (small p) _ (and_right (eqb e (entry p)) _ t)) k (omega arith)

-- the test, computed over the whole table
whole : agrees table payloads ≡ true
unfolding agrees table payloads entry small
whole = refl

pub table_entry : (k : ℕ) → k < 10 → get_or table k 0 ≡ entry (payload_of k)
unfolding payload_of table
table_entry k h = (agree_at table payloads whole k h).0

table_small : (k : ℕ) → k < 10 → small (payload_of k) ≡ true
unfolding payload_of table
table_small k h = (agree_at table payloads whole k h).1

-- past the table there is no kind
pub unknown_kind : (k : ℕ) → 9 < k → payload_of k ≡ none
unfolding payload_of payloads
unknown_kind k h = get_or-eq_default payloads none h

-- ---- an entry says what its payload says

module _ (n : ℕ) where
  entry_says : (p : Payload) → small p ≡ true → accepts p n ≡ entry_accepts (entry p) n
  unfolding accepts entry_accepts entry small
  entry_says (exactly m) t =
      let h : m < variable = ltb-true m variable t in
      sym (rw (lt-ltb m no_kind (omega arith), entry_accepts) (rw (ne_eqb m variable (λ e. omega arith))))
  entry_says fours t = refl
  entry_says none t = refl

  kind_says : (k : ℕ) → accepts (payload_of k) n ≡ entry_accepts (entry (payload_of k)) n
  unfolding small
  kind_says k =
      below? k 10
      (λ h. entry_says (payload_of k) (table_small k h))
      (λ h. entry_says (payload_of k) (ap small (unknown_kind k h)))

  -- the three ways out of code that looks a kind up in such a table
  module _ (k e : ℕ) (q : e ≡ entry (payload_of k)) where
    pub kind_unknown : no_kind ≤ e → accepts (payload_of k) n ≡ false
    unfolding entry_accepts
    kind_unknown h = kind_says k ∙ ap (λ (x : ℕ). entry_accepts x n) (sym q) ∙ rw (le-ltb e no_kind h, entry_accepts)

    pub kind_variable : e ≡ variable → accepts (payload_of k) n ≡ eqb (n % 4) 0
    unfolding entry_accepts
    kind_variable h = kind_says k ∙ ap (λ (x : ℕ). entry_accepts x n) (sym q ∙ h)

    pub kind_fixed : e < no_kind → (e ≡ variable → ⊥) → accepts (payload_of k) n ≡ eqb n e
    unfolding entry_accepts
    kind_fixed h v =
        kind_says k ∙ ap (λ (x : ℕ). entry_accepts x n) (sym q) ∙ rw (lt-ltb e no_kind h, entry_accepts) (rw (ne_eqb e variable v))

-- ---- the lengths, kind by kind

pub payload_1 : payload_of 1 ≡ exactly 12
unfolding payload_of payloads
payload_1 = refl

pub payload_2 : payload_of 2 ≡ exactly 9
unfolding payload_of payloads
payload_2 = refl

pub payload_3 : payload_of 3 ≡ exactly 1
unfolding payload_of payloads
payload_3 = refl

pub payload_4 : payload_of 4 ≡ exactly 24
unfolding payload_of payloads
payload_4 = refl

pub payload_7 : payload_of 7 ≡ exactly 4
unfolding payload_of payloads
payload_7 = refl

pub payload_5 : payload_of 5 ≡ fours
unfolding payload_of payloads
payload_5 = refl
