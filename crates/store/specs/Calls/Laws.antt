-- What is true of every call that goes through a list of checks: refused exactly when a check says so, and then with nothing changed;
-- accepted only if no check holds; and two outcomes that satisfy one contract are equal. Nothing here has to be believed.
use Rattle.std.specs.Prelude.{◌≡◌, refl, ◌↔◌, Bool, true, false, not, ◌&&◌, List, [], ◌∷◌, ℕ, ◌+◌, ◌-◌, ◌<◌, eqb, ltb, length}
use Rattle.std.proofs.Common.{sym, ap, ◌∙◌, arith, eq-eqb, ne_eqb, eqb-true, ltb-true}
use Rattle.std.proofs.lemmas.Bool.{eqb-false}
use Rattle.words.specs.Bools.{bool?, never_both, and_left, and_right}
use Rattle.words.specs.Numbers.{two, never}
use Rattle.layout.specs.Store.{Store, at}
use Rattle.layout.specs.Layout.{store_words, scratch_words, count as contexts}
use Rattle.layout.specs.Encode.{words_of}
use Rattle.layout.specs.Ceilings.{Fits}
use Rattle.encoding.specs.Decide.{sound, fits}
use Rattle.encoding.proofs.DecideLaws.{fits_true}
use Rattle.work.specs.Counted.{Outcome, refused as over}
use Rattle.work.proofs.CountedLaws.{is_too_much}
use Rattle.store.specs.Checks.{Check, unless, due}
use Rattle.store.specs.Checks.Laws.{Clear, absent, unless_first, unless_next, due_leaves, refused_due, clear_of, by_unless}
use Rattle.store.specs.Calls.{refused, context, Left, zeros, refusal, wrong_length, unsound_store, unknown_context, no_room, too_much_work, gives_after, Accepts}

-- ---- two outcomes that satisfy one contract are equal

pub determined {ℓ} : {A : Type ℓ} (x y z : A) → x ≡ z → y ≡ z → x ≡ y
determined x y z p q = cc

-- ---- a refusal

module _ (w z : List ℕ) (n : ℕ) where
  pub refusal_reply : (refusal w z n).reply ≡ refused n
  unfolding refusal
  refusal_reply = two n 2 (λ e. rw (eq-eqb n 2 e, refusal)) (λ d. rw (ne_eqb n 2 d, refusal))

  pub refusal_store : (refusal w z n).store ≡ w
  unfolding refusal
  refusal_store = two n 2 (λ e. rw (eq-eqb n 2 e, refusal)) (λ d. rw (ne_eqb n 2 d, refusal))

  pub refusal_made : (refusal w z n).made ≡ 0
  unfolding refusal
  refusal_made = two n 2 (λ e. rw (eq-eqb n 2 e, refusal)) (λ d. rw (ne_eqb n 2 d, refusal))

  pub refusal_scratch : (n ≡ 2 → (refusal w z n).scratch ≡ z) × ((n ≡ 2 → ⊥) → (refusal w z n).scratch ≡ zeros)
  unfolding refusal
  refusal_scratch = (λ e. rw (eq-eqb n 2 e, refusal), λ d. rw (ne_eqb n 2 d, refusal))

same_number : (n m : ℕ) → refused m ≡ refused n → m ≡ n
same_number n m e = cc

pub same_context : (a b : ℕ) → context a ≡ context b → a ≡ b
same_context a b e = cc

pub not_context : (n c : ℕ) → context c ≡ refused n → ⊥
not_context n c e = never (cc)

-- ---- a call whose answer, where it is not refused, is no refusal

module _ (w z : List ℕ) (cs : List Check) (go : Left) (answers : (n : ℕ) → go.reply ≡ refused n → ⊥) where
  -- the number n is given exactly when it is due: its reason holds and none earlier in the table
  pub refused_exactly : (n : ℕ) → ((unless cs (refusal w z) go).reply ≡ refused n) ↔ (due cs ≡ at n)
  refused_exactly n = (
    refused_due (refusal w z) go (λ k x. x.reply ≡ refused k) (λ k m g. same_number k m (sym (refusal_reply w z m) ∙ g)) answers n cs,
    λ d. ap (λ (x : Left). x.reply) (due_leaves (refusal w z) go n cs d) ∙ refusal_reply w z n,
  )

  -- and changes nothing
  pub refused_leaves : (n : ℕ) → (unless cs (refusal w z) go).reply ≡ refused n → unless cs (refusal w z) go ≡ refusal w z n
  refused_leaves n e = due_leaves (refusal w z) go n cs ((refused_exactly n).0 e)

-- ---- "Scratch: .. all 0 on return": over slices of the right lengths, refused or not

no_two : (w z : List ℕ) (cs : List Check) (go : Left) → absent 2 cs ≡ true → go.scratch ≡ zeros → (unless cs (refusal w z) go).scratch ≡ zeros
unfolding unless absent
no_two w z [] go a h = h
no_two w z (c ∷ cs) go a h =
    bool? c.holds
    (λ e.
    let n : eqb c.number 2 ≡ false = not_two (eqb c.number 2) (and_left _ _ a) in
    ap (λ (x : Left). x.scratch) (unless_first (refusal w z) go c cs e) ∙ (refusal_scratch w z c.number).1 (eqb-false c.number 2 n))
    (λ e. ap (λ (x : Left). x.scratch) (unless_next (refusal w z) go c cs e) ∙ no_two w z cs go (and_right (not (eqb c.number 2)) _ a) h)
  where
    not_two : (b : Bool) → not b ≡ true → b ≡ false
    not_two true e = sym e
    not_two false e = refl

pub zero_after : (w z : List ℕ) (cs : List Check) (go : Left) → length w ≡ store_words → length z ≡ scratch_words → absent 2 cs ≡ true → go.scratch ≡ zeros
    → (unless (wrong_length w z ∷ cs) (refusal w z) go).scratch ≡ zeros
zero_after w z cs go lw lz a h =
    let passed : (wrong_length w z).holds ≡ false = rw (eq-eqb (length w) store_words lw, eq-eqb (length z) scratch_words lz) in
    ap (λ (x : Left). x.scratch) (unless_next (refusal w z) go (wrong_length w z) cs passed) ∙ no_two w z cs go a h

-- ---- an accepted call

-- it has passed every check
passed_all : (w z : List ℕ) (cs : List Check) (n : ℕ) (s : Store) (x : ℕ × Store) (c : ℕ) (w' : List ℕ) → Accepts (unless cs (refusal w z) (gives_after n s x)) c w'
    → Clear cs × (unless cs (refusal w z) (gives_after n s x) ≡ gives_after n s x)
passed_all w z cs n s x c w' a =
    clear_of (refusal w z) (gives_after n s x) (λ m o. o.reply ≡ refused m) (refusal_reply w z) cs (λ m g. not_context m c (sym a.0 ∙ g))

-- the number and the words are those that it made
pub accepted : (w z : List ℕ) (cs : List Check) (n : ℕ) (s : Store) (x : ℕ × Store) (c : ℕ) (w' : List ℕ) → Accepts (unless cs (refusal w z) (gives_after n s x)) c w'
    → Clear cs × (x.0 ≡ c) × (words_of x.1 ≡ w')
accepted w z cs n s x c w' a =
    let k = passed_all w z cs n s x c w' a in
    (k.0, same_context x.0 c (ap (λ (o : Left). o.reply) (sym k.1) ∙ a.0), ap (λ (o : Left). o.store) (sym k.1) ∙ a.1)

-- and the merges those that it counted
pub accepted_merges : (w z : List ℕ) (cs : List Check) (n : ℕ) (s : Store) (x : ℕ × Store) (c : ℕ) (w' : List ℕ) → Accepts (unless cs (refusal w z) (gives_after n s x)) c w'
    → (unless cs (refusal w z) (gives_after n s x)).merges ≡ n
accepted_merges w z cs n s x c w' a = ap (λ (o : Left). o.merges) (passed_all w z cs n s x c w' a).1

-- and the contexts those that it made
pub accepted_made : (w z : List ℕ) (cs : List Check) (n : ℕ) (s : Store) (x : ℕ × Store) (c : ℕ) (w' : List ℕ) → Accepts (unless cs (refusal w z) (gives_after n s x)) c w'
    → (unless cs (refusal w z) (gives_after n s x)).made ≡ length x.1 - length s
accepted_made w z cs n s x c w' a = ap (λ (o : Left). o.made) (passed_all w z cs n s x c w' a).1

-- "how many contexts the call made: exactly the count after less the count before"; of a refused call too, which makes none
pub made_exactly : (w z : List ℕ) (cs : List Check) (n : ℕ) (s : Store) (x : ℕ × Store)
    → (Accepts (unless cs (refusal w z) (gives_after n s x)) x.0 (words_of x.1) → contexts w + (length x.1 - length s) ≡ contexts (words_of x.1))
    → contexts w + (unless cs (refusal w z) (gives_after n s x)).made ≡ contexts (unless cs (refusal w z) (gives_after n s x)).store
made_exactly w z cs n s x h =
    let call = unless cs (refusal w z) (gives_after n s x) in
    by_unless (refusal w z) (gives_after n s x) (λ (l : Left). call ≡ l → contexts w + l.made ≡ contexts l.store)
    (λ m e. rw (refusal_made w z m, refusal_store w z m) (omega arith))
    (λ e. h (ap (λ (l : Left). l.reply) e, ap (λ (l : Left). l.store) e))
    cs refl

-- "whether the context was found or made": found, and none made, exactly if its number was there before
pub found_exactly : (w w' : List ℕ) (c k : ℕ) → contexts w + k ≡ contexts w' → c < contexts w' → (c < contexts w → w' ≡ w) → (k ≡ 0) ↔ (c < contexts w)
found_exactly w w' c k f h there = (λ e. omega arith, λ l. omega (arith, ap contexts (there l)))

-- what a check that does not hold says
not_false : (b : Bool) → not b ≡ false → b ≡ true
not_false true e = refl
not_false false e = sym e

module _ (w z : List ℕ) where
  pub right_lengths : (wrong_length w z).holds ≡ false → (length w ≡ store_words) × (length z ≡ scratch_words)
  right_lengths e =
      let t = not_false _ e in
      (eqb-true (length w) store_words (and_left _ _ t), eqb-true (length z) scratch_words (and_right (eqb (length w) store_words) _ t))

  pub is_sound : (unsound_store w).holds ≡ false → sound w ≡ true
  is_sound e = not_false (sound w) e

  pub is_known : (c : ℕ) → (unknown_context w c).holds ≡ false → c < contexts w
  is_known c e = ltb-true c (contexts w) (not_false _ e)

  pub both_known : (a b : ℕ) → not (ltb a (contexts w) && ltb b (contexts w)) ≡ false → (a < contexts w) × (b < contexts w)
  both_known a b e =
      let t = not_false _ e in
      (ltb-true a (contexts w) (and_left _ _ t), ltb-true b (contexts w) (and_right (ltb a (contexts w)) _ t))

pub has_room : (s : Store) → (no_room s).holds ≡ false → Fits s
has_room s e = fits_true s (not_false (fits s) e)

pub little_work : (o : Outcome ℕ) → (too_much_work o).holds ≡ false → o ≡ over 12 → ⊥
little_work o e q = never_both (is_too_much o q) e
