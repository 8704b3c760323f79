-- The format, decided test by test: what the code finds at each way out. Nothing here has to be believed.
use Rattle.std.specs.Prelude.{◌≡◌, Bool, true, false, List, ℕ, ◌+◌, ◌-◌, ◌/◌, ◌<◌, ◌≤◌, eqb, leb, length, get_or}
use Rattle.std.proofs.Math.Path.{refl}
use Rattle.std.proofs.Common.{arith, lt-ltb, le-ltb, leb-true, le-leb, ne_eqb}
use Rattle.std.proofs.lemmas.Bool.{lt-leb}
use Rattle.format.specs.Bytes.{u16_at, u32_at, u64_at, words_at}
use Rattle.format.specs.Payloads.{payload_of, accepts}
use Rattle.format.specs.Payloads.Laws.{payload_1, payload_2, payload_3, payload_4, payload_5, payload_7}
use Rattle.words.specs.Numbers.{below?}
use Rattle.format.specs.Format.{Record, singleton, merge, new_set, add, stops, verdict, show, close, why, Reading, found, ended, malformed}
use Rattle.format.specs.Format.{if_well, config_from, if_kind, payload_at, record_at, read_at}

-- ---- a payload, by its kind

module _ (s : List ℕ) (p e : ℕ) where
  pub payload_singleton : payload_at s 1 p e ≡ found (singleton (u32_at s p) (u64_at s (p + 4))) e
  unfolding payload_at
  payload_singleton = refl

  pub merge_mode : 1 < get_or s (p + 8) 0 → payload_at s 2 p e ≡ malformed
  unfolding payload_at
  merge_mode h = rw (lt-leb (get_or s (p + 8) 0) 1 h)

  pub payload_merge : get_or s (p + 8) 0 ≤ 1 → payload_at s 2 p e ≡ found (merge (u32_at s p) (u32_at s (p + 4)) (eqb (get_or s (p + 8) 0) 1)) e
  unfolding payload_at
  payload_merge h = rw (le-leb (get_or s (p + 8) 0) 1 h)

  pub new_mode : 1 < get_or s p 0 → payload_at s 3 p e ≡ malformed
  unfolding payload_at
  new_mode h = rw (lt-leb (get_or s p 0) 1 h)

  pub payload_new : get_or s p 0 ≤ 1 → payload_at s 3 p e ≡ found (new_set (eqb (get_or s p 0) 1)) e
  unfolding payload_at
  payload_new h = rw (le-leb (get_or s p 0) 1 h)

  pub payload_add : payload_at s 4 p e ≡ found (add (config_from s p)) e
  unfolding payload_at
  payload_add = refl

  pub payload_stops : payload_at s 5 p e ≡ found (stops (words_at s p ((e - p) / 4))) e
  unfolding payload_at
  payload_stops = refl

  pub payload_verdict : payload_at s 6 p e ≡ found verdict e
  unfolding payload_at
  payload_verdict = refl

  pub payload_show : payload_at s 7 p e ≡ found (show (u32_at s p)) e
  unfolding payload_at
  payload_show = refl

  pub payload_close : payload_at s 8 p e ≡ found close e
  unfolding payload_at
  payload_close = refl

  pub payload_why : payload_at s 9 p e ≡ found why e
  unfolding payload_at
  payload_why = refl

-- none of the kinds
pub payload_other : (s : List ℕ) (k p e : ℕ) → (k ≡ 1 → ⊥) → (k ≡ 2 → ⊥) → (k ≡ 7 → ⊥) → (k ≡ 3 → ⊥) → (k ≡ 4 → ⊥) → (k ≡ 5 → ⊥)
    → (k ≡ 6 → ⊥) → (k ≡ 8 → ⊥) → (k ≡ 9 → ⊥) → payload_at s k p e ≡ malformed
unfolding payload_at
payload_other s k p e a b c d f g h i j =
    rw (ne_eqb k 1 a, ne_eqb k 2 b, ne_eqb k 3 d, ne_eqb k 4 f, ne_eqb k 5 g, ne_eqb k 6 h, ne_eqb k 7 c, ne_eqb k 8 i, ne_eqb k 9 j)

-- a payload, by its kind and its mode
pub ruleset payload_laws = (payload_singleton, merge_mode, payload_merge, new_mode, payload_new, payload_add, payload_stops, payload_verdict, payload_show, payload_close, payload_why, payload_other, payload_1, payload_2, payload_3, payload_4, payload_5, payload_7)

-- ---- a record, by its header

module _ (s : List ℕ) (i n k : ℕ) where
  pub record_short : length s < i + 4 + n → record_at s i n k ≡ malformed
  unfolding record_at
  record_short h = rw (lt-leb (i + 4 + n) (length s) h)

  pub record_wrong : i + 4 + n ≤ length s → accepts (payload_of k) n ≡ false → record_at s i n k ≡ malformed
  unfolding record_at
  record_wrong h e = rw (le-leb (i + 4 + n) (length s) h, e)

  pub record_right : i + 4 + n ≤ length s → accepts (payload_of k) n ≡ true → record_at s i n k ≡ payload_at s k (i + 4) (i + 4 + n)
  unfolding record_at
  record_right h e = rw (le-leb (i + 4 + n) (length s) h, e)

pub ruleset record_laws = (record_short, record_wrong, record_right)

-- ---- a place

module _ (s : List ℕ) (i : ℕ) where
  pub read_end : length s ≤ i → read_at s i ≡ ended
  unfolding read_at
  read_end h = rw (le-ltb i (length s) h, read_at)

  pub read_short : i < length s → length s < i + 4 → read_at s i ≡ malformed
  unfolding read_at
  read_short h l = rw (lt-ltb i (length s) h, read_at) (rw (lt-leb (i + 4) (length s) l))

  pub read_header : i + 4 ≤ length s → read_at s i ≡ record_at s i (u16_at s i) (u16_at s (i + 2))
  unfolding read_at
  read_header h = rw (lt-ltb i (length s) (omega arith), read_at) (rw (le-leb (i + 4) (length s) h))

pub ruleset place_laws = (read_end, read_short, read_header)

-- ---- a record that was found ends within the script, past its start

-- a record, if there is one, goes on at a place of which P holds
abbrev Onward : (ℕ → Type 0) → Reading → Type 0
Onward P (found x j) = P j
Onward P ended = Unit {0}
Onward P malformed = Unit {0}

onward_well : (P : ℕ → Type 0) (b : Bool) (r : Reading) → (b ≡ true → Onward P r) → Onward P (if_well b r)
onward_well P true r h = h refl
onward_well P false r h = tt

onward_kind : (P : ℕ → Type 0) (b : Bool) (r other : Reading) → Onward P r → Onward P other → Onward P (if_kind b r other)
onward_kind P true r other h l = h
onward_kind P false r other h l = l

payload_onward : (P : ℕ → Type 0) (s : List ℕ) (k p e : ℕ) → P e → Onward P (payload_at s k p e)
unfolding payload_at
payload_onward P s k p e h =
    onward_kind P (eqb k 1) _ _ h
    (onward_kind P (eqb k 2) _ _ (onward_well P (leb (get_or s (p + 8) 0) 1) _ (λ _. h))
    (onward_kind P (eqb k 3) _ _ (onward_well P (leb (get_or s p 0) 1) _ (λ _. h))
    (onward_kind P (eqb k 4) _ _ h
    (onward_kind P (eqb k 5) _ _ h
    (onward_kind P (eqb k 6) _ _ h
    (onward_kind P (eqb k 7) _ _ h
    (onward_kind P (eqb k 8) _ _ h
    (onward_kind P (eqb k 9) _ _ h
    tt))))))))

-- past the place i, and within the script s
abbrev Past : List ℕ → ℕ → ℕ → Type 0
Past s i j = (i < j) × (j ≤ length s)

record_onward : (s : List ℕ) (i n k : ℕ) → Onward (Past s i) (record_at s i n k)
unfolding record_at
record_onward s i n k =
    onward_well (Past s i) (leb (i + 4 + n) (length s)) _ λ l.
    onward_well (Past s i) (accepts (payload_of k) n) _ λ _.
    payload_onward (Past s i) s k (i + 4) (i + 4 + n) (omega arith, leb-true (i + 4 + n) (length s) l)

read_onward : (s : List ℕ) (i : ℕ) → Onward (Past s i) (read_at s i)
unfolding read_at
read_onward s i =
    below? i (length s)
    (λ a. rw (lt-ltb i (length s) a, read_at) (onward_well (Past s i) (leb (i + 4) (length s)) _ (λ _. record_onward s i (u16_at s i) (u16_at s (i + 2)))))
    (λ a. rw (read_end s i a) tt)

pub read_forward : (s : List ℕ) (i : ℕ) (x : Record) (j : ℕ) → read_at s i ≡ found x j → (i < j) × (j ≤ length s)
read_forward s i x j q = rw q at (read_onward s i)
