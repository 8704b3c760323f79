-- To believe: the format of a script. "A record: payload length (u16), kind (u16), payload, little-endian."
pub mod Laws
use Rattle.std.specs.Prelude.{Bool, true, false, List, ℕ, ◌+◌, ◌-◌, ◌/◌, eqb, leb, ltb, length, get_or}
use Rattle.setcheck.specs.Config.{Config, config}
use Rattle.format.specs.Bytes.{u16_at, u32_at, u64_at, words_at}
use Rattle.format.specs.Payloads.{payload_of, accepts}

-- a record: a singleton's parent and state; a merge's two sides, and whether by wildcard; a new set, and whether it merges by wildcard;
-- the config that is added; the stop states; the verdict; the context that is shown; the set is closed; why the verdict is what it is
pub data Record : Type 0 where
  singleton : ℕ → ℕ → Record
  merge : ℕ → ℕ → Bool → Record
  new_set : Bool → Record
  add : Config → Record
  stops : List ℕ → Record
  verdict : Record
  show : ℕ → Record
  close : Record
  why : Record

-- what stands at a place: a record, and where the next one starts; the end; or what no record is
pub data Reading : Type 0 where
  found : Record → ℕ → Reading
  ended : Reading
  malformed : Reading

-- "Malformed is: cut short, an unknown kind, a wrong length, a mode above 1."
abbrev pub if_well : Bool → Reading → Reading
if_well true r = r
if_well false r = malformed

-- "mode byte 0 full, 1 wildcard"
abbrev pub in_mode : ℕ → (Bool → Record) → ℕ → Reading
in_mode m r e = if_well (leb m 1) (found (r (eqb m 1)) e)

-- "six words": a config that starts at p
unfoldable pub config_from : List ℕ → ℕ → Config
config_from s p = config (u32_at s p) (u32_at s (p + 4)) (u32_at s (p + 8)) (u32_at s (p + 12)) (u32_at s (p + 16)) (u32_at s (p + 20))

-- a record of this kind, or what else there is
abbrev pub if_kind : Bool → Reading → Reading → Reading
if_kind true r other = r
if_kind false r other = other

-- a payload of kind k that starts at p, where its length is right; the next record starts at e
unfoldable pub payload_at : List ℕ → ℕ → ℕ → ℕ → Reading
payload_at s k p e =
    if_kind (eqb k 1) (found (singleton (u32_at s p) (u64_at s (p + 4))) e)
    (if_kind (eqb k 2) (in_mode (get_or s (p + 8) 0) (merge (u32_at s p) (u32_at s (p + 4))) e)
    (if_kind (eqb k 3) (in_mode (get_or s p 0) new_set e)
    (if_kind (eqb k 4) (found (add (config_from s p)) e)
    (if_kind (eqb k 5) (found (stops (words_at s p ((e - p) / 4))) e)
    (if_kind (eqb k 6) (found verdict e)
    (if_kind (eqb k 7) (found (show (u32_at s p)) e)
    (if_kind (eqb k 8) (found close e)
    (if_kind (eqb k 9) (found why e)
    malformed))))))))

-- a record whose payload has n bytes and is of kind k; its header starts at i
unfoldable pub record_at : List ℕ → ℕ → ℕ → ℕ → Reading
record_at s i n k = if_well (leb (i + 4 + n) (length s)) (if_well (accepts (payload_of k) n) (payload_at s k (i + 4) (i + 4 + n)))

-- what stands at the place i
unfoldable pub read_at : List ℕ → ℕ → Reading
read_at s i =
    elim (ltb i (length s)) [
      | true ↦ if_well (leb (i + 4) (length s)) (record_at s i (u16_at s i) (u16_at s (i + 2)))
      | false ↦ ended
    ]
