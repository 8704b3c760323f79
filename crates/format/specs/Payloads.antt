-- To believe: the payload that each kind of record must have.
pub mod Laws
use Rattle.std.specs.Prelude.{Bool, false, List, [], ◌∷◌, ℕ, ◌%◌, eqb, get_or}

-- what a payload must be
pub data Payload : Type 0 where
  exactly : ℕ → Payload
  fours : Payload
  none : Payload

-- "Kinds and lengths: 1 singleton 12; 2 merge 9; 3 new set 1; 4 add 24; 5 stop states, a multiple of 4; 6 verdict 0; 7 show 4; 8 close 0"; and
-- "(kind 9, no payload)" (request A6); there is no kind 0
unfoldable pub payloads : List Payload
payloads = none ∷ exactly 12 ∷ exactly 9 ∷ exactly 1 ∷ exactly 24 ∷ fours ∷ exactly 0 ∷ exactly 4 ∷ exactly 0 ∷ exactly 0 ∷ []

unfoldable pub payload_of : ℕ → Payload
payload_of k = get_or payloads k none

-- may a record have n bytes of payload
unfoldable pub accepts : Payload → ℕ → Bool
accepts (exactly m) n = eqb n m
accepts fours n = eqb (n % 4) 0
accepts none n = false
