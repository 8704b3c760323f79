-- The key of a merge as code makes it from the kind and the sides in either order. Nothing here has to be believed.
use Rattle.std.specs.Prelude.{◌≡◌, refl, Bool, true, false, ℕ, ◌<◌, ◌≤◌, ◌+◌, ◌*◌, min, max}
use Rattle.std.proofs.Common.{arith}
use Rattle.std.proofs.Math.Nat.{min-eq_left, min-eq_right, max-eq_left, max-eq_right}
use mir.Val.{bool_byte}
use Rattle.work.proofs.CountedLaws.{by_sides}
use Rattle.work.proofs.KeptWords.{bit}
use Rattle.cache.specs.Cache.{key_of}

kind_bit : (m : Bool) → bool_byte m ≡ bit m
unfolding bit
kind_bit true = refl
kind_bit false = refl

pub kind_small : (m : Bool) → bool_byte m ≤ 1
kind_small true = omega arith
kind_small false = omega arith

pub sides_small : (a b : ℕ) → a < 512 → b < 512 → (min a b < 512) × (max a b < 512)
sides_small a b h k = by_sides (λ x y. (x < 512) × (y < 512)) a b (h, k) (k, h)

pub key_made : (m : Bool) (a b : ℕ) → a < 512 → b < 512 → ((bool_byte m * 512 + a) * 512 + b ≡ key_of m a b) × ((bool_byte m * 512 + a) * 512 + b < 524288)
key_made m a b h k = (rw (kind_bit m), omega (arith, kind_small m))

-- the sides in either order
pub key_in_order : (m : Bool) (a b : ℕ) → a ≤ b → key_of m a b ≡ key_of m (min a b) (max a b)
key_in_order m a b l = rw (min-eq_left l, max-eq_right l)

pub key_swapped : (m : Bool) (a b : ℕ) → b < a → key_of m b a ≡ key_of m (min a b) (max a b)
key_swapped m a b h = let l : b ≤ a = omega arith in rw (min-eq_right l, max-eq_left l)
