-- A sample of scripts with their answers, and what is counted in it: "its length (u32), its bytes, the length of its answer (u32),
-- the answer's bytes; all little-endian, one after the other, to the end of the file". Nothing here has to be believed: the program is a test.
pub mod Laws
use Rattle.std.specs.Prelude.{◌≡◌, List, ℕ, ◌+◌, ◌-◌, ◌≤◌, length, take, drop, Option, Some, None}
use Rattle.format.specs.Bytes.{u32_at}
use Rattle.script.specs.Steps.{script_replies}
use Rattle.replay.specs.declared.sample.Tally.{Tally}

-- bytes of a sample, at most
abbrev pub sample_bytes : ℕ
sample_bytes = 1048576

-- the bytes from place i up to, not including, place j
abbrev pub part_of : List ℕ → ℕ → ℕ → List ℕ
part_of s i j = take (j - i) (drop i s)

-- a part stands from i to j; its length stands at the place at
pub record PartAt (s : List ℕ) (at i j : ℕ) : Type 0 where
  pub start : i ≡ at + 4
  pub end : j ≡ i + u32_at s at
  pub within : j ≤ length s

abbrev pub PartIs : List ℕ → ℕ → Option (ℕ × ℕ) → Type 0
PartIs s at (Some p) = PartAt s at p.0 p.1
PartIs s at None = (i j : ℕ) → PartAt s at i j → ⊥

-- d is 0 where the script gives the answer, and 1 where it gives another
pub data Differs (script answer : List ℕ) : ℕ → Type 0 where
  same : answer ≡ script_replies script → Differs script answer 0
  other : (answer ≡ script_replies script → ⊥) → Differs script answer 1

-- from a place on, to the end of the sample, there are so many scripts, of which so many give another answer
pub data From (s : List ℕ) : ℕ → ℕ → ℕ → Type 0 where
  done : (at : ℕ) → at ≡ length s → From s at 0 0
  more : (at i j k l n d e : ℕ) → PartAt s at i j → PartAt s j k l → Differs (part_of s i j) (part_of s k l) e → From s l n d
      → From s at (n + 1) (d + e)

-- the sample is whole, with these counts; or it ends within a script or an answer
abbrev pub Tallied : List ℕ → Option Tally → Type 0
Tallied s (Some t) = From s 0 t.scripts t.differences
Tallied s None = (n d : ℕ) → From s 0 n d → ⊥
