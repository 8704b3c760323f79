-- A walk through a sample, one script and its answer at a time. Nothing here has to be believed.
use Rattle.std.specs.Prelude.{◌≡◌, List, ℕ, ◌+◌, ◌≤◌, ◌<◌, length}
use Rattle.std.proofs.Common.{arith}
use Rattle.replay.specs.Sample.{part_of, PartAt, Differs, same, other, From, done, more}

-- a part's place is determined
part_end : (s : List ℕ) (at i j k l : ℕ) → PartAt s at i j → PartAt s at k l → j ≡ l
part_end s at i j k l p q = omega (arith, p.start, p.end, q.start, q.end)

-- up to the place `at` n scripts were walked, d of them with another answer: what is counted from there on adds to them, and whoever counts
-- from the start comes by here
pub record Walked (s : List ℕ) (at n d : ℕ) : Type 0 where
  pub inside : at ≤ length s
  pub few : (n ≤ at) × (d ≤ n)
  pub forth : (m f : ℕ) → From s at m f → From s 0 (n + m) (d + f)
  pub back : (m f : ℕ) → From s 0 m f → (g : ℕ) × (h : ℕ) × From s at g h

pub walked_none : (s : List ℕ) → Walked s 0 0 0
walked_none s = record {
  inside = omega arith;
  few = (omega arith, omega arith);
  forth = λ m f x. let a : 0 + m ≡ m = omega arith in let b : 0 + f ≡ f = omega arith in rw (a, b) x;
  back = λ m f x. (m, f, x);
}

-- the only way on from a place that has a script and its answer
on : (s : List ℕ) (at i j k l g h : ℕ) → PartAt s at i j → PartAt s j k l → From s at g h → (m : ℕ) × (f : ℕ) × From s l m f
on s at i j k l g h p q (done x e) = absurd (omega (arith, p.start, p.end, p.within))
on s at i j k l g h p q (more x i' j' k' l' n d e p' q' t y) =
    let a : j' ≡ j = part_end s at i' j' i j p' p in
    let b : l' ≡ l = part_end s j k' l' k l (rw a at q') q in
    (n, d, rw b at y)

pub walked_more : (s : List ℕ) (at n d i j k l e : ℕ) → Walked s at n d → PartAt s at i j → PartAt s j k l → Differs (part_of s i j) (part_of s k l) e
    → e ≤ 1 → Walked s l (n + 1) (d + e)
walked_more s at n d i j k l e v p q t h = record {
  inside = q.within;
  few = (omega (arith, v.few.0, p.start, p.end, q.start, q.end), omega (arith, v.few.1));
  forth = λ m f x.
      let a : n + 1 + m ≡ n + (m + 1) = omega arith in
      let b : d + e + f ≡ d + (f + e) = omega arith in
      rw (a, b) (v.forth (m + 1) (f + e) (more at i j k l m f e p q t x));
  back = λ m f x. let y = v.back m f x in on s at i j k l y.0 y.1 p q y.2;
}

pub walked_end : (s : List ℕ) (at n d : ℕ) → Walked s at n d → length s ≤ at → From s 0 n d
walked_end s at n d v h =
    let a : n + 0 ≡ n = omega arith in
    let b : d + 0 ≡ d = omega arith in
    rw (a, b) at (v.forth 0 0 (done at (omega (arith, v.inside))))

-- ---- a sample that is cut short

no_script : (s : List ℕ) (at g h : ℕ) → at < length s → ((i j : ℕ) → PartAt s at i j → ⊥) → From s at g h → ⊥
no_script s at g h l x (done a e) = omega arith
no_script s at g h l x (more a i j k o n d e p q t y) = x i j p

pub cut_script : (s : List ℕ) (at n d : ℕ) → Walked s at n d → at < length s → ((i j : ℕ) → PartAt s at i j → ⊥) → (m f : ℕ) → From s 0 m f → ⊥
cut_script s at n d v l x m f y = let o = v.back m f y in no_script s at o.0 o.1 l x o.2

no_answer : (s : List ℕ) (at i j g h : ℕ) → PartAt s at i j → ((k l : ℕ) → PartAt s j k l → ⊥) → From s at g h → ⊥
no_answer s at i j g h p x (done a e) = omega (arith, p.start, p.end, p.within)
no_answer s at i j g h p x (more a i' j' k l n d e p' q t y) =
    x k l (rw (part_end s at i' j' i j p' p) at q)

pub cut_answer : (s : List ℕ) (at n d i j : ℕ) → Walked s at n d → PartAt s at i j → ((k l : ℕ) → PartAt s j k l → ⊥) → (m f : ℕ) → From s 0 m f → ⊥
cut_answer s at n d i j v p x m f y = let o = v.back m f y in no_answer s at i j o.0 o.1 p x o.2

-- ---- what the code answers

pub one_at_most : (script answer : List ℕ) (e : ℕ) → Differs script answer e → e ≤ 1
one_at_most script answer e (same p) = omega arith
one_at_most script answer e (other p) = omega arith
