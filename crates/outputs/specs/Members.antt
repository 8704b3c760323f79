-- The alternatives of one subset, collected along its configs. Nothing here has to be believed.
use Rattle.std.specs.Prelude.{◌≡◌, refl, Bool, true, false, get_or, take}
use Rattle.std.proofs.Common.{sym, ◌∙◌}
use Rattle.std.proofs.Math.Path.{ap}
use mathlib.Core.List.{List, [], ◌++◌}
use Prim.Native.Nat.{ℕ, zero, suc, ◌<◌, ◌≤◌, ◌+◌, ◌-◌}
use native.Mathlib.Omega.{arith}
use Rattle.std.proofs.Math.ListN.{length, length-append}
use Rattle.std.proofs.Math.Seq.{length-take-le}
use Rattle.words.specs.Numbers.{two}
use Rattle.groups.specs.Config.{Config}
use Rattle.groups.specs.Layout.{config_at, config_count}
use Rattle.words.specs.Bools.{bool?, is_false, never_both}
use Rattle.groups.specs.Words.{configs_in}
use Rattle.groups.specs.Lists.{which}
use Rattle.groups.specs.Groups.{insert, rising, alts_of, together, subset}
use Rattle.groups.proofs.Firsts.{together_kind}
use Rattle.groups.proofs.Rising.{insert_least, alts_rise}
use Rattle.groups.proofs.Last.{last_yes, last_no, alts_last}
use Rattle.grouping.specs.Alike.{alike_at}
use Rattle.grouping.specs.Ways.{same_places}
use Rattle.grouping.specs.Leads.{FirstAlike, Next, Follows}
use Rattle.grouping.specs.Clash.{configs_of, alt_at}
use Rattle.grouping.specs.Led.{leaders_at, members_at, Led}
use Rattle.grouping.specs.declared.inner.traits.Alike.TheVariants.{Place}
use Rattle.outputs.specs.Outputs.{padded}
use Rattle.outputs.specs.Outputs.Laws.{padded_length}
use Rattle.outputs.specs.Insert.{row_with, Row, Inserted}
use Rattle.outputs.specs.Rows.{row, row_inserted}

-- config j is in the subset of config i
abbrev pub joins : List ℕ → ℕ → ℕ → Bool
joins v i j = together (config_at v i) (config_at v j)

pub joins_alike : (v : List ℕ) (i j : ℕ) → alike_at v Place i j ≡ joins v i j
joins_alike v i j = ap (λ (k : Config → Config → Bool). k (config_at v i) (config_at v j)) same_places

-- the alternatives that the first m configs bring to the subset of config i
abbrev pub brought : List ℕ → ℕ → ℕ → List ℕ
brought v i m = alts_of (which (together (config_at v i)) (configs_in v m))

module _ (v : List ℕ) (i : ℕ) where
  pub brought_yes : (m : ℕ) → joins v i m ≡ true → brought v i (suc m) ≡ insert (alt_at v m) (brought v i m)
  unfolding configs_in
  brought_yes m e =
      ap alts_of (last_yes (together (config_at v i)) (config_at v m) e (configs_in v m)) ∙ alts_last (which (together (config_at v i)) (configs_in v m)) (config_at v m)

  brought_no : (m : ℕ) → joins v i m ≡ false → brought v i (suc m) ≡ brought v i m
  unfolding configs_in
  brought_no m e = ap alts_of (last_no (together (config_at v i)) (config_at v m) e (configs_in v m))

  -- configs of other subsets bring nothing
  brought_skip : (a b : ℕ) → a ≤ b → ((k : ℕ) → a ≤ k → k < b → joins v i k ≡ false) → brought v i b ≡ brought v i a
  brought_skip a zero h f = let e : a ≡ 0 = omega arith in rw e refl
  brought_skip a (suc b) h f =
      two a (suc b)
      (λ e. rw e refl)
      (λ d. brought_no b (f b (omega arith) (omega arith)) ∙ brought_skip a b (omega arith) (λ k p q. f k p (omega arith)))

  -- and none takes any away
  brought_grow : (a b : ℕ) → a ≤ b → length (brought v i a) ≤ length (brought v i b)
  brought_grow a zero h = let e : a ≡ 0 = omega arith in rw e (omega arith)
  brought_grow a (suc b) h =
      two a (suc b)
      (λ e. rw e (omega arith))
      (λ d.
      let ih = brought_grow a b (omega arith) in
      bool? (joins v i b)
      (λ e. omega (arith, ih, ap length (brought_yes b e), insert_least (alt_at v b) (brought v i b)))
      (λ e. omega (arith, ih, ap length (brought_no b e))))

-- all alternatives of the subset
abbrev pub alts_at : List ℕ → ℕ → List ℕ
alts_at v i = (subset (configs_of v) (config_at v i)).alternatives

brought_all : (v : List ℕ) (i : ℕ) → brought v i (config_count v) ≡ alts_at v i
unfolding subset
brought_all v i = refl

-- ---- the walk

-- config i is the first of its subset, and from place f on there are zeros, with room for its alternatives
pub record Roomy (v z : List ℕ) (i f : ℕ) (o : List ℕ) : Type 0 where
  pub led : Led v Place (config_count v) z
  pub here : i < config_count v
  pub first : get_or z (leaders_at + i) 0 ≡ i
  pub fits : f + length (alts_at v i) ≤ length o
  pub rest : o ≡ row_with o f []

-- how many configs are done where `next` is the number of the next one, plus 1
unfoldable pub done_to : ℕ → ℕ → ℕ
done_to n zero = n
done_to n (suc m) = m

-- how many are left
unfoldable pub left_at : ℕ → ℕ → ℕ
left_at n zero = 0
left_at n (suc m) = n - m

left_none : (n : ℕ) → left_at n 0 ≡ 0
unfolding left_at
left_none n = refl

left_some : (n m : ℕ) → left_at n (suc m) ≡ n - m
unfolding left_at
left_some n m = refl

-- count alternatives are written; o₀ the words before, o now
pub record Collecting (v : List ℕ) (i f next count : ℕ) (o₀ o : List ℕ) : Type 0 where
  pub words : o ≡ row_with o₀ f (brought v i (done_to (config_count v) next))
  pub counted : count ≡ length (brought v i (done_to (config_count v) next))
  pub known : (m : ℕ) → next ≡ suc m → (joins v i m ≡ true) × (m < config_count v)

module _ {v z : List ℕ} {i f : ℕ} {o : List ℕ} (r : Roomy v z i f o) where
  none_before : brought v i i ≡ []
  unfolding configs_in which alts_of rising
  none_before =
      let l : FirstAlike (alike_at v Place) i i = rw r.first at (r.led.leads i r.here) in
      brought_skip v i 0 i (omega arith) (λ k p q.
      is_false (joins v i k) (λ e. never_both (joins_alike v k i ∙ together_kind.swap (config_at v i) (config_at v k) e) (l.first k q)))

  pub collect_begin : Collecting v i f (i + 1) 0 o o
  unfolding done_to
  collect_begin =
      let s : i + 1 ≡ suc i = omega arith in
      rw s (record {
        words = r.rest ∙ ap (row_with o f) (sym none_before);
        counted = ap length (sym none_before);
        known = λ m e. let q : i ≡ m = omega arith in rw (← q) (together_kind.self (config_at v i), r.here);
      })

  pub collect_end : (next count : ℕ) (u : List ℕ) → Collecting v i f next count o u → next ≡ 0 → (count ≡ length (alts_at v i)) × (u ≡ row_with o f (alts_at v i))
  unfolding done_to
  collect_end next count u w e = let x = rw e at w in (x.counted ∙ ap length (brought_all v i), x.words ∙ ap (row_with o f) (brought_all v i))

  pub collect_length : {next count : ℕ} {u : List ℕ} → Collecting v i f next count o u → next ≡ 0 → length u ≡ length o
  unfolding row_with
  collect_length {next} {count} {u} w e =
      ap length (collect_end next count u w e).1
      ∙ padded_length (length o) (take f o ++ alts_at v i) (omega (arith, length-append (take f o) (alts_at v i), length-take-le f o (omega (arith, r.fits)), r.fits))

  module _ {next count : ℕ} {u : List ℕ} (w : Collecting v i f next count o u) (d : next ≡ 0 → ⊥) where
    abbrev m : ℕ
    m = next - 1

    is : next ≡ suc m
    is = omega arith

    pub here : (joins v i m ≡ true) × (m < config_count v)
    here = w.known m is

    done : done_to (config_count v) next ≡ m
    unfolding done_to
    done = ap (done_to (config_count v)) is

    abbrev xs : List ℕ
    xs = brought v i m

    more : length (insert (alt_at v m) xs) ≤ length (alts_at v i)
    more =
        omega (arith, ap length (brought_yes v i m here.0), brought_grow v i (suc m) (config_count v) here.1, ap length (brought_all v i))

    fitting : f + length xs ≤ length o
    fitting = omega (arith, insert_least (alt_at v m) xs, more, r.fits)

    words_now : u ≡ padded (length o) (take f o ++ xs)
    unfolding row_with
    words_now = w.words ∙ ap (λ (k : ℕ). row_with o f (brought v i k)) done

    count_now : length xs ≡ count
    count_now = sym (w.counted ∙ ap (λ (k : ℕ). length (brought v i k)) done)

    front : length (take f o) ≡ f
    front = length-take-le f o (omega (arith, r.fits))

    pub collect_asks : (a : ℕ) → a ≡ alt_at v m → Row u f count a
    collect_asks a e =
        rw (e, words_now) (row (length o) (take f o) xs f front fitting (alts_rise (which (together (config_at v i)) (configs_in v m))) (alt_at v m)
        (omega (arith, more, r.fits)) count count_now)

    collect_added : (a : ℕ) → a ≡ alt_at v m → (k : ℕ) (y : List ℕ) → Inserted u f count a k y
        → (k ≡ length (brought v i (suc m))) × (y ≡ row_with o f (brought v i (suc m)))
    unfolding row_with
    collect_added a e k y q =
        let b = brought_yes v i m here.0 in
        let s = row_inserted (length o) (take f o) xs f front fitting (alts_rise (which (together (config_at v i)) (configs_in v m))) (alt_at v m)
        (omega (arith, more, r.fits)) count count_now k y (rw (e, words_now) at q) in
        (s.0 ∙ ap length (sym b), s.1 ∙ ap (λ (l : List ℕ). padded (length o) (take f o ++ l)) (sym b))

    -- what the next of config m says
    after : Next (alike_at v Place) (config_count v) m (get_or z (members_at + m) 0)
    after = r.led.nexts m here.1

    apart : (k : ℕ) → alike_at v Place m k ≡ false → joins v i k ≡ false
    apart k e =
        let back = together_kind.swap (config_at v i) (config_at v m) here.0 in
        is_false (joins v i k) (λ q. never_both (joins_alike v m k ∙ together_kind.next (config_at v m) (config_at v i) (config_at v k) back q) e)

    module _ (a : ℕ) (e : a ≡ alt_at v m) (k : ℕ) (y : List ℕ) (q : Inserted u f count a k y) where
      collect_none : get_or z (members_at + m) 0 ≡ 0 → Collecting v i f 0 k o y
      unfolding done_to
      collect_none g =
          let s = collect_added a e k y q in
          let b : brought v i (config_count v) ≡ brought v i (suc m) = brought_skip v i (suc m) (config_count v) here.1 (λ j p l. apart j (after.none g j p l)) in
          record {
            words = s.1 ∙ ap (row_with o f) (sym b);
            counted = s.0 ∙ ap length (sym b);
            known = λ j p. absurd (omega arith);
          }

      collect_some : (j : ℕ) → get_or z (members_at + m) 0 ≡ suc j → Collecting v i f (suc j) k o y
      unfolding done_to
      collect_some j g =
          let s = collect_added a e k y q in
          let t : Follows (alike_at v Place) (config_count v) m j = after.some j g in
          let b : brought v i j ≡ brought v i (suc m) = brought_skip v i (suc m) j t.later (λ k p l. apart k (t.skips k p l)) in
          record {
            words = s.1 ∙ ap (row_with o f) (sym b);
            counted = s.0 ∙ ap length (sym b);
            known = λ l p.
                let x : j ≡ l = omega arith in
                rw (← x) (together_kind.next (config_at v i) (config_at v m) (config_at v j) here.0 (sym (joins_alike v m j) ∙ t.same), t.within);
          }

      -- one turn: the next config, and fewer are left
      pub collect_next : Collecting v i f (get_or z (members_at + m) 0) k o y × (left_at (config_count v) (get_or z (members_at + m) 0) < left_at (config_count v) next)
      collect_next =
          two (get_or z (members_at + m) 0) 0
          (λ g. (rw g (collect_none g), omega (arith, ap (left_at (config_count v)) g, left_none (config_count v), now_left, here.1)))
          (λ g.
          let j : ℕ = get_or z (members_at + m) 0 - 1 in
          let g' : get_or z (members_at + m) 0 ≡ suc j = omega arith in
          let t : Follows (alike_at v Place) (config_count v) m j = after.some j g' in
          (rw g' (collect_some j g'), omega (arith, ap (left_at (config_count v)) g', left_some (config_count v) j, now_left, t.later, t.within)))
        where
          now_left : left_at (config_count v) next ≡ config_count v - m
          now_left = ap (left_at (config_count v)) is ∙ left_some (config_count v) m
