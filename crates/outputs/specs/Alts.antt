-- The conflicting alternatives, written config by config. Nothing here has to be believed.
use Rattle.std.specs.Prelude.{◌≡◌, refl, ◌↔◌, Bool, ◌&&◌, not, ℕ, suc, ◌<◌, ◌≤◌, ◌+◌, eqb, set, replicate}
use Rattle.std.proofs.Common.{sym, ap₂, ◌∙◌, arith, add-one, ne_eqb}
use Rattle.std.proofs.Math.Path.{ap}
use Rattle.std.proofs.Math.Bool.{true, false}
use mathlib.Core.List.{List, [], ◌∷◌}
use Rattle.std.proofs.Math.ListN.{length}
use Rattle.std.proofs.lemmas.Bool.{eqb-false, not-true}
use Rattle.groups.specs.LayoutLayout.{scratch_words, blank}
use Rattle.groups.specs.Config.{Config}
use Rattle.groups.specs.Layout.{most_configs, config_at, config_count}
use Rattle.groups.specs.SetsLists.{any}
use Rattle.words.specs.Bools.{bool?, bool_iff, both_true, and_left, and_right}
use Rattle.groups.specs.Words.{configs_in}
use Rattle.groups.specs.Listed.{configs_length}
use Rattle.groups.specs.Lists.{In, which}
use Rattle.groups.specs.Lists.Tests.{any_exact}
use Rattle.groups.specs.Groups.{insert, rising, alts_of, subset}
use Rattle.groups.specs.Answers.{many, conflicting_alts}
use Rattle.groups.proofs.Rising.{insert_most, alts_rise, alts_most}
use Rattle.groups.proofs.Rules.{Beside}
use Rattle.groups.proofs.Parts.{which_both}
use Rattle.groups.proofs.Last.{last_yes, last_no, alts_last}
use Rattle.groups.proofs.Conflicts.{Rival, rival_many, many_rival, many_exact, conflicting_configs}
use Rattle.grouping.specs.Alike.{alike_of}
use Rattle.grouping.specs.Places.{place_some}
use Rattle.grouping.specs.Ways.{place_true, true_place}
use Rattle.grouping.specs.Clash.{configs_of, alt_at}
use Rattle.grouping.specs.Led.{Led}
use Rattle.grouping.specs.Marks.{picks, leader_at, mark_at, Markable, Marked}
use Rattle.grouping.specs.Marks.Laws.{markable, marked_able, mark_tells}
use Rattle.grouping.specs.declared.inner.traits.Alike.TheVariants.{Place}
use Rattle.grouping.specs.declared.inner.marks.Picks.TheVariants.{Rivals}
use Rattle.outputs.specs.Outputs.{alts_length, padded, alts_words}
use Rattle.outputs.specs.Outputs.Laws.{padded_length}
use Rattle.outputs.specs.Insert.{Row, Inserted}
use Rattle.outputs.specs.Rows.{padded_over, row, row_inserted}

-- config i is in a subset with two or more alternatives
abbrev pub conflicts : List ℕ → Config → Bool
conflicts v c = many (subset (configs_of v) c)

-- the mark of its first one tells whether a config is
pub record Telling (v z : List ℕ) : Type 0 where
  pub able : Markable v z
  pub tells : (i : ℕ) → i < config_count v → not (eqb (mark_at z (leader_at z i)) 0) ≡ conflicts v (config_at v i)

-- where the leader of the config at a place stands, and what is told of it
pub leader_within : {v z : List ℕ} → Telling v z → (m : ℕ) → m < config_count v → (m < most_configs) × (leader_at z m ≤ m) × (length z ≡ scratch_words)
leader_within t m h = (omega (arith, t.able.words.few), t.able.early m h, t.able.words.lent)

-- an alternative put in, if it is to be
unfoldable pub insert_if : Bool → ℕ → List ℕ → List ℕ
insert_if b a xs = elim b [ true ↦ insert a xs | false ↦ xs ]

-- what that leaves: k is how many words there are then, u the words
abbrev pub AddedIf : Bool → List ℕ → ℕ → ℕ → ℕ → ℕ → List ℕ → Type 0
AddedIf true o f n a k u = Inserted o f n a k u
AddedIf false o f n a k u = (k ≡ n) × (u ≡ o)

-- ---- what the marks tell

module _ (v : List ℕ) (i : ℕ) (h : i < config_count v) where
  abbrev c : Config
  c = config_at v i

  picked_rival : (any (λ d. alike_of Place c d && picks Rivals c d) (configs_of v) ≡ true) ↔ Rival (configs_of v) c
  picked_rival =
      any_exact (λ d. alike_of Place c d && picks Rivals c d) (λ d. Beside c d × (d.alternative ≡ c.alternative → ⊥)) (configs_of v) (λ d. (
        λ e. (place_true c d (and_left _ _ e), eqb-false d.alternative c.alternative (not-true _ (and_right (alike_of Place c d) _ e))),
        λ p. both_true _ _ (true_place c d p.0) (rw (ne_eqb d.alternative c.alternative p.1)),
      ))

  there : In c (configs_of v)
  there = place_some v (λ d. d ≡ c) (config_count v) i h refl

  conflicts_picked : any (λ d. alike_of Place c d && picks Rivals c d) (configs_of v) ≡ conflicts v c
  conflicts_picked =
      bool_iff (any (λ d. alike_of Place c d && picks Rivals c d) (configs_of v)) (conflicts v c)
      (λ e. (many_exact (subset (configs_of v) c)).1 (rival_many (configs_of v) c there (picked_rival.0 e)))
      (λ e. picked_rival.1 (many_rival (configs_of v) c ((many_exact (subset (configs_of v) c)).0 e)))

pub telling : {v z u : List ℕ} → Led v Place (config_count v) z → Marked v Rivals (config_count v) z u → Telling v u
telling {v} {z} {u} x w = record { able = marked_able (markable x) w; tells = λ i h. mark_tells x w i h ∙ conflicts_picked v i h }

-- ---- the walk

-- the alternatives of the first m configs that conflict
abbrev pub alts_to : List ℕ → ℕ → List ℕ
alts_to v m = alts_of (which (conflicts v) (configs_in v m))

alts_next : (v : List ℕ) (m : ℕ) → alts_to v (suc m) ≡ insert_if (conflicts v (config_at v m)) (alt_at v m) (alts_to v m)
unfolding configs_in insert_if
alts_next v m =
    let c = config_at v m in
    let cs = configs_in v m in
    bool? (conflicts v c)
    (λ e. ap alts_of (last_yes (conflicts v) c e cs) ∙ alts_last (which (conflicts v) cs) c ∙ sym (rw e))
    (λ e. ap alts_of (last_no (conflicts v) c e cs) ∙ sym (rw e))

alts_few : (v : List ℕ) (m : ℕ) → length (alts_to v m) ≤ m
alts_few v m = omega (arith, alts_most (which (conflicts v) (configs_in v m)), which_both (conflicts v) (configs_in v m), configs_length v m)

-- the first m configs are done, n alternatives written
pub record Writing (v : List ℕ) (m n : ℕ) (o : List ℕ) : Type 0 where
  pub within : m ≤ config_count v
  pub few : config_count v ≤ most_configs
  pub words : o ≡ padded alts_length (0 ∷ alts_to v m)
  pub count : n ≡ length (alts_to v m)

pub writing_none : (v : List ℕ) → config_count v ≤ most_configs → (o : List ℕ) → o ≡ replicate alts_length 0 → Writing v 0 0 o
unfolding configs_in which alts_of rising padded blank
writing_none v h o e = record { within = omega arith; few = h; words = e; count = refl }

module _ {v : List ℕ} {m n : ℕ} {o : List ℕ} (w : Writing v m n o) (h : m < config_count v) where
  -- the row of the alternatives written
  writing_row : Row o 1 n (alt_at v m)
  writing_row =
      rw w.words (row alts_length (0 ∷ []) (alts_to v m) 1 refl (omega (arith, alts_few v m, w.few)) (alts_rise (which (conflicts v) (configs_in v m))) (alt_at v m)
      (omega (arith, alts_few v m, insert_most (alt_at v m) (alts_to v m), w.few)) n (sym w.count))

  -- what an insertion leaves
  writing_added : (k : ℕ) (u : List ℕ) → Inserted o 1 n (alt_at v m) k u → (k ≡ length (insert (alt_at v m) (alts_to v m))) × (u ≡ padded alts_length (0 ∷ insert (alt_at v m) (alts_to v m)))
  writing_added k u q =
      row_inserted alts_length (0 ∷ []) (alts_to v m) 1 refl (omega (arith, alts_few v m, w.few)) (alts_rise (which (conflicts v) (configs_in v m))) (alt_at v m)
      (omega (arith, alts_few v m, insert_most (alt_at v m) (alts_to v m), w.few)) n (sym w.count) k u (rw w.words at q)

  pub writing_next : (a : ℕ) → a ≡ alt_at v m → (b : Bool) → b ≡ conflicts v (config_at v m) → (k : ℕ) (u : List ℕ) → AddedIf b o 1 n a k u → Writing v (m + 1) k u
  unfolding insert_if
  writing_next a ea true eb k u q =
      let r = writing_added k u (rw ea at q) in
      let e : alts_to v (suc m) ≡ insert (alt_at v m) (alts_to v m) = alts_next v m ∙ rw (← eb) in
      rw (add-one m) (record { within = h; few = w.few; words = r.1 ∙ ap (λ (l : List ℕ). padded alts_length (0 ∷ l)) (sym e); count = r.0 ∙ ap length (sym e) })
  writing_next a ea false eb k u q =
      let e : alts_to v (suc m) ≡ alts_to v m = alts_next v m ∙ rw (← eb) in
      rw (add-one m) (record { within = h; few = w.few; words = q.1 ∙ w.words ∙ ap (λ (l : List ℕ). padded alts_length (0 ∷ l)) (sym e); count = q.0 ∙ w.count ∙ ap length (sym e) })

  pub writing_asks : (a : ℕ) → a ≡ alt_at v m → Row o 1 n a
  writing_asks a e = rw e writing_row

-- the count goes first
pub writing_end : {v : List ℕ} {m n : ℕ} {o : List ℕ} → Writing v m n o → config_count v ≤ m → set o 0 n ≡ alts_words (configs_of v)
unfolding alts_words
writing_end {v} {m} {n} {o} w h =
    let q : m ≡ config_count v = omega (arith, w.within) in
    let e : alts_to v m ≡ conflicting_alts (configs_of v) = ap (alts_to v) q ∙ sym (conflicting_configs (configs_of v)) in
    ap (λ (l : List ℕ). set l 0 n) w.words
    ∙ padded_over alts_length [] (alts_to v m) 0 n 0 refl
    ∙ ap₂ (λ (k : ℕ) (l : List ℕ). padded alts_length (k ∷ l)) (w.count ∙ ap length e) e

pub writing_fits : {v : List ℕ} {m n : ℕ} {o : List ℕ} → Writing v m n o → (n ≤ most_configs) × (length o ≡ alts_length)
writing_fits {v} {m} w = (
  omega (arith, w.count, alts_few v m, w.within, w.few),
  ap length w.words ∙ padded_length alts_length (0 ∷ alts_to v m) (omega (arith, alts_few v m, w.within, w.few)),
)
