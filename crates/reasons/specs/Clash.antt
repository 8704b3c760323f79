-- The alternatives of a clash, written. Nothing here has to be believed.
use Rattle.std.specs.Prelude.{◌≡◌, refl, List, [], ◌∷◌, ◌++◌, ℕ, ◌<◌, ◌≤◌, set}
use Rattle.std.proofs.Common.{sym, ap₂, ◌∙◌, arith}
use Rattle.std.proofs.Math.Path.{ap}
use Rattle.std.proofs.Math.ListN.{length}
use Rattle.store.specs.Layout.{blank}
use Rattle.groups.specs.Layout.{config_at, config_count, most_configs}
use Rattle.groups.specs.Listed.{configs_length}
use Rattle.groups.specs.Lists.{which}
use Rattle.groups.specs.Groups.{together, subset}
use Rattle.groups.proofs.Rising.{alts_most}
use Rattle.groups.proofs.Parts.{which_both}
use Rattle.grouping.specs.Alike.{alike_at}
use Rattle.grouping.specs.Leads.{FirstAlike, leads_one}
use Rattle.grouping.specs.Clash.{configs_of}
use Rattle.grouping.specs.Led.{Led}
use Rattle.grouping.specs.Led.Laws.{kin}
use Rattle.grouping.specs.declared.inner.traits.Alike.TheVariants.{Place}
use Rattle.outputs.specs.Outputs.{alts_length, padded}
use Rattle.outputs.specs.Outputs.Laws.{padded_length}
use Rattle.outputs.specs.Insert.{row_with}
use Rattle.outputs.specs.Rows.{padded_over, row_with_lem}
use Rattle.outputs.specs.Members.{Roomy, alts_at}

-- there are no more alternatives than configs
pub alts_few : (v : List ℕ) (i : ℕ) → length (alts_at v i) ≤ config_count v
unfolding subset
alts_few v i = omega (arith, alts_most (which (together (config_at v i)) (configs_of v)), which_both (together (config_at v i)) (configs_of v), configs_length v (config_count v))

-- zeros are a row of nothing after a zero
zeros_row : blank alts_length ≡ padded alts_length ((0 ∷ []) ++ [])
unfolding padded blank
zeros_row = refl

module _ (v z : List ℕ) (i : ℕ) (x : Led v Place (config_count v) z) (h : i < config_count v) (f : FirstAlike (alike_at v Place) i i)
    (o : List ℕ) (e : o ≡ blank alts_length) where
  few : length (alts_at v i) ≤ most_configs
  few = omega (arith, alts_few v i, x.words.few)

  row_of : (ys : List ℕ) → row_with o 1 ys ≡ padded alts_length ((0 ∷ []) ++ ys)
  row_of ys = ap (λ (l : List ℕ). row_with l 1 ys) (e ∙ zeros_row) ∙ row_with_lem alts_length (0 ∷ []) [] 1 refl (omega arith) ys

  long : length o ≡ alts_length
  unfolding blank
  long = ap length e

  pub roomy : Roomy v z i 1 o
  roomy = record {
    led = x;
    here = h;
    first = leads_one (alike_at v Place) (kin v Place) i i _ i ((kin v Place).self i) (x.leads i h) f;
    fits = omega (arith, few, long);
    rest = e ∙ zeros_row ∙ sym (row_of []);
  }

  pub clash_written : (count : ℕ) (y : List ℕ) → (count ≡ length (alts_at v i)) × (y ≡ row_with o 1 (alts_at v i))
      → set y 0 count ≡ padded alts_length (length (alts_at v i) ∷ alts_at v i)
  clash_written count y q =
      ap₂ (λ (l : List ℕ) (k : ℕ). set l 0 k) (q.1 ∙ row_of (alts_at v i)) q.0 ∙ padded_over alts_length [] (alts_at v i) 0 (length (alts_at v i)) 0 refl

  pub clash_fits : (count : ℕ) (y : List ℕ) → (count ≡ length (alts_at v i)) × (y ≡ row_with o 1 (alts_at v i)) → (count ≤ most_configs) × (length y ≡ alts_length)
  clash_fits count y q = (
    omega (arith, few, q.0),
    ap length (q.1 ∙ row_of (alts_at v i)) ∙ padded_length alts_length ((0 ∷ []) ++ alts_at v i) (omega (arith, few)),
  )
