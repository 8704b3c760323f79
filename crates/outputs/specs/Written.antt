-- The subsets, written config by config. Nothing here has to be believed.
use Rattle.std.specs.Prelude.{◌≡◌, refl, true, false, ℕ, zero, suc, ◌<◌, ◌≤◌, ◌+◌, get_or, replicate}
use Rattle.std.proofs.Math.Path.{sym, ap, ap₂}
use Rattle.std.proofs.Common.{◌∙◌, arith, add-one}
use mathlib.Core.List.{List, [], ◌∷◌, ◌++◌, map, flat_map, append_assoc, append-nil, map-append}
use Rattle.std.proofs.Math.ListN.{length, set, length-append}
use Rattle.words.specs.Numbers.{two}
use Rattle.groups.specs.LayoutLayout.{blank}
use Rattle.groups.specs.Config.{Config}
use Rattle.groups.specs.Layout.{most_configs, config_at, config_count}
use Rattle.groups.specs.SetsLists.{any}
use Rattle.words.specs.Bools.{bool?}
use Rattle.groups.specs.Words.{configs_in}
use Rattle.groups.specs.Listed.{configs_length, at_any, none_any}
use Rattle.groups.specs.Groups.{Group, together, firsts, subset, groups}
use Rattle.groups.proofs.Room.{groups_fit, groups_most}
use Rattle.groups.proofs.Last.{firsts_new, firsts_old}
use Rattle.grouping.specs.Alike.{alike_at}
use Rattle.grouping.specs.Leads.{FirstAlike}
use Rattle.grouping.specs.Clash.{configs_of}
use Rattle.grouping.specs.Led.{leaders_at, Led}
use Rattle.grouping.specs.declared.inner.traits.Alike.TheVariants.{Place}
use Rattle.outputs.specs.Outputs.{subsets_length, padded, group_words, subsets_words}
use Rattle.outputs.specs.Outputs.Laws.{padded_length, all_words}
use Rattle.outputs.specs.Insert.{row_with}
use Rattle.outputs.specs.Rows.{padded_set, padded_over, padded_zero, row_with_lem}
use Rattle.outputs.specs.Members.{joins_alike, alts_at, Roomy}

-- the words that the first m configs give
abbrev pub groups_to : List ℕ → ℕ → List Group
groups_to v m = map (subset (configs_of v)) (firsts together (configs_in v m))

abbrev pub so_far : List ℕ → ℕ → List ℕ
so_far v m = length (groups (configs_of v)) ∷ flat_map group_words (groups_to v m)

flat_more : (gs : List Group) (g : Group) → flat_map group_words (gs ++ (g ∷ [])) ≡ flat_map group_words gs ++ group_words g
unfolding flat_map
flat_more [] g = append-nil (group_words g)
flat_more (x ∷ gs) g = ap (λ (l : List ℕ). group_words x ++ l) (flat_more gs g) ∙ sym (append_assoc (group_words x) (flat_map group_words gs) (group_words g))

module _ (v : List ℕ) (m : ℕ) where
  -- the first of a subset adds it
  far_new : any (λ d. together d (config_at v m)) (configs_in v m) ≡ false → so_far v (suc m) ≡ so_far v m ++ group_words (subset (configs_of v) (config_at v m))
  unfolding configs_in
  far_new e =
      ap (λ (fs : List Config). length (groups (configs_of v)) ∷ flat_map group_words (map (subset (configs_of v)) fs)) (firsts_new together (config_at v m) (configs_in v m) e)
      ∙ ap (λ (gs : List Group). length (groups (configs_of v)) ∷ flat_map group_words gs) (map-append (subset (configs_of v)) (firsts together (configs_in v m)) (config_at v m ∷ []))
      ∙ ap (λ (l : List ℕ). length (groups (configs_of v)) ∷ l) (flat_more (groups_to v m) (subset (configs_of v) (config_at v m)))

  -- any other adds nothing
  far_old : any (λ d. together d (config_at v m)) (configs_in v m) ≡ true → so_far v (suc m) ≡ so_far v m
  unfolding configs_in
  far_old e = ap (λ (fs : List Config). length (groups (configs_of v)) ∷ flat_map group_words (map (subset (configs_of v)) fs)) (firsts_old together (config_at v m) (configs_in v m) e)

far_grow : (v : List ℕ) (a b : ℕ) → a ≤ b → length (so_far v a) ≤ length (so_far v b)
far_grow v a zero h = let e : a ≡ 0 = omega arith in rw e (omega arith)
far_grow v a (suc b) h =
    two a (suc b)
    (λ e. rw e (omega arith))
    (λ d.
    let ih = far_grow v a b (omega arith) in
    bool? (any (λ x. together x (config_at v b)) (configs_in v b))
    (λ e. omega (arith, ih, ap length (far_old v b e)))
    (λ e. omega (arith, ih, ap length (far_new v b e), length-append (so_far v b) (group_words (subset (configs_of v) (config_at v b))))))

far_all : (v : List ℕ) → so_far v (config_count v) ≡ length (groups (configs_of v)) ∷ flat_map group_words (groups (configs_of v))
unfolding groups
far_all v = refl

far_fits : (v : List ℕ) → config_count v ≤ most_configs → (m : ℕ) → m ≤ config_count v → length (so_far v m) ≤ subsets_length
far_fits v h m k =
    omega (arith, far_grow v m (config_count v) k, ap length (far_all v), all_words (groups (configs_of v)), groups_fit (configs_of v) (omega (arith, configs_length v (config_count v))))

-- ---- one config more

-- the subsets of the first m configs are written, and their words end at `at`
pub record Listing (v z : List ℕ) (m at : ℕ) (o : List ℕ) : Type 0 where
  pub led : Led v Place (config_count v) z
  pub here : m < config_count v
  pub words : o ≡ padded subsets_length (so_far v m)
  pub ends : at ≡ length (so_far v m)

-- and those of config m too: they end at r, in the words u
abbrev pub Ending : List ℕ → ℕ → ℕ → List ℕ → Type 0
Ending v m r u = (u ≡ padded subsets_length (so_far v (suc m))) × (r ≡ length (so_far v (suc m)))

module _ {v z : List ℕ} {m at : ℕ} {o : List ℕ} (l : Listing v z m at o) where
  leads : FirstAlike (alike_at v Place) m (get_or z (leaders_at + m) 0)
  leads = l.led.leads m l.here

  pub place_few : m < most_configs
  place_few = omega (arith, l.here, l.led.words.few)

  pub listing_length : length o ≡ subsets_length
  listing_length = ap length l.words ∙ padded_length subsets_length (so_far v m) (far_fits v l.led.words.few m (omega (arith, l.here)))

  -- one of its subset stands before
  pub ending_old : (get_or z (leaders_at + m) 0 ≡ m → ⊥) → Ending v m at o
  ending_old d =
      let k : ℕ = get_or z (leaders_at + m) 0 in
      let e = far_old v m (at_any (λ x. together x (config_at v m)) v m k (omega (arith, leads.early)) (sym (joins_alike v k m) ∙ leads.same)) in
      (l.words ∙ ap (padded subsets_length) (sym e), l.ends ∙ ap length (sym e))

  -- it is the first
  module _ (first : get_or z (leaders_at + m) 0 ≡ m) where
    abbrev c : Config
    c = config_at v m

    abbrev alts : List ℕ
    alts = alts_at v m

    new : so_far v (suc m) ≡ so_far v m ++ group_words (subset (configs_of v) c)
    new = far_new v m (none_any (λ x. together x c) v m (λ k h. sym (joins_alike v k m) ∙ leads.first k (omega (arith, first))))

    pub room : at + 3 + length alts ≤ subsets_length
    unfolding group_words
    room =
        omega (arith, far_fits v l.led.words.few (suc m) l.here, ap length new, length-append (so_far v m) (group_words (subset (configs_of v) c)), l.ends)

    -- state, context, and no count yet
    abbrev two_words : List ℕ
    two_words = (so_far v m ++ (c.state ∷ [])) ++ (c.context ∷ [])

    abbrev pre : List ℕ
    pre = two_words ++ (0 ∷ [])

    two_length : length two_words ≡ at + 2
    two_length =
        length-append (so_far v m ++ (c.state ∷ [])) (c.context ∷ []) ∙ omega (arith, length-append (so_far v m) (c.state ∷ []), l.ends)

    pre_length : length pre ≡ at + 3
    pre_length = length-append two_words (0 ∷ []) ∙ omega (arith, two_length)

    module _ (s k : ℕ) (es : s ≡ c.state) (ek : k ≡ c.context) where
      abbrev u : List ℕ
      u = set (set o at s) (at + 1) k

      u_words : u ≡ padded subsets_length (pre ++ [])
      u_words =
          let one : set o at s ≡ padded subsets_length (so_far v m ++ (c.state ∷ [])) =
          ap₂ (λ (w : List ℕ) (x : ℕ). set w at x) l.words es ∙ padded_set subsets_length (so_far v m) c.state at (sym l.ends) (omega (arith, room)) in
          ap₂ (λ (w : List ℕ) (x : ℕ). set w (at + 1) x) one ek
          ∙ padded_set subsets_length (so_far v m ++ (c.state ∷ [])) c.context (at + 1) (length-append (so_far v m) (c.state ∷ []) ∙ omega (arith, l.ends)) (omega (arith, room))
          ∙ sym (ap (padded subsets_length) (append-nil pre) ∙ padded_zero subsets_length two_words (omega (arith, two_length, room)))

      u_length : length u ≡ subsets_length
      u_length = ap length u_words ∙ padded_length subsets_length (pre ++ []) (omega (arith, ap length (append-nil pre), pre_length, room))

      row_of : (ys : List ℕ) → row_with u (at + 3) ys ≡ padded subsets_length (pre ++ ys)
      row_of ys = ap (λ (w : List ℕ). row_with w (at + 3) ys) u_words ∙ row_with_lem subsets_length pre [] (at + 3) pre_length (omega (arith, room)) ys

      pub roomy : Roomy v z m (at + 3) u
      roomy = record { led = l.led; here = l.here; first = first; fits = omega (arith, u_length, room); rest = u_words ∙ sym (row_of []) }

      pub ending_new : (count : ℕ) (y : List ℕ) → (count ≡ length alts) × (y ≡ row_with u (at + 3) alts) → Ending v m (at + 3 + count) (set y (at + 2) count)
      unfolding group_words subset
      ending_new count y q = (
        ap₂ (λ (w : List ℕ) (x : ℕ). set w (at + 2) x) (q.1 ∙ row_of alts ∙ ap (padded subsets_length) (append_assoc two_words (0 ∷ []) alts)) q.0
            ∙ padded_over subsets_length two_words alts 0 (length alts) (at + 2) two_length
            ∙ ap (padded subsets_length) (regroup ∙ sym new),
        sym (ap length new ∙ length-append (so_far v m) (group_words (subset (configs_of v) c)) ∙ omega (arith, l.ends, q.0)),
      )
        where
          regroup : two_words ++ (length alts ∷ alts) ≡ so_far v m ++ (c.state ∷ c.context ∷ length alts ∷ alts)
          regroup = append_assoc (so_far v m ++ (c.state ∷ [])) (c.context ∷ []) (length alts ∷ alts) ∙ append_assoc (so_far v m) (c.state ∷ []) (c.context ∷ length alts ∷ alts)

      pub members_length : (y : List ℕ) → y ≡ row_with u (at + 3) alts → length y ≡ subsets_length
      members_length y q = ap length (q ∙ row_of alts) ∙ padded_length subsets_length (pre ++ alts) (omega (arith, length-append pre alts, pre_length, room))

-- ---- the walk over all configs

pub record Filling (v z : List ℕ) (m at : ℕ) (o : List ℕ) : Type 0 where
  pub within : m ≤ config_count v
  pub led : Led v Place (config_count v) z
  pub words : o ≡ padded subsets_length (so_far v m)
  pub ends : at ≡ length (so_far v m)

pub filling_none : (v z : List ℕ) → Led v Place (config_count v) z → (n : ℕ)
    → n ≡ length (groups (configs_of v)) → (o : List ℕ) → o ≡ replicate subsets_length 0 → Filling v z 0 1 (set o 0 n)
unfolding configs_in firsts flat_map padded blank
filling_none v z x n e o q = record { within = omega arith; led = x; words = ap₂ (λ (w : List ℕ) (k : ℕ). set w 0 k) q e; ends = refl }

module _ {v z : List ℕ} {m at : ℕ} {o : List ℕ} (g : Filling v z m at o) where
  pub filling_asks : m < config_count v → Listing v z m at o
  filling_asks h = record { led = g.led; here = h; words = g.words; ends = g.ends }

  pub filling_next : m < config_count v → (r : ℕ) (u : List ℕ) → Ending v m r u → Filling v z (m + 1) r u
  filling_next h r u q = rw (add-one m) (record { within = h; led = g.led; words = q.0; ends = q.1 })

  pub filling_length : length o ≡ subsets_length
  filling_length = ap length g.words ∙ padded_length subsets_length (so_far v m) (far_fits v g.led.words.few m g.within)

  pub filling_end : config_count v ≤ m → o ≡ subsets_words (configs_of v)
  unfolding subsets_words
  filling_end h =
      let e : m ≡ config_count v = omega (arith, g.within) in
      g.words ∙ ap (λ (k : ℕ). padded subsets_length (so_far v k)) e ∙ ap (padded subsets_length) (far_all v)

pub groups_few : {v z : List ℕ} → Led v Place (config_count v) z → length (groups (configs_of v)) ≤ most_configs
groups_few {v} x = omega (arith, groups_most (configs_of v), configs_length v (config_count v), x.words.few)
