-- One config more, as the code has it: values read, and the scratch after each call. Nothing here has to be believed.
use Rattle.std.specs.Prelude.{◌≡◌, refl, List, ℕ, suc, ◌<◌, ◌≤◌, ◌+◌, length, get_or, set, Option, Some, None}
use Rattle.std.proofs.Common.{sym, ap, ◌∙◌, arith, add-one}
use Rattle.words.specs.Lent.{cleared_range}
use Rattle.words.specs.Lent.Laws.{length_cleared_range, cleared_range_inside}
use Rattle.encoding.specs.Store.{Found, at, nowhere}
use Rattle.encoding.specs.Layout.{scratch_words}
use Rattle.groups.specs.Layout.{most_configs, config_at, config_count}
use Rattle.groups.specs.Words.{configs_in}
use Rattle.groups.specs.Listed.{configs_length}
use Rattle.groups.specs.Chains.{last, linked, linked_length}
use Rattle.setcheck.specs.Keys.{key_heads, key_links, key_bucket, place_of}
use Rattle.groups.specs.Groups.{firsts}
use Rattle.groups.proofs.Parts.{firsts_most}
use Rattle.grouping.specs.Alike.{shared_words, shared_bucket, alike_of, alike_at, alike_kind}
use Rattle.grouping.specs.Leads.{before}
use Rattle.grouping.specs.Led.{leaders_at, members_at, Lent, Led, followed}
use Rattle.grouping.specs.Led.Laws.{kin, led_none, led_new, led_old, count_new, count_old}
use Rattle.grouping.specs.Find.{SoughtAlike}
use Rattle.grouping.specs.declared.inner.traits.Alike.{Alike}

-- what the lookup is given
pub seeks : {v : List ℕ} {k : Alike} {n : ℕ} {z : List ℕ} {b : ℕ} {ts : List ℕ}
    → Led v k n z × (n < most_configs) → ts ≡ shared_words k (config_at v n) → (b ≡ key_bucket ts) × (b < 256) → SoughtAlike v k n z b
seeks {v} {k} {n} p e q = record { led = p.0; few = p.1; bucket = q.0 ∙ ap key_bucket e ∙ shared_bucket k (config_at v n); small = q.1 }

-- what it found
pub found_at : {r : Option ℕ} {l : Found} (m : ℕ) → r ≡ Some m → place_of r ≡ l → l ≡ at m
found_at m e h = sym (rw e at h)

pub found_none : {r : Option ℕ} {l : Found} → r ≡ None → place_of r ≡ l → l ≡ nowhere
found_none e h = sym (rw e at h)

-- what is promised of the scratch u and of how many first ones more there are
abbrev pub Leading : List ℕ → Alike → ℕ → List ℕ → ℕ → Type 0
Leading v k n u r =
    Led v k (suc n) u × (length (firsts (alike_of k) (configs_in v (suc n))) ≡ length (firsts (alike_of k) (configs_in v n)) + r)

module _ {v : List ℕ} {k : Alike} {n : ℕ} {z : List ℕ} {b : ℕ} (s : SoughtAlike v k n z b) {y : List ℕ} (e : y ≡ linked key_heads key_links z n b) where
  pub chained_length : length y ≡ scratch_words
  chained_length =
      ap length e ∙ linked_length key_heads key_links n b z (omega arith) (omega (arith, s.led.words.lent, s.few)) s.small ∙ s.led.words.lent

  pub leads_first : last (λ j. alike_at v k j n) n ≡ nowhere → Leading v k n (set (set y (members_at + n) 0) (leaders_at + n) n) 1
  leads_first f = rw e (led_new v k n z s.led s.few b s.bucket s.small f, count_new v k n f)

  module _ (m : ℕ) (f : last (λ j. alike_at v k j n) n ≡ at m) where
    pub earlier : m < n
    earlier = before (alike_at v k) (kin v k) n m f

    pub leads_later : {u : List ℕ} → u ≡ followed (set y (members_at + n) 0) n m → Leading v k n u 0
    unfolding followed
    leads_later d = rw (d, e) (led_old v k n z s.led s.few b s.bucket s.small m f, count_old v k n m f)

-- ---- the walk over all configs

-- the first n of them are done, and there are c first ones
pub record FirstsSoFar (v : List ℕ) (k : Alike) (n : ℕ) (z : List ℕ) (c : ℕ) : Type 0 where
  pub within : n ≤ config_count v
  pub led : Led v k n z
  pub count : c ≡ length (firsts (alike_of k) (configs_in v n))

pub gather_none : (v : List ℕ) (k : Alike) (z : List ℕ) → Lent v z → (u : List ℕ) → u ≡ cleared_range z key_heads key_links → FirstsSoFar v k 0 u 0
unfolding firsts configs_in
gather_none v k z w u e = record {
  within = omega arith;
  led = led_none v k u (record { sized = w.sized; few = w.few; lent = ap length e ∙ length_cleared_range z key_heads key_links (omega arith) (omega (arith, w.lent)) ∙ w.lent })
      (λ b s. ap (λ (l : List ℕ). get_or l (key_heads + b) 0) e ∙ cleared_range_inside z key_heads key_links (omega arith) (omega (arith, w.lent)) (key_heads + b) (omega arith) (omega arith));
  count = refl;
}

module _ {v : List ℕ} {k : Alike} {n : ℕ} {z : List ℕ} {c : ℕ} (g : FirstsSoFar v k n z c) (h : n < config_count v) where
  pub gather_asks : Led v k n z × (n < most_configs)
  gather_asks = (g.led, omega (arith, g.led.words.few))

  module _ (u : List ℕ) (r : ℕ) (x : Leading v k n u r) where
    pub gather_next : FirstsSoFar v k (n + 1) u (c + r)
    gather_next = rw (add-one n) (record { within = h; led = x.0; count = ap (λ (m : ℕ). m + r) g.count ∙ sym x.1 })

    pub gather_fits : c + r ≤ most_configs
    gather_fits = omega (arith, gather_next.count, firsts_most (alike_of k) (alike_kind k) (configs_in v (n + 1)), configs_length v (n + 1), g.led.words.few)

pub gather_all : (v : List ℕ) (k : Alike) (n : ℕ) (z : List ℕ) (c : ℕ) → FirstsSoFar v k n z c → config_count v ≤ n
    → Led v k (config_count v) z × (c ≡ length (firsts (alike_of k) (configs_in v (config_count v))))
gather_all v k n z c g h = let e : config_count v ≡ n = omega (arith, g.within) in rw e (g.led, g.count)

-- there are no more first ones than configs
pub few_firsts : {v : List ℕ} {k : Alike} {n : ℕ} {z : List ℕ} → Led v k n z → {c : ℕ} → c ≡ length (firsts (alike_of k) (configs_in v n)) → n ≤ most_configs → c ≤ most_configs
few_firsts {v} {k} {n} x e h = omega (arith, e, firsts_most (alike_of k) (alike_kind k) (configs_in v n), configs_length v n)
