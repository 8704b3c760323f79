-- The chains of keys in the scratch, and a lookup in them. Nothing here has to be believed.
use Rattle.std.specs.Prelude.{◌≡◌, refl, Bool, true, false, ◌&&◌, List, [], ◌∷◌, ℕ, ◌<◌, ◌≤◌, ◌+◌, ◌*◌, ◌-◌, ◌/◌, ◌%◌, ◌^◌, eqb, length, get_or, Option, Some, None}
use Rattle.std.specs.Option.{is_some}
use Rattle.std.proofs.Common.{sym, ap, ◌∙◌, arith}
use Rattle.std.proofs.Math.Bool.{and-true}
use Rattle.std.proofs.lemmas.Bool.{false≢true}
use Rattle.store.specs.Decide.{same_words}
use Rattle.words.specs.Provenance.{id_of}
use Rattle.layout.specs.Store.{Found, at, nowhere}
use Rattle.layout.specs.Layout.{scratch_words}
use Rattle.sets.specs.Config.{Config}
use Rattle.sets.specs.Layout.{most_configs, set_words_length, config_at}
use Rattle.sets.specs.Sets.{key, same_keys}
use Rattle.sets.specs.Sets.Laws.{key_of_same}
use Rattle.sets.specs.Chains.{last, Chained, linked, Going, going_begin, going_hit, going_on, going_end}
use Rattle.setcheck.specs.declared.inner.keys.Key.{Key}

-- where heads and links stand: in the place of the merge cache
abbrev pub key_heads : ℕ
key_heads = 2048

abbrev pub key_links : ℕ
key_links = 2304

-- 16,384 words hold the chains too: between the store's index and the entry stack
pub chains_fit : (key_heads + 256 ≤ key_links) × (key_links + most_configs ≤ scratch_words)
chains_fit = (omega arith, omega arith)

unfoldable pub weighed : List ℕ → ℕ
weighed [] = 0
weighed (a ∷ more) = a + 31 * weighed more

unfoldable pub key_bucket : List ℕ → ℕ
key_bucket k = weighed k % 2 ^ 32 * 2654435769 / 2 ^ 24 % 256

pub weighed_key : (x : Config) → weighed (key x) ≡ x.state + 31 * (x.alternative + 31 * (x.semantic + 31 * id_of x.provenance))
unfolding weighed key
weighed_key x = let e : id_of x.provenance + 31 * 0 ≡ id_of x.provenance = omega arith in rw e

abbrev pub place_of : Option ℕ → Found
place_of (Some i) = at i
place_of None = nowhere

pub place_some : (r : Option ℕ) → is_some r ≡ true → (i : ℕ) × (place_of r ≡ at i)
place_some (Some i) e = (i, refl)
place_some None e = absurd (false≢true e)

pub place_none : (r : Option ℕ) → is_some r ≡ false → place_of r ≡ nowhere
place_none (Some i) e = absurd (false≢true (sym e))
place_none None e = refl

-- the numbers that configs are compared by
abbrev pub key_words : Key → List ℕ
key_words k = k.0 ∷ k.1 ∷ k.2 ∷ k.3 ∷ []

pub weighed_words : (k : Key) → weighed (key_words k) ≡ k.0 + 31 * (k.1 + 31 * (k.2 + 31 * k.3))
unfolding weighed
weighed_words k = let e : k.3 + 31 * 0 ≡ k.3 = omega arith in rw e

-- the bucket of a key as it was read
pub bucket_key : {k : Key} {w : List ℕ} {b : ℕ} → key_words k ≡ w → (b ≡ key_bucket (key_words k)) × (b < 256) → (b ≡ key_bucket w) × (b < 256)
bucket_key e h = (h.0 ∙ ap key_bucket e, h.1)

-- as the derived equality compares them
pub same_numbers : (k m : Key) → same_words (key_words k) (key_words m) ≡ (eqb k.0 m.0 && (eqb k.1 m.1 && (eqb k.2 m.2 && eqb k.3 m.3)))
unfolding same_words
same_numbers k m = rw (and-true (eqb k.3 m.3))

-- a walk along the chain of bucket b may begin: there are chains of some n numbers, and each may be tested
pub record SomeChains (z : List ℕ) (b : ℕ) (may : ℕ → Type 0) : Type 0 where
  pub lent : length z ≡ scratch_words
  pub small : b < 256
  pub bucket : ℕ → ℕ
  pub n : ℕ
  pub few : n ≤ most_configs
  pub chains : Chained bucket key_heads key_links n z
  pub callable : (i : ℕ) → i < n → may i

-- t is what the test says of the first n
abbrev pub Told : (ℕ → Bool → Type 0) → (ℕ → Bool) → ℕ → Type 0
Told tells t n = (i : ℕ) (a : Bool) → i < n → tells i a → a ≡ t i

-- for any chains and what the test says of their numbers: r is the last that passes, where what passes is in bucket b
abbrev pub LastChained : List ℕ → ℕ → (ℕ → Bool → Type 0) → Option ℕ → Type 0
LastChained z b tells r =
    (bucket : ℕ → ℕ) (t : ℕ → Bool) (n : ℕ) → Chained bucket key_heads key_links n z → ((i : ℕ) → t i ≡ true → bucket i ≡ b)
    → Told tells t n → place_of r ≡ last t n

abbrev pub put_key : List ℕ → ℕ → ℕ → List ℕ
put_key z i b = linked key_heads key_links z i b

-- the chains of the first n configs
abbrev pub Keyed : List ℕ → ℕ → List ℕ → Type 0
Keyed v n z = Chained (λ i. key_bucket (key (config_at v i))) key_heads key_links n z

-- what a lookup among the first n configs is given
pub record SoughtKey (v z : List ℕ) (n : ℕ) (x : Config) (b : ℕ) : Type 0 where
  pub sized : length v ≡ set_words_length
  pub lent : length z ≡ scratch_words
  pub few : n ≤ most_configs
  pub chains : Keyed v n z
  pub bucket : b ≡ key_bucket (key x)
  pub small : b < 256

-- ---- the walk along a chain

-- has config i the key of x
abbrev pub has_key : List ℕ → Config → ℕ → Bool
has_key v x i = same_keys x (config_at v i)

-- equal keys share a bucket
pub shared : (v : List ℕ) (x : Config) (i : ℕ) → has_key v x i ≡ true → key_bucket (key (config_at v i)) ≡ key_bucket (key x)
shared v x i e = ap key_bucket (sym (key_of_same x (config_at v i) e))

-- what is known at the link k: the next place to test is k - 1
pub record Walking (z : List ℕ) (b : ℕ) (may : ℕ → Type 0) (tells : ℕ → Bool → Type 0) (k : ℕ) : Type 0 where
  pub some : SomeChains z b may
  pub safe : Going some.bucket (λ i. false) b some.n k
  pub going : (bucket : ℕ → ℕ) (t : ℕ → Bool) (n : ℕ) → Chained bucket key_heads key_links n z → ((i : ℕ) → t i ≡ true → bucket i ≡ b)
      → Told tells t n → Going bucket t b n k

no_pass : (P : ℕ → Type 0) (i : ℕ) → false ≡ true → P i
no_pass P i e = absurd (false≢true e)

module _ {z : List ℕ} {b : ℕ} {may : ℕ → Type 0} {tells : ℕ → Bool → Type 0} where
  pub walk_begin : SomeChains z b may → Walking z b may tells (get_or z (key_heads + b) 0)
  walk_begin s = record {
    some = s;
    safe = going_begin s.bucket (λ i. false) b (no_pass _) key_heads key_links s.n z s.chains s.small;
    going = λ bucket t n c f h. going_begin bucket t b f key_heads key_links n z c s.small;
  }

  pub walk_end : (k : ℕ) → k ≡ 0 → Walking z b may tells k → LastChained z b tells None
  walk_end k e w = λ bucket t n c f h. sym (going_end bucket t b f key_heads key_links n z c k e (w.going bucket t n c f h))

  module _ (k : ℕ) (d : k ≡ 0 → ⊥) (w : Walking z b may tells k) where
    pub walk_hit : tells (k - 1) true → LastChained z b tells (Some (k - 1))
    walk_hit a = λ bucket t n c f h.
        let g = w.going bucket t n c f h in
        sym (going_hit bucket t b f key_heads key_links n z c k d g (sym (h (k - 1) true (omega (arith, g.within)) a)))

    pub walk_on : tells (k - 1) false → Walking z b may tells (get_or z (key_links + (k - 1)) 0) × (get_or z (key_links + (k - 1)) 0 < k)
    walk_on a =
        let s = w.some in
        let r = going_on s.bucket (λ i. false) b (no_pass _) key_heads key_links s.n z s.chains k d w.safe refl in (
          record {
            some = s;
            safe = r.0;
            going = λ bucket t n c f h.
                let g = w.going bucket t n c f h in
                (going_on bucket t b f key_heads key_links n z c k d g (sym (h (k - 1) false (omega (arith, g.within)) a))).0;
          },
          r.1,
        )
