-- The walk along a chain for the last config that is alike. Nothing here has to be believed.
use Rattle.std.specs.Prelude.{◌≡◌, Bool, true, List, ℕ, ◌<◌}
use Rattle.std.proofs.Common.{sym, ap, ◌∙◌}
use Rattle.encoding.specs.Decide.{same_words}
use Rattle.groups.specs.Layout.{most_configs, config_at}
use Rattle.setcheck.specs.Keys.{key_bucket}
use Rattle.grouping.specs.Alike.{shared_words, shared_alike, alike_at, alike_true}
use Rattle.grouping.specs.Led.{bucket_at, Led}
use Rattle.grouping.specs.declared.inner.traits.Alike.{Alike}

-- what a lookup of config n among those before it is given
pub record SoughtAlike (v : List ℕ) (k : Alike) (n : ℕ) (z : List ℕ) (b : ℕ) : Type 0 where
  pub led : Led v k n z
  pub few : n < most_configs
  pub bucket : b ≡ bucket_at v k n
  pub small : b < 256

module _ {v : List ℕ} {k : Alike} {n : ℕ} {z : List ℕ} {b : ℕ} (s : SoughtAlike v k n z b) where
  pub in_bucket : (j : ℕ) → alike_at v k j n ≡ true → bucket_at v k j ≡ b
  in_bucket j e = ap key_bucket (alike_true k (config_at v j) (config_at v n) e) ∙ sym s.bucket

-- two configs compared by what was read of them
pub compared : (v : List ℕ) (k : Alike) (i j : ℕ) (r : Bool) (y : List ℕ)
    → r ≡ same_words (shared_words k (config_at v i)) y → y ≡ shared_words k (config_at v j) → r ≡ alike_at v k i j
compared v k i j r y e q = e ∙ ap (same_words (shared_words k (config_at v i))) q ∙ shared_alike k (config_at v i) (config_at v j)
