-- What configs share that are alike, as numbers. Nothing here has to be believed.
use Rattle.std.specs.Prelude.{◌≡◌, refl, Bool, true, List, [], ◌∷◌, ◌++◌, ℕ, ◌+◌, ◌*◌}
use Rattle.std.proofs.Common.{sym, ◌∙◌, subst, arith}
use Rattle.encoding.specs.Decide.{same_words}
use Rattle.encoding.proofs.DecideLaws.{same_words_lem, words_same}
use Rattle.groups.specs.Config.{Config}
use Rattle.groups.specs.Layout.{config_at}
use Rattle.setcheck.specs.Keys.{weighed, key_bucket}
use Rattle.groups.proofs.Firsts.{Likeness}
use Rattle.grouping.specs.declared.inner.traits.Alike.{Alike}
use Rattle.grouping.specs.declared.inner.traits.Alike.TheVariants.{State, Place, Alternative, Triple}

-- state, context and alternative; 0 stands for what is left out
abbrev pub traits_by : Alike → Config → List ℕ
traits_by State c = c.state ∷ 0 ∷ 0 ∷ []
traits_by Place c = c.state ∷ c.context ∷ 0 ∷ []
traits_by Alternative c = 0 ∷ 0 ∷ c.alternative ∷ []
traits_by Triple c = c.state ∷ c.context ∷ c.alternative ∷ []

pub weighed_traits : (a b c : ℕ) → weighed (a ∷ b ∷ c ∷ []) ≡ a + 31 * (b + 31 * c)
unfolding weighed
weighed_traits a b c = let e : c + 31 * 0 ≡ c = omega arith in rw e

-- the numbers of the key that stands for them
abbrev pub shared_words : Alike → Config → List ℕ
shared_words k c = traits_by k c ++ (0 ∷ [])

unfoldable pub alike_of : Alike → Config → Config → Bool
alike_of k c d = same_words (traits_by k c) (traits_by k d)

-- a 0 more changes neither the bucket nor what is alike
pub shared_bucket : (k : Alike) (c : Config) → key_bucket (shared_words k c) ≡ key_bucket (traits_by k c)
unfolding key_bucket weighed
shared_bucket State c = refl
shared_bucket Place c = refl
shared_bucket Alternative c = refl
shared_bucket Triple c = refl

pub shared_alike : (k : Alike) (c d : Config) → same_words (shared_words k c) (shared_words k d) ≡ alike_of k c d
unfolding alike_of same_words
shared_alike State c d = refl
shared_alike Place c d = refl
shared_alike Alternative c d = refl
shared_alike Triple c d = refl

-- configs i and j of a set's words
abbrev pub alike_at : List ℕ → Alike → ℕ → ℕ → Bool
alike_at v k i j = alike_of k (config_at v i) (config_at v j)

pub alike_true : (k : Alike) (c d : Config) → alike_of k c d ≡ true → traits_by k c ≡ traits_by k d
unfolding alike_of
alike_true k c d e = same_words_lem (traits_by k c) (traits_by k d) e

pub true_alike : (k : Alike) (c d : Config) → traits_by k c ≡ traits_by k d → alike_of k c d ≡ true
unfolding alike_of
true_alike k c d e = subst (λ (l : List ℕ). same_words (traits_by k c) l ≡ true) e (words_same (traits_by k c))

pub alike_kind : (k : Alike) → Likeness (alike_of k)
unfolding alike_of
alike_kind k = record {
  self = λ c. words_same (traits_by k c);
  swap = λ c d h. true_alike k d c (sym (alike_true k c d h));
  next = λ c d e h i. true_alike k c e (alike_true k c d h ∙ alike_true k d e i);
}
