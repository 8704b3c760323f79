-- To believe: a config set, the key of a config, and what `add` makes of a set, in document 01's words.
pub mod Laws
use Rattle.std.specs.Prelude.{Bool, true, false, not, List, [], ◌∷◌, ◌++◌, map, ℕ, max, eqb, ltb}
use Rattle.encoding.specs.Provenance.{id_of, merged_marks}
use Rattle.encoding.specs.Store.{Store, Found, at, nowhere}
use Rattle.encoding.specs.Place.{merge_s}
use Rattle.encoding.specs.Decide.{same_words}
use Rattle.sets.specs.Config.{Config, config}
use Rattle.sets.specs.Lists.{any}

-- the configs in order of insertion, and two flags of the set's own
pub record Set : Type 0 where
  pub full : Bool
  pub closed : Bool
  pub configs : List Config

abbrev pub empty_set : Bool → Set
empty_set f = record { full = f; closed = false; configs = [] }

abbrev pub with_configs : Set → List Config → Set
with_configs S cs = record { full = S.full; closed = S.closed; configs = cs }

abbrev pub closed_set : Set → Set
closed_set S = record { full = S.full; closed = true; configs = S.configs }

-- "flag 2 exactly if some semantic id is not 0, flag 4 exactly if some reach is above 0"
unfoldable pub has_semantic : List Config → Bool
has_semantic cs = any (λ x. not (eqb x.semantic 0)) cs

unfoldable pub dips : List Config → Bool
dips cs = any (λ x. ltb 0 x.reach) cs

-- "the key is state, alternative, semantic id and lower 31 provenance bits"
unfoldable pub key : Config → List ℕ
key x = x.state ∷ x.alternative ∷ x.semantic ∷ id_of x.provenance ∷ []

unfoldable pub same_keys : Config → Config → Bool
same_keys x y = same_words (key x) (key y)

-- the context of the config that has x's key
unfoldable pub held : Config → List Config → Found
held x [] = nowhere
held x (y ∷ ys) = elim (same_keys x y) [ true ↦ at y.context | false ↦ held x ys ]

-- y of the set, joined with x of the same key: "reach becomes the larger, bit 31 the OR of both"; c is the merged context
unfoldable pub joined : Config → ℕ → Config → Config
joined x c y = config y.state y.alternative c y.semantic (max y.reach x.reach) (merged_marks y.provenance x.provenance)

-- x joined to the config that has its key, every other config as before
unfoldable pub joined_all : Config → ℕ → List Config → List Config
joined_all x c cs = map (λ y. elim (same_keys x y) [ true ↦ joined x c y | false ↦ y ]) cs

-- the answer, 1 for inserted and 0 for merged, and the store and the set after it
pub record Addition : Type 0 where
  pub answer : ℕ
  pub store : Store
  pub set : Set

-- "On a known key the contexts are merged (wildcard unless flag 1) .., answer "merged". Otherwise the config goes last, answer "inserted"."
unfoldable pub add_to : Store → Set → Config → Addition
add_to s S x =
    elim (held x S.configs) [
      | at c ↦ let P = merge_s (not S.full) s c x.context in record { answer = 0; store = P.1; set = with_configs S (joined_all x P.0 S.configs) }
      | nowhere ↦ record { answer = 1; store = s; set = with_configs S (S.configs ++ (x ∷ [])) }
    ]
