-- The four ways of being alike, as the subsets' definitions have them. Nothing here has to be believed.
use Rattle.std.specs.Prelude.{◌≡◌, true, [], ◌∷◌, ℕ, eqb}
use Rattle.std.proofs.Common.{sym, ap, eqb-true, eq-eqb}
use Rattle.std.proofs.Math.Path.{fun_ext}
use Rattle.groups.specs.Config.{Config}
use Rattle.words.specs.Bools.{bool_iff}
use Rattle.groups.specs.Groups.{together}
use Rattle.groups.specs.Sentences.{AtPlace}
use Rattle.groups.proofs.Firsts.{together_true, true_together}
use Rattle.groups.proofs.Counted.{one_alt, one_triple, alt_true, true_alt, triple_true, true_triple}
use Rattle.grouping.specs.Alike.{alike_of, alike_true, true_alike}
use Rattle.grouping.specs.declared.inner.traits.Alike.TheVariants.{State, Place, Alternative, Triple}

-- alike by state and context
pub place_true : (c d : Config) → alike_of Place c d ≡ true → AtPlace c.state c.context d
place_true c d e = let h : c.state ∷ c.context ∷ 0 ∷ [] ≡ d.state ∷ d.context ∷ 0 ∷ [] = alike_true Place c d e in (cc, cc)

pub true_place : (c d : Config) → AtPlace c.state c.context d → alike_of Place c d ≡ true
true_place c d h = true_alike Place c d (λ i. sym h.0 i ∷ sym h.1 i ∷ 0 ∷ [])

pub same_places : alike_of Place ≡ together
same_places =
    fun_ext λ c. fun_ext λ d. bool_iff (alike_of Place c d) (together c d)
    (λ e. let h = place_true c d e in true_together c d (sym h.0, sym h.1))
    (λ e. let h = together_true c d e in true_place c d (sym h.0, sym h.1))

pub same_alts : alike_of Alternative ≡ one_alt
same_alts =
    fun_ext λ c. fun_ext λ d. bool_iff (alike_of Alternative c d) (one_alt c d)
    (λ e. let h : 0 ∷ 0 ∷ c.alternative ∷ [] ≡ 0 ∷ 0 ∷ d.alternative ∷ [] = alike_true Alternative c d e in true_alt c d (cc))
    (λ e. true_alike Alternative c d (ap (λ (a : ℕ). 0 ∷ 0 ∷ a ∷ []) (alt_true c d e)))

pub same_triples : alike_of Triple ≡ one_triple
same_triples =
    fun_ext λ c. fun_ext λ d. bool_iff (alike_of Triple c d) (one_triple c d)
    (λ e.
    let h : c.state ∷ c.context ∷ c.alternative ∷ [] ≡ d.state ∷ d.context ∷ d.alternative ∷ [] = alike_true Triple c d e in
    true_triple c d (true_together c d (cc, cc)) (true_alt c d (cc)))
    (λ e.
    let h = triple_true c d e in
    let s = together_true c d h.0 in
    let a = alt_true c d h.1 in
    true_alike Triple c d (λ i. s.0 i ∷ s.1 i ∷ a i ∷ []))

pub same_states : (c d : Config) → alike_of State c d ≡ eqb d.state c.state
same_states c d =
    bool_iff (alike_of State c d) (eqb d.state c.state)
    (λ e. let h : c.state ∷ 0 ∷ 0 ∷ [] ≡ d.state ∷ 0 ∷ 0 ∷ [] = alike_true State c d e in eq-eqb d.state c.state (cc))
    (λ e. true_alike State c d (ap (λ (s : ℕ). s ∷ 0 ∷ 0 ∷ []) (sym (eqb-true d.state c.state e))))
