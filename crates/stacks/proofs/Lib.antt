-- Lemmas and theorems on the definitions of specs/. Nothing here has to be believed.
pub mod Algebra
pub mod LossesExamples
pub mod LossesLaws
pub mod MergeLaws
pub mod RulesLaws
pub mod RulesTheorems
