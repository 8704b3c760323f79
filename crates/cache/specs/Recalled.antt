-- What a lookup answers, as the definition's answer. Nothing here has to be believed.
use Rattle.std.specs.Prelude.{◌≡◌, Option, Some, None}
use Rattle.std.proofs.Common.{sym, ap, ◌∙◌}
use Rattle.words.specs.declared.names.ContextId.{ContextId}
use Rattle.work.specs.Store.{Found, at, nowhere}

abbrev pub recalled : Option ContextId → Found
recalled (Some c) = at c.0
recalled None = nowhere

-- ---- an answer taken apart

pub recalled_as : (r : Option ContextId) (c : ContextId) (f : Found) → recalled r ≡ f → r ≡ Some c → f ≡ at c.0
recalled_as r c f e q = sym e ∙ ap recalled q

pub recalled_unknown : (r : Option ContextId) (f : Found) → recalled r ≡ f → r ≡ None → f ≡ nowhere
recalled_unknown r f e q = sym e ∙ ap recalled q
