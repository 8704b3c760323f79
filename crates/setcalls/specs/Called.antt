-- The call of a record on the set, from what its part leaves. Nothing here has to be believed.
use Rattle.std.specs.Prelude.{◌≡◌, Bool, not, ℕ}
use Rattle.std.proofs.Math.Path.{refl}
use mathlib.Core.List.{List, []}
use Rattle.setcheck.specs.Calls.{add_call, close_call}
use Rattle.setcheck.specs.Configs.{config_of}
use Rattle.setcheck.specs.declared.config.AtnConfig.{AtnConfig}
use Rattle.setcheck.specs.Layout.{blank}
use Rattle.setreplies.specs.Outputs.{alts_length}
use Rattle.setreplies.specs.Calls.{figures_call}
use Rattle.setreplies.specs.ReasonsCalls.{why_call}
use Rattle.format.specs.declared.records.SetRecord.{SetRecord}
use Rattle.format.specs.declared.records.SetRecord.TheVariants.{NewSet, Add, Verdict, Close, Why}
use Rattle.format.specs.Answers.{set_call}
use Rattle.setreplies.specs.Lines.{closed_line}
use Rattle.setreplies.specs.Replies.{lent, held_stops, call_of}
use Rattle.setreplies.specs.Replies.Laws.{Answered}
use Rattle.setreplies.specs.Settled.{SetReplied, Renewed, on_set_lem}
use Rattle.verdictreplies.specs.Figured.{Told, on_verdict_lem}

module _ (b w v t z : List ℕ) (x : SetRecord) (r : ℕ) (u : List ℕ) where
  pub call_new : (m : Bool) → x ≡ NewSet m → (v' z' : List ℕ) → Renewed b v z (not m) r u v' z'
      → Answered b (call_of (lent w v t z) (set_call x)) r u (lent w v' t z')
  unfolding call_of
  call_new m e v' z' k = rw e (on_set_lem b _ _ r u w v' t z' (lent w v t z) (k.over w) refl)

  pub call_add : (y : AtnConfig) → x ≡ Add y → (w' v' z' : List ℕ) → SetReplied b [] (add_call w v z (config_of y)) r u w' v' z'
      → Answered b (call_of (lent w v t z) (set_call x)) r u (lent w' v' t z')
  unfolding call_of
  call_add y e w' v' z' k = rw e (on_set_lem b [] _ r u w' v' t z' (lent w v t z) k refl)

  pub call_close : x ≡ Close → (v' z' : List ℕ) → SetReplied b closed_line (close_call w v z) r u w v' z'
      → Answered b (call_of (lent w v t z) (set_call x)) r u (lent w v' t z')
  unfolding call_of
  call_close e v' z' k = rw e (on_set_lem b closed_line _ r u w v' t z' (lent w v t z) k refl)

  pub call_verdict : x ≡ Verdict → (z' : List ℕ) → Told b (figures_call w v z (held_stops t)) r u z'
      → Answered b (call_of (lent w v t z) (set_call x)) r u (lent w v t z')
  unfolding call_of
  call_verdict e z' k = rw e (on_verdict_lem b _ r u w v t z' (lent w v t z) k refl refl refl)

  pub call_why : x ≡ Why → (z' : List ℕ) → Told b (why_call w v z (held_stops t) (blank alts_length)) r u z'
      → Answered b (call_of (lent w v t z) (set_call x)) r u (lent w v t z')
  unfolding call_of
  call_why e z' k = rw e (on_verdict_lem b _ r u w v t z' (lent w v t z) k refl refl refl)
