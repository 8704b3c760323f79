-- A record's call, from what its part leaves. Nothing here has to be believed.
use Rattle.std.specs.Prelude.{◌≡◌, Bool, ℕ, ◌+◌, ◌*◌, ◌≤◌, length}
use Rattle.std.proofs.Math.Path.{refl}
use mathlib.Core.List.{List, []}
use Rattle.std.proofs.Common.{arith}
use Rattle.words.specs.declared.names.ContextId.{ContextId}
use Rattle.words.specs.declared.names.ReturnState.{ReturnState}
use Rattle.format.specs.Store.{node_at}
use Rattle.format.specs.Decode.{store_of}
use Rattle.format.specs.Calls.{done, asked}
use Rattle.replies.specs.SingletonCall.{singleton_call}
use Rattle.replies.specs.MergeCall.{merge_call}
use Rattle.format.specs.declared.records.Record.{Record}
use Rattle.format.specs.declared.records.Record.TheVariants.{Singleton, Merge, Show, Stops, OnSet}
use Rattle.format.specs.declared.records.SetRecord.{SetRecord}
use Rattle.format.specs.Bytes.{words_at}
use Rattle.format.specs.Answers.{set_call, call_in, Before}
use Rattle.replies.specs.Laid.{Wrote}
use Rattle.replies.specs.Lines.{entries_line}
use Rattle.replies.specs.Replies.{lent, wiped, stops_call, call_of}
use Rattle.replies.specs.Replies.Laws.{Answered, Replied, on_store_lem}

-- the stop states of a record stand in the script s
pub record Stands (s : List ℕ) (x : Record) : Type 0 where
  pub next : ℕ
  pub before : Before s next x

pub stops_within : (s : List ℕ) (x : Record) → Stands s x → (p n : ℕ) → x ≡ Stops p n → p + 4 * n ≤ length s
stops_within s x k p n e = let b = rw e at k.before in omega (arith, b.0, b.1)

-- ---- the call, by the record

module _ (b s w v t z : List ℕ) (x : Record) (r : ℕ) (u : List ℕ) where
  pub call_singleton : (p : ContextId) (q : ReturnState) → x ≡ Singleton p q → (w' z' : List ℕ) → Replied b [] (singleton_call w z p.0 q.0) r u w' z'
      → Answered b (call_of (lent w v t z) (call_in s x)) r u (lent w' v t z')
  unfolding call_of
  call_singleton p q e w' z' k = rw e (on_store_lem b [] _ r u w' v t z' (lent w v t z) k refl refl)

  pub call_merge : (p q : ContextId) (m : Bool) → x ≡ Merge p q m → (w' z' : List ℕ) → Replied b [] (merge_call w z p.0 q.0 m) r u w' z'
      → Answered b (call_of (lent w v t z) (call_in s x)) r u (lent w' v t z')
  unfolding call_of
  call_merge p q m e w' z' k = rw e (on_store_lem b [] _ r u w' v t z' (lent w v t z) k refl refl)

  pub call_show : (p : ContextId) → x ≡ Show p → (z' : List ℕ)
      → Replied b (entries_line (node_at (store_of w) p.0)) (asked w z p.0 done) r u w z' → Answered b (call_of (lent w v t z) (call_in s x)) r u (lent w v t z')
  unfolding call_of
  call_show p e z' k = rw e (on_store_lem b (entries_line (node_at (store_of w) p.0)) _ r u w v t z' (lent w v t z) k refl refl)

  pub call_stops : (p n : ℕ) → x ≡ Stops p n → (t' z' : List ℕ) → z' ≡ wiped z
      → Wrote b 0 (stops_call t (words_at s p n)).0 r u × (t' ≡ (stops_call t (words_at s p n)).1) → Answered b (call_of (lent w v t z) (call_in s x)) r u (lent w v t' z')
  unfolding call_of
  call_stops p n e t' z' y k = rw e (record { wrote = k.0; words = rw (k.1, y) })

  pub call_set : (y : SetRecord) → x ≡ OnSet y → (w' v' z' : List ℕ) → Answered b (call_of (lent w v t z) (set_call y)) r u (lent w' v' t z')
      → Answered b (call_of (lent w v t z) (call_in s x)) r u (lent w' v' t z')
  call_set y e w' v' z' k = rw e k
