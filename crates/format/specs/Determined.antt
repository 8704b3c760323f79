-- Two answers that satisfy the decoder's contract for the same bytes are equal, case and values. Nothing here has to be believed.
use Rattle.std.specs.Prelude.{◌≡◌, refl, List, ℕ, ◌*◌, ◌-◌, length}
use Rattle.std.proofs.Common.{sym, ap, ◌∙◌, arith}
use Rattle.setcheck.specs.Config.{Config}
use Rattle.setcheck.specs.declared.config.AtnConfig.{AtnConfig}
use Rattle.format.specs.declared.records.Record.{Record}
use Rattle.format.specs.declared.records.Record.TheVariants.{Singleton, Merge, Show, Stops, OnSet}
use Rattle.format.specs.declared.records.SetRecord.{SetRecord}
use Rattle.format.specs.declared.records.SetRecord.TheVariants.{NewSet, Add, Verdict, Close, Why}
use Rattle.format.specs.declared.records.Step.{Step}
use Rattle.format.specs.declared.records.Step.TheVariants.{Found, End, Malformed}
use Rattle.format.specs.Bytes.{words_at}
use Rattle.format.specs.Bytes.Laws.{length_words}
use Rattle.format.specs.Format.{singleton, merge, new_set, add, stops, verdict, show, close, why, Reading, found, ended, malformed, read_at, Record as Call}
use Rattle.format.specs.Answers.{set_call, call_in, reading, Before, Placed}

unfoldable atn_config : Config → AtnConfig
atn_config x = record {
  state = x.state;
  alt = record { 0 = x.alternative };
  context = record { 0 = x.context };
  semantic_context = record { 0 = x.semantic };
  reaches_into_outer_context = x.reach;
  semantic_provenance_and_flags = x.provenance;
}

-- the answer, back from what it stands for; stop states stand right before the place e
unfoldable record_of : ℕ → Call → Record
record_of e (singleton p r) = Singleton (record { 0 = p }) (record { 0 = r })
record_of e (merge a b m) = Merge (record { 0 = a }) (record { 0 = b }) m
record_of e (new_set m) = OnSet (NewSet m)
record_of e (add x) = OnSet (Add (atn_config x))
record_of e (stops xs) = Stops (e - 4 * length xs) (length xs)
record_of e verdict = OnSet Verdict
record_of e (show c) = Show (record { 0 = c })
record_of e close = OnSet Close
record_of e why = OnSet Why

set_back : (e : ℕ) (r : SetRecord) → record_of e (set_call r) ≡ OnSet r
unfolding record_of atn_config
set_back e (NewSet m) = refl
set_back e (Add x) = refl
set_back e Verdict = refl
set_back e Close = refl
set_back e Why = refl

record_back : (s : List ℕ) (e : ℕ) (r : Record) → Before s e r → record_of e (call_in s r) ≡ r
unfolding record_of atn_config
record_back s e (Singleton p r) b = refl
record_back s e (Merge x y m) b = refl
record_back s e (Stops p n) b =
    let l : length (words_at s p n) ≡ n = length_words s p n in
    let q : e - 4 * n ≡ p = omega (arith, b.0) in
    ap (λ (k : ℕ). Stops (e - 4 * k) k) l ∙ ap (λ (k : ℕ). Stops k n) q
record_back s e (Show c) b = refl
record_back s e (OnSet x) b = set_back e x

unfoldable answer_of : Reading → Step
answer_of (found r j) = Found (record_of j r) j
answer_of ended = End
answer_of malformed = Malformed

answer_back : (s : List ℕ) (a : Step) → Placed s a → answer_of (reading s a) ≡ a
unfolding answer_of
answer_back s (Found r j) b = ap (λ (q : Record). Found q j) (record_back s j r b)
answer_back s End b = refl
answer_back s Malformed b = refl

pub decode_determined : (s : List ℕ) (i : ℕ) (a b : Step) → reading s a ≡ read_at s i → Placed s a → reading s b ≡ read_at s i → Placed s b → a ≡ b
decode_determined s i a b p pa q qb = sym (answer_back s a pa) ∙ ap answer_of (p ∙ sym q) ∙ answer_back s b qb
