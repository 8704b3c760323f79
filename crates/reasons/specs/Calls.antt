-- To believe: the question for the reason, as a function of what came in; refused as the verdict is, and for an output that has not 257 words.
use Rattle.std.specs.Prelude.{List, [], ◌∷◌, ℕ, length}
use Rattle.groups.specs.Words.{set_of}
use Rattle.groups.specs.Reason.{Reason, stop, none, one, clash, reason}
use Rattle.outputs.specs.Outputs.{alts_length, padded}
use Rattle.verdicts.specs.Calls.{VerdictLeft, because, read_call, too_many_stops}

-- the alternatives that clash
unfoldable pub clashing : Reason → List ℕ
clashing stop = []
clashing none = []
clashing (one s a) = []
clashing (clash s k xs) = xs

-- as the words of `conflicting_alts`: count, alternatives rising, rest 0; all 0 unless it is a clash
unfoldable pub reason_words : Reason → List ℕ
reason_words r = padded alts_length (length (clashing r) ∷ clashing r)

unfoldable pub why_call : List ℕ → List ℕ → List ℕ → List ℕ → List ℕ → VerdictLeft
why_call w v z stops o =
    let r = reason stops (set_of v).configs in
    read_call alts_length (too_many_stops stops) w v z o (because r) (reason_words r)
