-- To believe: the call that answers all figures of a set at once, as document 01's `V` line has them, with the refusals of the verdict in their order.
use Rattle.std.specs.Prelude.{List, [], ℕ, length}
use Rattle.setcheck.specs.Config.{Config}
use Rattle.setcheck.specs.Words.{set_of}
use Rattle.grouping.specs.Groups.{groups}
use Rattle.grouping.specs.Answers.{unique_alt, single_viable_alt, verdict}
use Rattle.verdicts.specs.Calls.{Summary, VerdictLeft, summary, read_call, too_many_stops}

-- "`V` subset count, unique alternative, viable alternative, verdict"
abbrev pub figures_of : List ℕ → List Config → Summary
figures_of stops cs = record { subsets = length (groups cs); unique = unique_alt cs; viable = single_viable_alt cs; verdict = verdict stops cs }

unfoldable pub figures_call : List ℕ → List ℕ → List ℕ → List ℕ → VerdictLeft
figures_call w v z stops = read_call 0 (too_many_stops stops) w v z [] (summary (figures_of stops (set_of v).configs)) []
