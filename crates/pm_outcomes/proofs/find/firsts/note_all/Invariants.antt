use Rattle.std.proofs.Common.{◌++◌, ℕ, List, map, take}
use Rattle.pm_outcomes.specs.declared.list.observations.Observation.{Observation}
use Rattle.pm_outcomes.specs.list.Firsts.{AreFirsts, IsUpTo}
use Rattle.pm_outcomes.proofs.find.firsts.note_all.Given as goal

-- so many of the observations are noted
abbrev pub invariant-loop-observation : goal.invariant-loop-observation
invariant-loop-observation l = (seen : List (Observation × ℕ)) → IsUpTo l.place seen → AreFirsts seen l.initial.firsts.entries.entries → AreFirsts (seen ++ map (λ m. (m, l.place)) (take l.observation-index l.observations)) l.firsts.entries.entries
