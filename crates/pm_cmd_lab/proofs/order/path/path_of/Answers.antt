use Rattle.std.proofs.Common.{List, length, subst}
use Rattle.pm_outcomes.specs.declared.list.observations.Outcome.{Outcome}
use Rattle.pm_outcomes.specs.wanted.Listed.{HasItNot}
use Rattle.pm_cmd_lab.proofs.order.path.path_of.Goals as goal

pub none_shows-requires-clause-none : goal.none_shows-requires-clause-none
none_shows-requires-clause-none c =
    subst (λ (outcomes : List Outcome). HasItNot outcomes c.args.observation (length outcomes)) c.as_slice.ensures.value c.in-None.ensures.none
