use Rattle.std.proofs.Common.{subst, sym}
use Rattle.pm_laws.specs.turns.Wakes.{wakes}
use Rattle.pm_turns.specs.Seats.{Asks}
use Rattle.pm_turns.specs.Turning.{AreOf, Index}
use Rattle.pm_turns.proofs.IndexLemmas.{asks_seat}
use Rattle.pm_turns.proofs.turns.Turns.refresh_at.Goals as goal

pub returns-clause-asks : goal.returns-clause-asks
returns-clause-asks c =
    let plan = c.args.plan.now in
    let wake = wakes plan c.args.state.now.world in
    let of_plan = subst (λ (x : Index). AreOf plan x.rows) (sym c.self.view_is) c.requires.seats in
    subst (λ (x : Index). Asks wake x.rows c.set.new.self) c.self.view_is
    (asks_seat wake plan c.self.inside.rows c.set.new.self c.args.seat c.wakes-moment.result of_plan c.set.ensures c.wakes-moment.ensures)
