use Rattle.std.proofs.Common.{subst}
use Rattle.pm_turns.proofs.IndexLemmas.{NextIs, next_by}
use Rattle.pm_turns.proofs.turns.Turns.next_seat.Goals as goal

pub returns-clause-turn : goal.returns-clause-turn
returns-clause-turn c =
    subst (NextIs c.next.result) c.self.view_is
    (next_by c.next.result (record { rows = c.self.inside.rows; queues = c.self.inside.waiters.items }) c.next.ensures.begins c.next.ensures.turn)
