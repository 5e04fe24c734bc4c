use Rattle.std.proofs.Common.{◌≡◌, ◌<◌, length}
use Rattle.pm_wq.specs.Hints.{IsOf}
use Rattle.pm_hands.proofs.hands.take_turns.Given as goal

-- the hand is at an island, and its pass is one of the hints
abbrev pub invariant-loop : goal.invariant-loop
invariant-loop g l =
    (goal.iterator-loop g).can_next l.iterator' × (goal.iterator-loop g).is_finite l.iterator' × (l.count ≡ length l.islands.books.now) × (l.at < l.count) × (l.still < l.count) × (l.over < l.count) × IsOf l.hints l.pass
