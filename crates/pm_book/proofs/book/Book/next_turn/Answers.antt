use Rattle.pm_book.proofs.TurnLemmas.{turn_is}
use Rattle.pm_book.proofs.book.Book.next_turn.Goals as goal

pub returns-clause-some : goal.returns-clause-some
returns-clause-some c =
    let p = c.args.self.now in
    turn_is p c.turn_by_index.result c.turn_by_index.ensures.turn c.turn_by_index.ensures.in_range (λ a s at. c.due_moments.ensures.due p.plan p.lines a s c.lines.ensures.lawful at)
    (c.serial_stops.ensures.finished_turn p.plan p.lines)
