use Rattle.pm_book.proofs.replay.put_move.Goals as goal

-- the line itself may come next
pub unreachable-requires : goal.unreachable-requires
unreachable-requires c = c.offered.ensures.none c.if-not-offered.true c.args.line.now.event c.requires.may
