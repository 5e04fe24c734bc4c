use Rattle.std.proofs.Common.{[], arith}
use Rattle.pm_serial.proofs.coming.SerialLines.start.Goals as goal

pub after-requires-clause-stand : goal.after-requires-clause-stand
after-requires-clause-stand c = c.all_stand_well.ensures c.args.plan.now [] c.in_ok-state.state.world tt (omega arith) c.in_ok-state.ensures.start
