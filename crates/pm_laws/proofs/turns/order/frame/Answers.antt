use Rattle.pm_laws.proofs.turns.order.frame.Goals as goal
use Rattle.pm_laws.proofs.turns.Frames.{wakes_frame}

pub returns : goal.returns
returns c = wakes_frame
