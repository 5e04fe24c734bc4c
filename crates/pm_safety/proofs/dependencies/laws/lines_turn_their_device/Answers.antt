use Rattle.pm_safety.proofs.dependencies.IgnoringFrames.{ignores_frame}
use Rattle.pm_safety.proofs.dependencies.StatusFrames.{status_frame}
use Rattle.pm_safety.proofs.dependencies.laws.lines_turn_their_device.Goals as goal

pub returns-clause-status : goal.returns-clause-status
returns-clause-status c = status_frame

pub returns-clause-ignores : goal.returns-clause-ignores
returns-clause-ignores c = ignores_frame
