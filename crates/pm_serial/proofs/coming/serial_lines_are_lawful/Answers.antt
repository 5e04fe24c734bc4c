use Rattle.std.proofs.Common.{reverse}
use Rattle.pm_model.specs.Serial.{serial}
use Rattle.pm_serial.proofs.ComingLemmas.{serial_in_time, serial_is_lawful}
use Rattle.pm_serial.proofs.coming.serial_lines_are_lawful.Goals as goal

pub returns-clause-lawful : goal.returns-clause-lawful
returns-clause-lawful c = λ plan. serial_is_lawful plan

pub returns-clause-of_plan : goal.returns-clause-of_plan
returns-clause-of_plan c = λ plan. c.lines_are_of_plan.ensures.all plan (reverse (serial plan)) (serial_is_lawful plan) (serial_in_time plan c.due_moments.ensures.due)
