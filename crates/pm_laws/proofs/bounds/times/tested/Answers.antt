-- By the test at each of the moments.
use Rattle.pm_laws.proofs.bounds.Testing.{test_complete, test_sound}
use Rattle.pm_laws.proofs.bounds.times.tested.Goals as goal

pub returns-clause-sound : goal.returns-clause-sound
returns-clause-sound c = test_sound

pub returns-clause-complete : goal.returns-clause-complete
returns-clause-complete c = test_complete
