use Rattle.pm_laws.proofs.bounds.counts_have_room.Goals as goal
use Rattle.pm_laws.proofs.bounds.Bounded.{rooms}
use Rattle.pm_laws.proofs.bounds.Called.{called_room}

pub returns-clause-calls : goal.returns-clause-calls
returns-clause-calls c = called_room

pub returns-clause-devices : goal.returns-clause-devices
returns-clause-devices c = rooms
