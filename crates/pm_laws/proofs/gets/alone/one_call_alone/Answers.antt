use Rattle.pm_laws.proofs.gets.alone.one_call_alone.Goals as goal
use Rattle.pm_laws.proofs.gets.Calling as proof

pub returns : goal.returns
returns c = proof.one_call_alone
