use Rattle.pm_safety.proofs.dependencies.DomainFrames.{domain_frame}
use Rattle.pm_safety.proofs.dependencies.laws.domains_stay_on.Goals as goal

pub returns : goal.returns
returns c = domain_frame
