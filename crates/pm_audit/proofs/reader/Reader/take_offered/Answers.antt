-- By what the reader takes lines by.
use Rattle.pm_audit.proofs.reader.Reader.take_offered.Goals as goal

pub returns-clause-taken : goal.returns-clause-taken
returns-clause-taken g c = rw (← c.self.view_is) c.take_offered.ensures.taken
