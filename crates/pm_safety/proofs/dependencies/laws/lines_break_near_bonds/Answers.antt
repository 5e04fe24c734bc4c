use Rattle.pm_safety.proofs.dependencies.BrokenBy.{broken_is, none_broken}
use Rattle.pm_safety.proofs.dependencies.laws.lines_break_near_bonds.Goals as goal

pub returns-clause-turned : goal.returns-clause-turned
returns-clause-turned c = λ plan h line d lawful turned inside. broken_is plan h line lawful d turned inside

pub returns-clause-none : goal.returns-clause-none
returns-clause-none c = λ plan h line lawful turned. none_broken plan h line lawful turned
