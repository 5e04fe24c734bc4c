use Rattle.pm_expect.proofs.uses.LackLemmas.{nothing_lacks}
use Rattle.pm_expect.proofs.uses.missing.excused_bonds_lack_nothing.Goals as goal

pub returns : goal.returns
returns c = λ plan h d lawful within. nothing_lacks plan h d (c.runs_are_safe.ensures plan h lawful) within
