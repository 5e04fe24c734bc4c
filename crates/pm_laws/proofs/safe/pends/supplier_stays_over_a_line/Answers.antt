use Rattle.pm_laws.proofs.counts.Runs.{permitted, lawful_holds}
use Rattle.pm_laws.proofs.safe.pends.supplier_stays_over_a_line.Goals as goal
use Rattle.pm_laws.proofs.safe.Supplying.{supplier_step}

pub returns : goal.returns
returns c = λ plan h line l d s lawful within supplier_within is bonds old.
    supplier_step plan h line l d s lawful within supplier_within is (permitted plan h line lawful.0 (lawful_holds plan h lawful.2)) bonds old
