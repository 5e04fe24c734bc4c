-- The text of a run is a lawful text.
use Rattle.std.proofs.Common.{ℕ, ◌≡◌, List, reverse, inl}
use Rattle.pm_model.specs.declared.plan.Plan.{Plan}
use Rattle.pm_model.specs.FirstBad.{AreLinesOf, IsLawfulText}
use Rattle.pm_model.specs.Text.{text1}
use Rattle.pm_model.proofs.SerialLemmas.{serial_lawful}
use Rattle.pm_show_runs.specs.Words.{run_of}

pub written_is_lawful : (plan : Plan) (bytes : List ℕ) → AreLinesOf plan (run_of plan) → bytes ≡ text1 plan (reverse (run_of plan)) → IsLawfulText plan bytes
written_is_lawful plan bytes of_plan same = (run_of plan, serial_lawful plan, inl (of_plan, same))
