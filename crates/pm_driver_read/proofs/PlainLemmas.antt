-- A plan as the driver that it is.
use Rattle.std.proofs.Common.{◌≡◌, ℕ, ◌+◌, List, [], ◌∷◌, Ok, ap, refl}
use Rattle.pm_model.specs.declared.event.Command.{Command}
use Rattle.pm_driver_read.specs.Drivers.{driver_of, driver_or, plain_driver}
use Rattle.pm_driver_read.specs.Plans.{commands_of}
use Rattle.pm_driver_read.specs.Straight.{straight, straight_from}
use Rattle.pm_planread.specs.PlanOf.{Contents, plan_of}

pub read_so : (bytes : List ℕ) (contents : Contents) → plan_of bytes ≡ Ok contents → driver_of bytes ≡ Ok (plain_driver contents)
unfolding driver_of
read_so bytes contents is = ap (driver_or bytes) is

commands_from : (n : ℕ) (script : List Command) → commands_of (straight_from n script) ≡ script
commands_from n [] = refl
commands_from n (command ∷ script) = ap (λ l. command ∷ l) (commands_from (n + 1) script)

pub commands_so : (script : List Command) → commands_of (straight script).program.places ≡ script
commands_so script = commands_from 0 script
