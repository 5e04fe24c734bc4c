-- The first refusal of a driver (this project's own).
use Rattle.std.specs.Prelude.{◌≡◌, ⊤, ℕ, Option, Some, None, Result, Ok, Err}
use Rattle.pm_driver_read.specs.declared.refusal.DriverFault.{DriverFault}
use Rattle.pm_driver_read.specs.declared.refusal.DriverFault.TheVariants as fault
use Rattle.pm_driver_read.specs.declared.refusal.DriverRefusal.{DriverRefusal}
use Rattle.pm_driver_read.specs.declared.refusal.DriverRefusal.TheVariants as refusal
use Rattle.pm_driver_read.specs.declared.refusal.ProgramWhy.{ProgramWhy}
use Rattle.pm_planread.specs.declared.refusal.PlanWhy.{PlanWhy}
use Rattle.pm_planread.specs.declared.tree.place.Place.{Place}

abbrev pub refused : ℕ → ℕ → ProgramWhy → DriverRefusal
refused caller step why = refusal.Program (record { caller = caller; step = step; why = why })

abbrev pub plan_refused : PlanWhy → Place → DriverRefusal
plan_refused why at = refusal.Plan why at.section at.item at.part

-- what is read where nothing is refused
abbrev pub unless : {A : Type 0} → Option DriverRefusal → Result A DriverRefusal → Result A DriverRefusal
unless None rest = rest
unless (Some r) rest = Err r

-- the fault is the refusal, or want of memory, which says nothing of the file
abbrev pub IsFaultOf : {A : Type 0} → Result A DriverRefusal → DriverFault → Type 0
IsFaultOf read fault.NoMemory = ⊤
IsFaultOf read (fault.Refused r) = read ≡ Err r

-- where a refusal stops the reading
abbrev pub stopped : Option DriverRefusal → Result ⊤ DriverFault
stopped None = Ok tt
stopped (Some r) = Err (fault.Refused r)
