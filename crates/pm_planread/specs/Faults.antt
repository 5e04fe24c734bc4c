-- The first of several refusals (this project's own).
use Rattle.std.specs.Prelude.{◌≡◌, ⊤, Option, Some, None, Result, Err}
use Rattle.pm_planread.specs.declared.tree.place.Place.{Place}
use Rattle.pm_planread.specs.declared.refusal.PlanFault.{PlanFault}
use Rattle.pm_planread.specs.declared.refusal.PlanFault.TheVariants.{NoMemory, Refused}
use Rattle.pm_planread.specs.declared.refusal.PlanWhy.{PlanWhy}
use Rattle.pm_planread.specs.declared.refusal.PlanWhy.TheVariants.{Script}

abbrev pub refused : PlanWhy → Place → PlanFault
refused why at = Refused why at.section at.item at.part

-- what is read where there is no fault
abbrev pub unless : {A : Type 0} → Option Place → PlanWhy → Result A PlanFault → Result A PlanFault
unless None why rest = rest
unless (Some at) why rest = Err (refused why at)

-- the fault is the refusal of the first command that is none, or want of memory, which says nothing of the scripts
abbrev pub IsScriptFault : Option Place → PlanFault → Type 0
IsScriptFault at NoMemory = ⊤
IsScriptFault (Some at) fault = fault ≡ refused Script at
IsScriptFault None fault = ⊥
