-- What is said of the bytes of a plan's file (this project's own).
use Rattle.std.specs.Prelude.{◌≡◌, ⊤, ℕ, List, Ok, Err}
use Rattle.pm_planread.specs.PlanOf.{Contents, plan_of}
use Rattle.pm_planread.specs.declared.refusal.PlanFault.{PlanFault}
use Rattle.pm_planread.specs.declared.refusal.PlanFault.TheVariants as plan_fault
use Rattle.pm_say.specs.Faults.{Tells}
use Rattle.pm_say.specs.Warned.{TellsPlan}
use Rattle.pm_say.specs.declared.told.NoPlan.{NoPlan}
use Rattle.pm_say.specs.declared.told.NoPlan.TheVariants as no_plan
use Rattle.pm_say.specs.declared.told.Said.{Said}
use Rattle.pm_say.specs.declared.told.Kind.TheVariants.{Refused}

-- Either the bytes are refused, and the refusal is told, or they are a plan, and its warnings and its counts are told.
pub data Says (file text : List ℕ) (said : Said) : Type 0 where
  of_fault : (fault : PlanFault) → plan_of text ≡ Err fault → said.kind ≡ Refused → Tells file text fault said.text.items → Says file text said
  of_plan : (contents : Contents) → plan_of text ≡ Ok contents → TellsPlan file text contents said → Says file text said

-- what is told of this fault, where memory doesn't run out
abbrev pub TellsOf : List ℕ → List ℕ → PlanFault → NoPlan → Type 0
TellsOf file text fault no_plan.NoMemory = ⊤
TellsOf file text plan_fault.NoMemory (no_plan.Refused told) = ⊥
TellsOf file text (plan_fault.Refused why section item part) (no_plan.Refused told) = Tells file text (plan_fault.Refused why section item part) told.items

-- the bytes are refused, and the refusal is told; or memory ran out, which says nothing of them
abbrev pub IsNoPlan : List ℕ → List ℕ → NoPlan → Type 0
IsNoPlan file text (no_plan.Refused told) = (fault : PlanFault) × (plan_of text ≡ Err fault) × Tells file text fault told.items
IsNoPlan file text no_plan.NoMemory = ⊤
