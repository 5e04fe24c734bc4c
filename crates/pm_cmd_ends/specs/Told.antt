-- What is told of a plan's file: its bytes are a plan or they are none (this project's own).
use Rattle.std.specs.Prelude.{ℕ, List, Option, Contains, IsErr, IsOk, IsOkAnd, IsSomeAnd, map}
use Rattle.pm_planread.specs.PlanOf.{Contents, plan_of}

-- what is told of a file is a plan, or is none
abbrev pub IsPlan : Option (List ℕ) → Type 0
IsPlan told = IsSomeAnd told (λ bytes. IsOk (plan_of bytes))

abbrev pub IsNoPlan : Option (List ℕ) → Type 0
IsNoPlan told = IsSomeAnd told (λ bytes. IsErr (plan_of bytes))

-- it is a plan, and a device of it has the name, or none has
abbrev pub Names : List ℕ → Contents → Type 0
Names name plan = Contains (map (λ row. row.name) plan.devices) name

abbrev pub HasDevice : Option (List ℕ) → List ℕ → Type 0
HasDevice told name = IsSomeAnd told (λ bytes. IsOkAnd (plan_of bytes) (Names name))

abbrev pub LacksDevice : Option (List ℕ) → List ℕ → Type 0
LacksDevice told name = IsSomeAnd told (λ bytes. IsOkAnd (plan_of bytes) (λ plan. ¬ Names name plan))
