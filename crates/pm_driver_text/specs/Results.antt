-- Results one after another, and the error of one (this project's own).
use Rattle.std.specs.Prelude.{◌≡◌, ⊤, Result, Ok, Err}
use Rattle.pm_driver_text.specs.declared.fault.StepError.{StepError}
use Rattle.pm_driver_text.specs.declared.fault.StepError.TheVariants.{NoMemory, Refused}
use Rattle.pm_driver_text.specs.declared.fault.StepFault.{StepFault}

-- what follows, where there is no fault
infixl 10 ◌>>=◌
abbrev pub ◌>>=◌ : {A B E : Type 0} → Result A E → (A → Result B E) → Result B E
(Ok x) >>= next = next x
(Err e) >>= next = Err e

-- the error is the fault, or want of memory, which says nothing of the text
abbrev pub IsErrorOf : {A : Type 0} → Result A StepFault → StepError → Type 0
IsErrorOf read NoMemory = ⊤
IsErrorOf read (Refused fault) = read ≡ Err fault
