-- Where the callbacks of an owner run (runtime_pm.rst, section 2).
use Rattle.std.specs.Prelude.{Bool, true, false}
use Rattle.pm_base.specs.declared.Cb.{Cb}
use Rattle.pm_base.specs.declared.Cb.TheVariants as cb
use Rattle.pm_laws.specs.safe.Parts.{Phase, suspending, resuming}

-- the suspend and the resume callback are those of an owner
abbrev pub is_owners : Cb → Bool
is_owners cb.Idle = false
is_owners _ = true

-- the suspend callback runs at S2, the resume callback at R4b
abbrev pub runs_in : Cb → Phase → Bool
runs_in cb.Suspend suspending = true
runs_in cb.Resume resuming = true
runs_in _ _ = false
