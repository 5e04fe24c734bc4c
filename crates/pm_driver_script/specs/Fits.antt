-- Scripts that fit (this project's own).
use Rattle.std.specs.Prelude.{◌<◌, ◌≤◌, ◌^◌, All, List, length}
use Rattle.pm_driver_script.specs.Calls.{FewNames}
use Rattle.pm_driver_script.specs.declared.program.Numbered.{Numbered}
use Rattle.pm_driver_script.specs.declared.program.Script.{Script}
use Rattle.pm_driver_text.specs.declared.steps.ScriptStep.{ScriptStep}

-- each step has at most 8 exits
abbrev pub HasFewExits : List ScriptStep → Type 0
HasFewExits steps = All (λ step. length step.exits ≤ 8) steps

pub record ScriptFits (script : Script) : Type 0 where
  pub few : length script.steps.now < 2 ^ 31
  pub exits : HasFewExits script.steps.now
  pub names : FewNames script.names.now

pub record IsFew (numbered : Numbered) : Type 0 where
  pub places : length numbered.places.items ≤ 1000
  pub ends : length numbered.ends.items ≤ 1000
