-- Why a device may be Active over a parent or a supplier that isn't (this project's own). Lists of lines have the newest line
-- first; lines are counted from 1.
use Rattle.std.specs.Prelude.{ℕ, ◌+◌, length, if◌then◌else◌}
use Rattle.pm_base.specs.declared.DevId.{DevId}
use Rattle.pm_model.specs.declared.plan.Plan.{Plan}
use Rattle.pm_model.specs.Counted.{only_if}
use Rattle.pm_model.specs.Excuse.{forces, was_disabled_at_entry, was_forced}
use Rattle.pm_model.specs.History.{History, last_said}
use Rattle.pm_safety.specs.declared.dependencies.bond.Excuse.{Excuse}
use Rattle.pm_safety.specs.declared.dependencies.bond.Excuse.TheVariants as excuse

-- the last line that forced the status of x, or 0
abbrev pub forced_line : History → DevId → ℕ
forced_line h x = last_said (λ g line. only_if (forces x line.event) (length g + 1)) 0 h

-- of d and its parent p: the status of p was forced since d was last Suspended; else p was disabled when d began to resume;
-- else p ignored its children then or later
abbrev pub parent_excuse : Plan → History → DevId → DevId → Excuse
parent_excuse plan h d p =
    if was_forced plan h d p then excuse.Forced (forced_line h p)
    else if was_disabled_at_entry plan h d p then excuse.Disabled
    else excuse.Ignored

-- of d and a supplier s: the status of s was forced since d was last Suspended; else s was disabled when it was to resume for d
abbrev pub supplier_excuse : Plan → History → DevId → DevId → Excuse
supplier_excuse plan h d s = if was_forced plan h d s then excuse.Forced (forced_line h s) else excuse.Disabled
