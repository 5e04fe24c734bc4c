-- The warnings that a plan has (this project's own), in the order of its rows: devices, links, and callers with their
-- commands.
use Rattle.std.specs.Prelude.{ℕ, Bool, not, ◌&&◌, List, [], ◌∷◌, ◌++◌, length, nat_eq, take, if◌then◌else◌}
use Rattle.std.specs.List.{enumerate_from, flat_map}
use Rattle.pm_model.specs.declared.event.Command.{Command}
use Rattle.pm_model.specs.declared.plan.Plan.{Plan}
use Rattle.pm_model.specs.declared.rows.CallerRow.{CallerRow}
use Rattle.pm_model.specs.declared.rows.DeviceRow.{DeviceRow}
use Rattle.pm_model.specs.declared.rows.LinkRow.{LinkRow}
use Rattle.pm_say.specs.declared.lints.Warning.{Warning}
use Rattle.pm_say.specs.declared.lints.Warning.TheVariants as warning
use Rattle.pm_say.specs.lints.Commands.{is_dark, is_uneven, keeps_autosuspend, lacks_autosuspend}
use Rattle.pm_say.specs.lints.Devices.{is_enabled, is_needed, is_used}
use Rattle.pm_say.specs.lints.Scripts.{is_added}

-- a warning where it holds
abbrev pub when : Bool → Warning → List Warning
when holds w = if holds then w ∷ [] else []

-- what is said of each row, with its place
abbrev pub of_rows : {A : Type 0} → (ℕ → A → List Warning) → List A → List Warning
of_rows says rows = flat_map (λ p. says p.0 p.1) (enumerate_from 0 rows)

-- a device that some script uses and none enables, or that nothing needs
unfoldable pub of_device : Plan → ℕ → DeviceRow → List Warning
of_device plan d row = when (is_used plan d && not (is_enabled plan d)) (warning.NeverEnabled d) ++ when (not (is_needed plan d row)) (warning.NotNeeded d)

-- a link that is there only later, and that no script adds
unfoldable pub of_link : Plan → ℕ → LinkRow → List Warning
of_link plan l row = when (row.later && not (is_added plan row)) (warning.NeverAdded l)

unfoldable pub of_command : Plan → ℕ → List Command → ℕ → Command → List Warning
of_command plan c script k command =
    when (lacks_autosuspend plan command) (warning.NoAutosuspend c k)
    ++ when (is_dark plan (take k script) command) (warning.DomainOff c k)
    ++ when (is_uneven script k command) (warning.Uneven c k)
    ++ when (keeps_autosuspend plan command) (warning.KeepsAutosuspend c k)

-- a caller without commands, and what is wrong with the commands of one
unfoldable pub of_caller : Plan → ℕ → CallerRow → List Warning
of_caller plan c row = when (nat_eq (length row.script) 0) (warning.NoCommands c) ++ of_rows (of_command plan c row.script) row.script

-- all
unfoldable pub warnings_of : Plan → List Warning
warnings_of plan = of_rows (of_device plan) plan.devices ++ of_rows (of_link plan) plan.links ++ of_rows (of_caller plan) plan.callers
