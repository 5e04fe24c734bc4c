-- Commands that look wrong where they stand in their script (this project's own).
use Rattle.std.specs.Prelude.{ℕ, ◌+◌, Bool, false, not, ◌&&◌, ◌||◌, List, drop, count_by, nat_eq, nat_le}
use Rattle.std.specs.List.{list_any}
use Rattle.std.specs.Option.{option_map_or}
use Rattle.pm_base.specs.declared.DevId.{DevId}
use Rattle.pm_model.specs.declared.event.Command.{Command}
use Rattle.pm_model.specs.declared.plan.Plan.{Plan}
use Rattle.pm_model.specs.PlanRows.{domain, domains_of, is_kept_on}
use Rattle.pm_say.specs.declared.lints.helpers.Deed.TheVariants as deed
use Rattle.pm_say.specs.declared.lints.helpers.Move.{Move}
use Rattle.pm_say.specs.declared.lints.helpers.Move.TheVariants as move
use Rattle.pm_say.specs.lints.Helpers.{is_disabling, is_move, is_put_autosuspend, is_set_active, is_set_delay, moves, resumes}
use Rattle.pm_say.specs.lints.Scripts.{is_done}

-- set_autosuspend_delay of a device without a use_autosuspend of it in any script, or put_autosuspend of one with neither
abbrev pub lacks_autosuspend : Plan → Command → Bool
lacks_autosuspend plan c =
    not (is_done plan deed.UsesAutosuspend c.dev.0)
    && (is_set_delay c.helper || (is_put_autosuspend c.helper && not (is_done plan deed.SetsDelay c.dev.0)))

-- disable of a device that some script lets use autosuspend, and none stops from it: the setting outlives the driver (runtime_pm.rst, section 9)
abbrev pub keeps_autosuspend : Plan → Command → Bool
keeps_autosuspend plan c =
    is_disabling c.helper && is_done plan deed.UsesAutosuspend c.dev.0 && not (is_done plan deed.StopsAutosuspend c.dev.0)

-- a command asks for a resume of a device in domain o or below it, which switches o on
abbrev pub switches_on : Plan → ℕ → Command → Bool
switches_on plan o c = resumes c.helper && list_any (nat_eq o) (domains_of plan c.dev)

-- domain o is always on, or one below it is, or one of these commands switches it on
abbrev pub is_lit : Plan → List Command → ℕ → Bool
is_lit plan before o = is_kept_on plan.domains o || list_any (switches_on plan o) before

-- set_active of a device whose domain nothing before it in its script switches on
abbrev pub is_dark : Plan → List Command → Command → Bool
is_dark plan before c = is_set_active c.helper && option_map_or (λ o. not (is_lit plan before o.0)) (domain plan c.dev) false

-- a command moves the usage count of d so
abbrev pub moves_of : DevId → Move → Command → Bool
moves_of d move c = nat_eq c.dev.0 d.0 && moves move c.helper

-- how often commands do
abbrev pub moved : List Command → DevId → Move → ℕ
moved script d move = count_by (moves_of d move) script

-- a get or a put of d
abbrev pub is_move_of : DevId → Command → Bool
is_move_of d c = nat_eq c.dev.0 d.0 && is_move c.helper

-- there are as many puts of d as gets, where a get that takes a count only in some states may count or not
abbrev pub adds_up : List Command → DevId → Bool
adds_up script d =
    nat_le (moved script d move.Raises) (moved script d move.Lowers)
    && nat_le (moved script d move.Lowers) (moved script d move.Raises + moved script d move.MayRaise)

-- the last get or put of its device in the script, at place k, where they don't add up
abbrev pub is_uneven : List Command → ℕ → Command → Bool
is_uneven script k c = is_move c.helper && not (list_any (is_move_of c.dev) (drop (k + 1) script)) && not (adds_up script c.dev)
