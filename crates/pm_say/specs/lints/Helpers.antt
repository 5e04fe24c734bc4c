-- What helpers do, so far as warnings ask (runtime_pm.rst, section 4; the link helpers are this project's own).
use Rattle.std.specs.Prelude.{ℕ, Bool, true, false, not, ◌&&◌, ◌||◌, Option, Some, None, nat_abs, if◌then◌else◌}
use Rattle.pm_model.specs.declared.event.Command.{Command}
use Rattle.pm_model.specs.declared.event.Helper.{Helper}
use Rattle.pm_model.specs.declared.event.Helper.TheVariants as helper
use Rattle.pm_model.specs.Spelling.{takes_device}
use Rattle.pm_say.specs.declared.lints.helpers.Deed.{Deed}
use Rattle.pm_say.specs.declared.lints.helpers.Deed.TheVariants as deed
use Rattle.pm_say.specs.declared.lints.helpers.Move.{Move}
use Rattle.pm_say.specs.declared.lints.helpers.Move.TheVariants as move

-- the helpers that change a link
abbrev pub is_of_link : Helper → Bool
is_of_link helper.LinkAdd = true
is_of_link helper.LinkDel = true
is_of_link _ = false

abbrev pub is_enable : Helper → Bool
is_enable helper.Enable = true
is_enable _ = false

abbrev pub is_use_autosuspend : Helper → Bool
is_use_autosuspend helper.UseAutosuspend = true
is_use_autosuspend _ = false

abbrev pub is_dont_use_autosuspend : Helper → Bool
is_dont_use_autosuspend helper.DontUseAutosuspend = true
is_dont_use_autosuspend _ = false

abbrev pub is_disabling : Helper → Bool
is_disabling helper.Disable = true
is_disabling _ = false

abbrev pub is_set_delay : Helper → Bool
is_set_delay helper.SetAutosuspendDelay = true
is_set_delay _ = false

abbrev pub is_put_autosuspend : Helper → Bool
is_put_autosuspend helper.PutAutosuspend = true
is_put_autosuspend _ = false

abbrev pub is_set_active : Helper → Bool
is_set_active helper.SetActive = true
is_set_active _ = false

abbrev pub is_link_add : Helper → Bool
is_link_add helper.LinkAdd = true
is_link_add _ = false

-- the helpers that ask for a resume of their device; forbid does it too
abbrev pub resumes : Helper → Bool
resumes helper.GetSync = true
resumes helper.Get = true
resumes helper.Resume = true
resumes helper.RequestResume = true
resumes helper.Forbid = true
resumes _ = false

-- the gets: those that take a count whatever the device's state, and those that take one only in some states; and the
-- puts (the rows of HelperTable: helper_starts). forbid and allow move a count of their own, and are neither.
abbrev pub moves : Move → Helper → Bool
moves move.Raises helper.GetSync = true
moves move.Raises helper.Get = true
moves move.Raises helper.GetNoresume = true
moves move.MayRaise helper.GetIfInUse = true
moves move.MayRaise helper.GetIfActive = true
moves move.Lowers helper.Put = true
moves move.Lowers helper.PutSync = true
moves move.Lowers helper.PutNoidle = true
moves move.Lowers helper.PutAutosuspend = true
moves move.Lowers helper.PutSyncSuspend = true
moves move.Lowers helper.PutSyncAutosuspend = true
moves _ _ = false

-- a get or a put
abbrev pub is_move : Helper → Bool
is_move h = moves move.Raises h || moves move.MayRaise h || moves move.Lowers h

-- whether a helper does this to its device
abbrev pub does : Deed → Helper → Bool
does deed.Names h = takes_device h
does deed.Uses h = takes_device h && not (is_of_link h)
does deed.Supplies h = is_of_link h
does deed.Enables h = is_enable h
does deed.UsesAutosuspend h = is_use_autosuspend h
does deed.SetsDelay h = is_set_delay h
does deed.StopsAutosuspend h = is_dont_use_autosuspend h

-- the place of the device that is meant: the supplier of a link's helper, or the device
abbrev pub meant : Deed → Command → ℕ
meant deed.Supplies c = nat_abs c.number
meant _ c = c.dev.0

-- the device to which a command does this, by its place
abbrev pub place_of : Deed → Command → Option ℕ
place_of deed c = if does deed c.helper then Some (meant deed c) else None
