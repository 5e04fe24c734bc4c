-- What the code marks (this project's own): for each device, whether some script does something to it.
use Rattle.std.specs.Prelude.{◌≡◌, ◌<◌, ◌||◌, ℕ, Bool, false, List, [], length, slice_index_or}
use Rattle.pm_model.specs.declared.event.Command.{Command}
use Rattle.pm_model.specs.declared.plan.Plan.{Plan}
use Rattle.pm_say.specs.declared.lints.helpers.Deed.{Deed}
use Rattle.pm_say.specs.declared.lints.helpers.Deed.TheVariants as deed
use Rattle.pm_say.specs.declared.lints.marks.Marks.{Marks}
use Rattle.pm_say.specs.lints.Commands.{is_lit}
use Rattle.pm_say.specs.lints.Scripts.{is_done}

-- what is marked now: what was before, and what passes the test
abbrev pub Adds : (ℕ → Bool) → List Bool → List Bool → Type 0
Adds test before now = (d : ℕ) → d < length before → slice_index_or now d false ≡ (slice_index_or before d false || test d)

-- the marks of the devices to which scripts do this
abbrev pub AreOf : Plan → Deed → List Bool → Type 0
AreOf plan deed marks = (d : ℕ) → d < length plan.devices → slice_index_or marks d false ≡ is_done plan deed d

-- the domains that are on after these commands
abbrev pub AreLit : Plan → List Command → List Bool → Type 0
AreLit plan before on =
    (length on ≡ length plan.domains) × ((o : ℕ) → o < length plan.domains → slice_index_or on o false ≡ is_lit plan before o)

pub record IsMarked (plan : Plan) (marks : Marks) : Type 0 where
  pub named : AreOf plan deed.Names marks.named.items
  pub supplying : AreOf plan deed.Supplies marks.supplying.items
  pub used : AreOf plan deed.Uses marks.used.items
  pub enabled : AreOf plan deed.Enables marks.enabled.items
  pub autosuspended : AreOf plan deed.UsesAutosuspend marks.autosuspended.items
  pub delayed : AreOf plan deed.SetsDelay marks.delayed.items
  pub stopped : AreOf plan deed.StopsAutosuspend marks.stopped.items
  pub kept_on : AreLit plan [] marks.kept_on.items
