-- The driver core's own calls around a script (this project's own). A label of spaces is none that a file can write.
use Rattle.std.specs.Prelude.{ℕ, ◌++◌, false, List, [], ◌∷◌, Option, Some, None, codes, filter, length, map, pos}
use Rattle.pm_base.specs.declared.DevId.{DevId}
use Rattle.pm_model.specs.declared.event.Helper.{Helper}
use Rattle.pm_model.specs.declared.event.Helper.TheVariants as helper
use Rattle.pm_driver_read.specs.declared.around.Bus.{Bus}
use Rattle.pm_driver_read.specs.declared.around.Bus.TheVariants as bus
use Rattle.pm_driver_read.specs.declared.around.Core.{Core}
use Rattle.pm_driver_read.specs.declared.driver.Role.{Role}
use Rattle.pm_driver_read.specs.declared.driver.Role.TheVariants as role
use Rattle.pm_driver_read.specs.Managed.{flag_of, is_undone_as, undone}
use Rattle.pm_driver_read.specs.declared.managed.ManagedStep.{ManagedStep}
use Rattle.pm_driver_script.specs.Calls.{call_of}
use Rattle.pm_driver_text.specs.declared.steps.ScriptStep.{ScriptStep}
use Rattle.pm_driver_text.specs.declared.verbs.CodeTest.TheVariants as test
use Rattle.pm_driver_text.specs.declared.verbs.Question.{Question}
use Rattle.pm_driver_text.specs.declared.verbs.Question.TheVariants as question
use Rattle.pm_driver_text.specs.declared.whats.StepWhat.{StepWhat}
use Rattle.pm_driver_text.specs.declared.whats.StepWhat.TheVariants as what

-- where a driver's return and its failure go on, and behind reinit of each
abbrev pub to_returned : List ℕ
to_returned = codes " "

abbrev pub to_failed : List ℕ
to_failed = codes "  "

abbrev pub to_settled : List ℕ
to_settled = codes "   "

abbrev pub to_undone : List ℕ
to_undone = codes "    "

-- and behind each step that is undone
abbrev pub to_next : List ℕ
to_next = codes "     "

abbrev pub ended : Option (List ℕ) → StepWhat → ScriptStep
ended label w = record { label = label; devm = false; what = w; exits = [] }

abbrev pub calling : Option (List ℕ) → Helper → DevId → ScriptStep
calling label h dev = ended label (what.Call (call_of h dev))

-- it goes on at a label where the answer is 1
abbrev pub asking : Option (List ℕ) → Question → DevId → List ℕ → ScriptStep
asking label q dev skip = record { label = label; devm = false; what = what.Ask q dev; exits = record { test = test.Is (pos 1); label = skip } ∷ [] }

abbrev pub calling_all : Option (List ℕ) → DevId → List Helper → List ScriptStep
calling_all label dev [] = []
calling_all label dev (h ∷ helpers) = calling label h dev ∷ calling_all None dev helpers

abbrev pub calling_each : Helper → List DevId → List ScriptStep
calling_each h devices = map (calling None h) devices

abbrev pub parent_list : Option DevId → List DevId
parent_list None = []
parent_list (Some dev) = dev ∷ []

-- a device of the pci bus is forbidden, active and enabled before its driver is known
abbrev pub bus_start : Role → Option Bus → List Helper
bus_start role.Probe (Some bus.Pci) = helper.Forbid ∷ helper.SetActive ∷ helper.Enable ∷ []
bus_start r b = []

-- right before the script: the core's barrier, or its get and put; a get where it is shut down; and the bus's own
abbrev pub front_helpers : Role → Option Bus → List Helper
front_helpers role.Probe (Some bus.Amba) = helper.Barrier ∷ helper.GetNoresume ∷ helper.SetActive ∷ helper.Enable ∷ []
front_helpers role.Probe (Some bus.Pci) = helper.Barrier ∷ helper.GetSync ∷ []
front_helpers role.Probe None = helper.Barrier ∷ []
front_helpers role.Remove (Some b) = helper.GetSync ∷ helper.PutSync ∷ helper.GetSync ∷ []
front_helpers role.Remove None = helper.GetSync ∷ helper.PutSync ∷ []
front_helpers role.Shutdown b = helper.GetNoresume ∷ helper.Barrier ∷ []

-- the bus's own behind a probe that failed, and behind a remove
abbrev pub failing_helpers : Option Bus → List Helper
failing_helpers (Some bus.Amba) = helper.Disable ∷ helper.SetSuspended ∷ helper.PutNoidle ∷ []
failing_helpers (Some bus.Pci) = helper.PutSync ∷ []
failing_helpers None = []

abbrev pub behind_helpers : Option Bus → List Helper
behind_helpers (Some bus.Amba) = helper.PutNoidle ∷ helper.Disable ∷ helper.SetSuspended ∷ helper.PutNoidle ∷ []
behind_helpers (Some bus.Pci) = helper.PutNoidle ∷ helper.PutSync ∷ []
behind_helpers None = []

-- a probe holds what its device hangs on
abbrev pub get_upper : Role → Core → List ScriptStep
get_upper role.Probe core = calling_each helper.GetSync core.suppliers ++ calling_each helper.GetSync (parent_list core.parent)
get_upper r core = []

abbrev pub before_of : Core → List ScriptStep
before_of core =
    calling_all None core.dev (bus_start core.role core.bus) ++ get_upper core.role core ++ calling_all None core.dev (front_helpers core.role core.bus)

-- reinit: where the device is disabled and active, it is suspended
abbrev pub reinit : Option (List ℕ) → List ℕ → DevId → List ScriptStep
reinit label skip dev = asking label question.Enabled dev skip ∷ asking None question.StatusSuspended dev skip ∷ calling None helper.SetSuspended dev ∷ []

-- the label stands at the first step
abbrev pub label_left : List ℕ → List Helper → Option (List ℕ)
label_left label [] = Some label
label_left label helpers = None

-- where its flag is set, it is cleared, and what undoes the step is done
abbrev pub asking_flag : Option (List ℕ) → List ℕ → ScriptStep
asking_flag label flag = record { label = label; devm = false; what = what.AskFlag flag; exits = record { test = test.Is (pos 0); label = to_next } ∷ [] }

abbrev pub undo_one : List ℕ → Option (List ℕ) → StepWhat → List ScriptStep
undo_one flag label w = asking_flag label flag ∷ ended None (what.Clear flag) ∷ map (ended None) (undone w)

-- the label that is left behind these
abbrev pub label_behind : Option (List ℕ) → List ManagedStep → Option (List ℕ)
label_behind label [] = label
label_behind label (m ∷ undos) = Some to_next

-- the last comes first
abbrev pub undo_all : List ManagedStep → Option (List ℕ) → List ManagedStep → List ScriptStep
undo_all managed label [] = []
undo_all managed label (m ∷ undos) = undo_all managed label undos ++ undo_one (flag_of managed m.caller m.step) (label_behind label undos) m.what

-- what the bus calls, what undoes steps, and reinit
abbrev pub closing : List ManagedStep → List ManagedStep → List ℕ → List ℕ → DevId → List Helper → List ScriptStep
closing managed undos label skip dev helpers =
    calling_all (Some label) dev helpers ++ undo_all managed (label_left label helpers) undos ++ reinit (label_behind (label_left label helpers) undos) skip dev

abbrev pub put_upper : List ℕ → Core → List ScriptStep
put_upper label core =
    calling (Some label) helper.RequestIdle core.dev ∷ calling_each helper.Put (parent_list core.parent) ++ calling_each helper.Put core.suppliers

-- where the driver returned
abbrev pub returned_of : List ManagedStep → List ManagedStep → Role → Core → List ScriptStep
returned_of managed undos role.Probe core = put_upper to_returned core ++ ended None what.Return ∷ []
returned_of managed undos role.Remove core = closing managed undos to_returned to_settled core.dev (behind_helpers core.bus) ++ ended (Some to_settled) what.Return ∷ []
returned_of managed undos role.Shutdown core = ended (Some to_returned) what.Return ∷ []

abbrev pub undos_of : List ManagedStep → ℕ → Core → List ManagedStep
undos_of managed caller core = filter (is_undone_as core.role caller core.dev) managed

abbrev pub returned_tail : List ManagedStep → ℕ → Core → List ScriptStep
returned_tail managed caller core = returned_of managed (undos_of managed caller core) core.role core

-- where it failed
abbrev pub failed_of : List ManagedStep → List ManagedStep → Role → Core → List ScriptStep
failed_of managed undos role.Probe core = closing managed undos to_failed to_undone core.dev (failing_helpers core.bus) ++ put_upper to_undone core ++ ended None what.Fail ∷ []
failed_of managed undos role.Remove core = closing managed undos to_failed to_undone core.dev (behind_helpers core.bus) ++ ended (Some to_undone) what.Fail ∷ []
failed_of managed undos role.Shutdown core = ended (Some to_failed) what.Fail ∷ []

abbrev pub failed_tail : List ManagedStep → ℕ → Core → List ScriptStep
failed_tail managed caller core = failed_of managed (undos_of managed caller core) core.role core

-- how many suppliers there are
abbrev pub core_suppliers : Option Core → ℕ
core_suppliers None = 0
core_suppliers (Some core) = length core.suppliers
