-- A script with the driver core's calls written out is short still, and its steps have few exits.
use Rattle.std.proofs.Common.{ℕ, suc, ◌+◌, ◌*◌, ◌<◌, ◌≤◌, ◌^◌, ◌≡◌, Bool, true, false, nat_eq, codes, All, List, [], ◌∷◌, ◌++◌, Option, Some, None, map, length, refl, sym, subst, ap, ◌∙◌, arith}
use Rattle.std.proofs.lemmas.List.{length-append, length-map}
use Rattle.std.proofs.lemmas.List.Filters.{length-filter_both}
use Rattle.std.proofs.lemmas.List.Elements.{All-append, All-cons, All-drop, All-map, All-nil}
use Rattle.pm_base.specs.declared.DevId.{DevId}
use Rattle.pm_model.specs.declared.event.Helper.{Helper}
use Rattle.pm_model.specs.declared.event.Helper.TheVariants as helper
use Rattle.pm_driver_read.specs.Core.{asking, asking_flag, before_of, behind_helpers, bus_start, calling, calling_all, calling_each, closing, core_suppliers, ended, failed_of, failed_tail, failing_helpers, front_helpers, get_upper, label_behind, label_left, parent_list, put_upper, reinit, returned_of, returned_tail, to_failed, to_returned, to_settled, to_undone, undo_all, undo_one, undos_of}
use Rattle.pm_driver_read.specs.Managed.{flag_of, is_managed, is_undone_as, undone}
use Rattle.pm_driver_read.specs.Written.{came, gained, managed_as, own_step, own_steps, redirected, written_steps}
use Rattle.pm_driver_read.specs.declared.managed.ManagedStep.{ManagedStep}
use Rattle.pm_driver_read.specs.declared.around.Bus.{Bus}
use Rattle.pm_driver_read.specs.declared.around.Bus.TheVariants as bus
use Rattle.pm_driver_read.specs.declared.around.Core.{Core}
use Rattle.pm_driver_read.specs.declared.driver.Role.{Role}
use Rattle.pm_driver_read.specs.declared.driver.Role.TheVariants as role
use Rattle.std.specs.Prelude.{not, if◌then◌else◌}
use Rattle.pm_driver_script.specs.Calls.{call_of}
use Rattle.pm_driver_script.specs.Fits.{HasFewExits}
use Rattle.pm_driver_text.specs.declared.steps.ScriptStep.{ScriptStep}
use Rattle.pm_driver_text.specs.declared.verbs.Question.TheVariants as question
use Rattle.pm_driver_text.specs.declared.whats.StepWhat.{StepWhat}
use Rattle.pm_driver_text.specs.declared.whats.StepWhat.TheVariants as what

if-holds : {A : Type 0} (P : A → Type 0) (b : Bool) {x y : A} → P x → P y → P (if b then x else y)
if-holds P true px py = px
if-holds P false px py = py

abbrev pub Few : ScriptStep → Type 0
Few step = length step.exits ≤ 8

few_all : (label : Option (List ℕ)) (dev : DevId) (helpers : List Helper) → HasFewExits (calling_all label dev helpers)
few_all label dev [] = All-nil Few
few_all label dev (h ∷ helpers) = All-cons Few (calling label h dev) (calling_all None dev helpers) (omega arith) (few_all None dev helpers)

few_each : (h : Helper) (devices : List DevId) → HasFewExits (calling_each h devices)
few_each h devices = All-map Few (calling None h) devices (λ i dev below. omega arith)

few_join : (xs ys : List ScriptStep) → HasFewExits xs → HasFewExits ys → HasFewExits (xs ++ ys)
few_join xs ys fx fy = All-append Few xs ys fx fy

few_upper : (r : Role) (core : Core) → HasFewExits (get_upper r core)
few_upper role.Probe core = few_join (calling_each helper.GetSync core.suppliers) (calling_each helper.GetSync (parent_list core.parent)) (few_each helper.GetSync core.suppliers) (few_each helper.GetSync (parent_list core.parent))
few_upper role.Remove core = All-nil Few
few_upper role.Shutdown core = All-nil Few

few_before : (core : Core) → HasFewExits (before_of core)
few_before core =
    few_join (calling_all None core.dev (bus_start core.role core.bus) ++ get_upper core.role core) (calling_all None core.dev (front_helpers core.role core.bus))
    (few_join (calling_all None core.dev (bus_start core.role core.bus)) (get_upper core.role core) (few_all None core.dev (bus_start core.role core.bus)) (few_upper core.role core))
    (few_all None core.dev (front_helpers core.role core.bus))

few_reinit : (label : Option (List ℕ)) (skip : List ℕ) (dev : DevId) → HasFewExits (reinit label skip dev)
few_reinit label skip dev =
    let last : List ScriptStep = calling None helper.SetSuspended dev ∷ [] in
    All-cons Few (asking label question.Enabled dev skip) (asking None question.StatusSuspended dev skip ∷ last) (omega arith)
    (All-cons Few (asking None question.StatusSuspended dev skip) last (omega arith) (All-cons Few (calling None helper.SetSuspended dev) [] (omega arith) (All-nil Few)))

few_undo : (flag : List ℕ) (label : Option (List ℕ)) (w : StepWhat) → HasFewExits (undo_one flag label w)
few_undo flag label w =
    All-cons Few (asking_flag label flag) (ended None (what.Clear flag) ∷ map (ended None) (undone w)) (omega arith)
    (All-cons Few (ended None (what.Clear flag)) (map (ended None) (undone w)) (omega arith) (All-map Few (ended None) (undone w) (λ i u below. omega arith)))

few_undos : (managed : List ManagedStep) (label : Option (List ℕ)) (undos : List ManagedStep) → HasFewExits (undo_all managed label undos)
few_undos managed label [] = All-nil Few
few_undos managed label (m ∷ undos) =
    few_join (undo_all managed label undos) (undo_one (flag_of managed m.caller m.step) (label_behind label undos) m.what) (few_undos managed label undos)
    (few_undo (flag_of managed m.caller m.step) (label_behind label undos) m.what)

few_closing : (managed undos : List ManagedStep) (label skip : List ℕ) (dev : DevId) (helpers : List Helper) → HasFewExits (closing managed undos label skip dev helpers)
few_closing managed undos label skip dev helpers =
    let left = label_left label helpers in
    few_join (calling_all (Some label) dev helpers ++ undo_all managed left undos) (reinit (label_behind left undos) skip dev)
    (few_join (calling_all (Some label) dev helpers) (undo_all managed left undos) (few_all (Some label) dev helpers) (few_undos managed left undos))
    (few_reinit (label_behind left undos) skip dev)

few_put : (label : List ℕ) (core : Core) → HasFewExits (put_upper label core)
few_put label core =
    few_join (calling (Some label) helper.RequestIdle core.dev ∷ calling_each helper.Put (parent_list core.parent)) (calling_each helper.Put core.suppliers)
    (All-cons Few (calling (Some label) helper.RequestIdle core.dev) (calling_each helper.Put (parent_list core.parent)) (omega arith) (few_each helper.Put (parent_list core.parent)))
    (few_each helper.Put core.suppliers)

few_end : (label : Option (List ℕ)) (w : StepWhat) → HasFewExits (ended label w ∷ [])
few_end label w = All-cons Few (ended label w) [] (omega arith) (All-nil Few)

few_returned : (managed undos : List ManagedStep) (r : Role) (core : Core) → HasFewExits (returned_of managed undos r core)
few_returned managed undos role.Probe core = few_join (put_upper to_returned core) (ended None what.Return ∷ []) (few_put to_returned core) (few_end None what.Return)
few_returned managed undos role.Remove core =
    few_join (closing managed undos to_returned to_settled core.dev (behind_helpers core.bus)) (ended (Some to_settled) what.Return ∷ [])
    (few_closing managed undos to_returned to_settled core.dev (behind_helpers core.bus)) (few_end (Some to_settled) what.Return)
few_returned managed undos role.Shutdown core = few_end (Some to_returned) what.Return

few_failed : (managed undos : List ManagedStep) (r : Role) (core : Core) → HasFewExits (failed_of managed undos r core)
few_failed managed undos role.Probe core =
    few_join (closing managed undos to_failed to_undone core.dev (failing_helpers core.bus) ++ put_upper to_undone core) (ended None what.Fail ∷ [])
    (few_join (closing managed undos to_failed to_undone core.dev (failing_helpers core.bus)) (put_upper to_undone core) (few_closing managed undos to_failed to_undone core.dev (failing_helpers core.bus)) (few_put to_undone core))
    (few_end None what.Fail)
few_failed managed undos role.Remove core =
    few_join (closing managed undos to_failed to_undone core.dev (behind_helpers core.bus)) (ended (Some to_undone) what.Fail ∷ [])
    (few_closing managed undos to_failed to_undone core.dev (behind_helpers core.bus)) (few_end (Some to_undone) what.Fail)
few_failed managed undos role.Shutdown core = few_end (Some to_failed) what.Fail

few_one : (step : ScriptStep) → length step.exits ≤ 8 → HasFewExits (step ∷ [])
few_one step few = All-cons Few step [] few (All-nil Few)

few_two : (a b : ScriptStep) → length a.exits ≤ 8 → length b.exits ≤ 8 → HasFewExits (a ∷ b ∷ [])
few_two a b fa fb = All-cons Few a (b ∷ []) fa (few_one b fb)

few_gained : (flag : List ℕ) (step : ScriptStep) → length step.exits ≤ 8 → HasFewExits (gained flag step)
few_gained flag step few =
    if-holds HasFewExits (nat_eq (length step.exits) 0) (few_one (came step.label flag) (omega arith))
    (few_two (record step { devm = false; what = what.Do (codes "devm") }) (came None flag) few (omega arith))

few_managed_as : (flag : List ℕ) (step : ScriptStep) (w : StepWhat) → length step.exits ≤ 8 → HasFewExits (managed_as flag step w)
few_managed_as flag step (what.DevmEnable dev) few =
    few_two (came step.label flag) (record step { label = None; devm = false; what = what.Call (call_of helper.Enable dev) }) (omega arith) few
few_managed_as flag step (what.Call c) few = few_gained flag step few
few_managed_as flag step (what.ResumeAndGet dev) few = few_gained flag step few
few_managed_as flag step (what.Touch dev ms) few = few_gained flag step few
few_managed_as flag step (what.Do n) few = few_gained flag step few
few_managed_as flag step (what.Ask q dev) few = few_gained flag step few
few_managed_as flag step (what.AskFlag n) few = few_gained flag step few
few_managed_as flag step (what.Set n) few = few_gained flag step few
few_managed_as flag step (what.Clear n) few = few_gained flag step few
few_managed_as flag step (what.Wait n b) few = few_gained flag step few
few_managed_as flag step (what.Mark n) few = few_gained flag step few
few_managed_as flag step (what.Stop n) few = few_gained flag step few
few_managed_as flag step (what.Lock n) few = few_gained flag step few
few_managed_as flag step (what.Unlock n) few = few_gained flag step few
few_managed_as flag step (what.Goto n) few = few_gained flag step few
few_managed_as flag step what.Return few = few_gained flag step few
few_managed_as flag step what.Fail few = few_gained flag step few
few_managed_as flag step (what.ForceSuspend dev) few = few_gained flag step few
few_managed_as flag step (what.ForceResume dev) few = few_gained flag step few

few_own_step : (managed : List ManagedStep) (caller number : ℕ) (step : ScriptStep) → length step.exits ≤ 8 → HasFewExits (own_step managed caller number step)
few_own_step managed caller number step few =
    if-holds HasFewExits (is_managed step) (few_managed_as (flag_of managed caller number) step step.what few) (few_one (redirected step) few)

few_own : (managed : List ManagedStep) (caller number : ℕ) (steps : List ScriptStep) → HasFewExits steps → HasFewExits (own_steps managed caller number steps)
few_own managed caller number [] few = All-nil Few
few_own managed caller number (step ∷ steps) few =
    few_join (own_step managed caller number step) (own_steps managed caller (number + 1) steps) (few_own_step managed caller number step (few 0 step (omega arith)))
    (few_own managed caller (number + 1) steps (All-drop Few 1 (step ∷ steps) few))

pub few_written : (managed : List ManagedStep) (caller : ℕ) (core : Option Core) (steps : List ScriptStep) → HasFewExits steps → HasFewExits (written_steps managed caller core steps)
few_written managed caller None steps few = few
few_written managed caller (Some core) steps few =
    let undos = undos_of managed caller core in
    few_join (before_of core ++ own_steps managed caller 0 steps ++ returned_of managed undos core.role core) (failed_of managed undos core.role core)
    (few_join (before_of core ++ own_steps managed caller 0 steps) (returned_of managed undos core.role core)
    (few_join (before_of core) (own_steps managed caller 0 steps) (few_before core) (few_own managed caller 0 steps few)) (few_returned managed undos core.role core)) (few_failed managed undos core.role core)

-- lengths
all_length : (label : Option (List ℕ)) (dev : DevId) (helpers : List Helper) → length (calling_all label dev helpers) ≡ length helpers
all_length label dev [] = refl
all_length label dev (h ∷ helpers) = ap suc (all_length None dev helpers)

join_length : (xs ys : List ScriptStep) (m n : ℕ) → length xs ≤ m → length ys ≤ n → length (xs ++ ys) ≤ m + n
join_length xs ys m n x y = rw (length-append xs ys) (omega (arith, x, y))

each_length : (h : Helper) (devices : List DevId) (m : ℕ) → length devices ≤ m → length (calling_each h devices) ≤ m
each_length h devices m below = rw (length-map devices (calling None h)) below

parent_length : (parent : Option DevId) → length (parent_list parent) ≤ 1
parent_length None = omega arith
parent_length (Some dev) = omega arith

bus_length : (r : Role) (b : Option Bus) → length (bus_start r b) ≤ 3
bus_length role.Probe (Some bus.Pci) = omega arith
bus_length role.Probe (Some bus.Amba) = omega arith
bus_length role.Probe None = omega arith
bus_length role.Remove b = omega arith
bus_length role.Shutdown b = omega arith

front_length : (r : Role) (b : Option Bus) → length (front_helpers r b) ≤ 4
front_length role.Probe (Some bus.Pci) = omega arith
front_length role.Probe (Some bus.Amba) = omega arith
front_length role.Probe None = omega arith
front_length role.Remove (Some b) = omega arith
front_length role.Remove None = omega arith
front_length role.Shutdown b = omega arith

failing_length : (b : Option Bus) → length (failing_helpers b) ≤ 4
failing_length (Some bus.Amba) = omega arith
failing_length (Some bus.Pci) = omega arith
failing_length None = omega arith

behind_length : (b : Option Bus) → length (behind_helpers b) ≤ 4
behind_length (Some bus.Amba) = omega arith
behind_length (Some bus.Pci) = omega arith
behind_length None = omega arith

upper_length : (r : Role) (core : Core) → length core.suppliers ≤ 1024 → length (get_upper r core) ≤ 1025
upper_length role.Probe core few = join_length (calling_each helper.GetSync core.suppliers) (calling_each helper.GetSync (parent_list core.parent)) 1024 1 (each_length helper.GetSync core.suppliers 1024 few) (each_length helper.GetSync (parent_list core.parent) 1 (parent_length core.parent))
upper_length role.Remove core few = omega arith
upper_length role.Shutdown core few = omega arith

before_length : (core : Core) → length core.suppliers ≤ 1024 → length (before_of core) ≤ (3 + 1025) + 4
before_length core few =
    join_length (calling_all None core.dev (bus_start core.role core.bus) ++ get_upper core.role core) (calling_all None core.dev (front_helpers core.role core.bus)) (3 + 1025) 4
    (join_length (calling_all None core.dev (bus_start core.role core.bus)) (get_upper core.role core) 3 1025
    (rw (all_length None core.dev (bus_start core.role core.bus)) (bus_length core.role core.bus)) (upper_length core.role core few))
    (rw (all_length None core.dev (front_helpers core.role core.bus)) (front_length core.role core.bus))

undone_length : (w : StepWhat) → length (undone w) ≤ 2
undone_length (what.DevmEnable dev) = omega arith
undone_length (what.Call c) = omega arith
undone_length (what.ResumeAndGet dev) = omega arith
undone_length (what.Touch dev ms) = omega arith
undone_length (what.Do n) = omega arith
undone_length (what.Ask q dev) = omega arith
undone_length (what.AskFlag n) = omega arith
undone_length (what.Set n) = omega arith
undone_length (what.Clear n) = omega arith
undone_length (what.Wait n b) = omega arith
undone_length (what.Mark n) = omega arith
undone_length (what.Stop n) = omega arith
undone_length (what.Lock n) = omega arith
undone_length (what.Unlock n) = omega arith
undone_length (what.Goto n) = omega arith
undone_length what.Return = omega arith
undone_length what.Fail = omega arith
undone_length (what.ForceSuspend dev) = omega arith
undone_length (what.ForceResume dev) = omega arith

undo_length : (flag : List ℕ) (label : Option (List ℕ)) (w : StepWhat) → length (undo_one flag label w) ≤ 4
undo_length flag label w = let l : length (map (ended None) (undone w)) ≤ 2 = rw (length-map (undone w) (ended None)) (undone_length w) in omega (arith, l)

undos_length : (managed : List ManagedStep) (label : Option (List ℕ)) (undos : List ManagedStep) → length (undo_all managed label undos) ≤ 4 * length undos
undos_length managed label [] = omega arith
undos_length managed label (m ∷ undos) =
    let flag = flag_of managed m.caller m.step in
    let l = join_length (undo_all managed label undos) (undo_one flag (label_behind label undos) m.what) (4 * length undos) 4 (undos_length managed label undos) (undo_length flag (label_behind label undos) m.what) in
    omega (arith, l)

closing_length : (managed undos : List ManagedStep) (label skip : List ℕ) (dev : DevId) (helpers : List Helper) → length helpers ≤ 4 → length undos ≤ 64
    → length (closing managed undos label skip dev helpers) ≤ 263
closing_length managed undos label skip dev helpers few least =
    let left = label_left label helpers in
    let more = undos_length managed left undos in
    let l = join_length (calling_all (Some label) dev helpers ++ undo_all managed left undos) (reinit (label_behind left undos) skip dev) (4 + 256) 3
    (join_length (calling_all (Some label) dev helpers) (undo_all managed left undos) 4 256 (rw (all_length (Some label) dev helpers) few) (omega (arith, more, least))) (omega arith) in
    omega (arith, l)

undos_few : (managed : List ManagedStep) (caller : ℕ) (core : Core) → length managed ≤ 64 → length (undos_of managed caller core) ≤ 64
undos_few managed caller core few =
    let is = is_undone_as core.role caller core.dev in
    let both = length-filter_both is (λ m. not (is m)) (λ m. refl) managed in
    omega (arith, both, few)

put_length : (label : List ℕ) (core : Core) → length core.suppliers ≤ 1024 → length (put_upper label core) ≤ (1 + 1) + 1024
put_length label core few =
    join_length (calling (Some label) helper.RequestIdle core.dev ∷ calling_each helper.Put (parent_list core.parent)) (calling_each helper.Put core.suppliers) (1 + 1) 1024
    (join_length (calling (Some label) helper.RequestIdle core.dev ∷ []) (calling_each helper.Put (parent_list core.parent)) 1 1 (omega arith)
    (each_length helper.Put (parent_list core.parent) 1 (parent_length core.parent))) (each_length helper.Put core.suppliers 1024 few)

returned_length : (managed undos : List ManagedStep) (r : Role) (core : Core) → length core.suppliers ≤ 1024 → length undos ≤ 64 → length (returned_of managed undos r core) ≤ 1027
returned_length managed undos role.Probe core few least =
    join_length (put_upper to_returned core) (ended None what.Return ∷ []) ((1 + 1) + 1024) 1 (put_length to_returned core few) (omega arith)
returned_length managed undos role.Remove core few least =
    let l = join_length (closing managed undos to_returned to_settled core.dev (behind_helpers core.bus)) (ended (Some to_settled) what.Return ∷ []) 263 1
    (closing_length managed undos to_returned to_settled core.dev (behind_helpers core.bus) (behind_length core.bus) least) (omega arith) in omega (arith, l)
returned_length managed undos role.Shutdown core few least = omega arith

failed_length : (managed undos : List ManagedStep) (r : Role) (core : Core) → length core.suppliers ≤ 1024 → length undos ≤ 64 → length (failed_of managed undos r core) ≤ 1290
failed_length managed undos role.Probe core few least =
    join_length (closing managed undos to_failed to_undone core.dev (failing_helpers core.bus) ++ put_upper to_undone core) (ended None what.Fail ∷ []) (263 + ((1 + 1) + 1024)) 1
    (join_length (closing managed undos to_failed to_undone core.dev (failing_helpers core.bus)) (put_upper to_undone core) 263 ((1 + 1) + 1024)
    (closing_length managed undos to_failed to_undone core.dev (failing_helpers core.bus) (failing_length core.bus) least) (put_length to_undone core few)) (omega arith)
failed_length managed undos role.Remove core few least =
    let l = join_length (closing managed undos to_failed to_undone core.dev (behind_helpers core.bus)) (ended (Some to_undone) what.Fail ∷ []) 263 1
    (closing_length managed undos to_failed to_undone core.dev (behind_helpers core.bus) (behind_length core.bus) least) (omega arith) in omega (arith, l)
failed_length managed undos role.Shutdown core few least = omega arith

-- at most two are written of one
gained_length : (flag : List ℕ) (step : ScriptStep) → length (gained flag step) ≤ 2
gained_length flag step = if-holds (λ l. length l ≤ 2) (nat_eq (length step.exits) 0) (omega arith) (omega arith)

managed_length : (flag : List ℕ) (step : ScriptStep) (w : StepWhat) → length (managed_as flag step w) ≤ 2
managed_length flag step (what.DevmEnable dev) = omega arith
managed_length flag step (what.Call c) = gained_length flag step
managed_length flag step (what.ResumeAndGet dev) = gained_length flag step
managed_length flag step (what.Touch dev ms) = gained_length flag step
managed_length flag step (what.Do n) = gained_length flag step
managed_length flag step (what.Ask q dev) = gained_length flag step
managed_length flag step (what.AskFlag n) = gained_length flag step
managed_length flag step (what.Set n) = gained_length flag step
managed_length flag step (what.Clear n) = gained_length flag step
managed_length flag step (what.Wait n b) = gained_length flag step
managed_length flag step (what.Mark n) = gained_length flag step
managed_length flag step (what.Stop n) = gained_length flag step
managed_length flag step (what.Lock n) = gained_length flag step
managed_length flag step (what.Unlock n) = gained_length flag step
managed_length flag step (what.Goto n) = gained_length flag step
managed_length flag step what.Return = gained_length flag step
managed_length flag step what.Fail = gained_length flag step
managed_length flag step (what.ForceSuspend dev) = gained_length flag step
managed_length flag step (what.ForceResume dev) = gained_length flag step

step_length : (managed : List ManagedStep) (caller number : ℕ) (step : ScriptStep) → length (own_step managed caller number step) ≤ 2
step_length managed caller number step =
    if-holds (λ l. length l ≤ 2) (is_managed step) (managed_length (flag_of managed caller number) step step.what) (omega arith)

own_length : (managed : List ManagedStep) (caller number : ℕ) (steps : List ScriptStep) → length (own_steps managed caller number steps) ≤ 2 * length steps
own_length managed caller number [] = omega arith
own_length managed caller number (step ∷ steps) =
    let l = join_length (own_step managed caller number step) (own_steps managed caller (number + 1) steps) 2 (2 * length steps) (step_length managed caller number step) (own_length managed caller (number + 1) steps) in
    omega (arith, l)

whole_length : (managed : List ManagedStep) (caller : ℕ) (core : Core) (steps : List ScriptStep) → length managed ≤ 64 → length steps ≤ 1000 → length core.suppliers ≤ 1024
    → length (written_steps managed caller (Some core) steps) ≤ ((((3 + 1025) + 4) + 2000) + 1027) + 1290
whole_length managed caller core steps least few up =
    let undos = undos_of managed caller core in
    let own = own_length managed caller 0 steps in
    join_length (before_of core ++ own_steps managed caller 0 steps ++ returned_of managed undos core.role core) (failed_of managed undos core.role core) ((((3 + 1025) + 4) + 2000) + 1027) 1290
    (join_length (before_of core ++ own_steps managed caller 0 steps) (returned_of managed undos core.role core) (((3 + 1025) + 4) + 2000) 1027
    (join_length (before_of core) (own_steps managed caller 0 steps) ((3 + 1025) + 4) 2000 (before_length core up) (omega (arith, own, few)))
    (returned_length managed undos core.role core up (undos_few managed caller core least)))
    (failed_length managed undos core.role core up (undos_few managed caller core least))

pub short_written : (managed : List ManagedStep) (caller : ℕ) (core : Option Core) (steps : List ScriptStep) → length managed ≤ 64 → length steps ≤ 1000 → core_suppliers core ≤ 1024
    → length (written_steps managed caller core steps) < 2 ^ 31
short_written managed caller None steps least few up = omega (arith, few)
short_written managed caller (Some core) steps least few up = let l = whole_length managed caller core steps least few up in omega (arith, l)
