-- The driver that bytes are, or its first refusal (this project's own).
use Rattle.std.specs.Prelude.{ℕ, ◌+◌, Bool, true, false, List, [], ◌∷◌, Option, Some, None, Result, Ok, Err, codes, length, map, nat_lt, option_map, slice_get, unwrap_or, if◌then◌else◌}
use Rattle.std.specs.Option.{option_map_or}
use Rattle.toml.specs.Data.{Members}
use Rattle.pm_model.specs.NamedList.{place_named}
use Rattle.pm_model.specs.declared.rows.CallerRow.{CallerRow}
use Rattle.pm_model.specs.declared.rows.DeviceRow.{DeviceRow}
use Rattle.pm_model.specs.declared.rows.LinkRow.{LinkRow}
use Rattle.pm_driver_read.specs.After.{all_needs, circle_fault, marks_fault, need_of}
use Rattle.pm_driver_read.specs.Fails.{codes_fault, fails_fault}
use Rattle.pm_driver_read.specs.Keys.{bound_to, keys_fault, role_in}
use Rattle.pm_driver_read.specs.Managed.{all_managed, devm_fault, few_managed}
use Rattle.pm_driver_read.specs.Plans.{bare_plan, flagged_plan, of_plan, scripted, scripts_fault}
use Rattle.pm_driver_read.specs.Programs.{all_forced, fault_from, few_forced, few_names, names_of, programs_from, scripts_from}
use Rattle.pm_driver_read.specs.Refusals.{plan_refused, refused, unless}
use Rattle.pm_driver_read.specs.Straight.{straight}
use Rattle.pm_driver_read.specs.Words.{all_fails, all_words}
use Rattle.pm_driver_read.specs.declared.driver.Driver.{Driver}
use Rattle.pm_driver_read.specs.declared.driver.DriverCaller.{DriverCaller}
use Rattle.pm_driver_read.specs.declared.managed.ManagedStep.{ManagedStep}
use Rattle.pm_driver_read.specs.declared.reading.LocatedProgram.{LocatedProgram}
use Rattle.pm_driver_read.specs.declared.refusal.DriverRefusal.{DriverRefusal}
use Rattle.pm_driver_read.specs.declared.refusal.DriverRefusal.TheVariants as refusal
use Rattle.pm_driver_read.specs.declared.scripts.CallerSteps.{CallerSteps}
use Rattle.pm_driver_read.specs.declared.words.CallerWords.{CallerWords}
use Rattle.pm_driver_script.specs.declared.names.ScriptNames.{ScriptNames}
use Rattle.pm_driver_text.specs.Results.{◌>>=◌}
use Rattle.pm_planread.specs.PlanOf.{Contents, contents_of, named_plan, plan_of}
use Rattle.pm_planread.specs.rows.TooMany.{too_many_fault}
use Rattle.pm_planread.specs.tree.KeyFault.{key_fault}
use Rattle.pm_planread.specs.tree.KindFault.{kind_fault}
use Rattle.pm_planread.specs.tree.Places.{place}
use Rattle.pm_planread.specs.tree.Raw.{raw_plan}
use Rattle.pm_planread.specs.tree.Tree.{document, list_at}
use Rattle.pm_planread.specs.declared.refusal.PlanFault.{PlanFault}
use Rattle.pm_planread.specs.declared.refusal.PlanWhy.TheVariants as plan_why
use Rattle.pm_planread.specs.declared.tree.keys.Format.TheVariants as format
use Rattle.pm_planread.specs.declared.tree.place.Section.TheVariants.{Top}
use Rattle.pm_planread.specs.declared.tree.raw.RawPlan.{RawPlan}

-- what stands in a driver
pub record DriverContents : Type 0 where
  pub contents : Contents
  pub flags : ℕ
  pub callers : List DriverCaller
  pub is_plan : Bool

abbrev pub contents_in : Driver → DriverContents
contents_in driver = record { contents = contents_of driver.plan; flags = driver.flags; callers = driver.callers; is_plan = driver.is_plan }

-- the callers whose counts a caller's puts may give back
abbrev pub adopted : List (List ℕ) → List (List ℕ) → List ℕ
adopted callers names = map (λ name. unwrap_or (place_named name callers) 0) names

-- a caller of whom no more is said than its script
abbrev pub plain_caller : LocatedProgram → DriverCaller
plain_caller made = record { program = made.program; lines = made.lines; after = []; irq = false; adopts = []; role = None; binds = None }

-- a caller with its program and its words
abbrev pub caller_with : List DeviceRow → List (List ℕ) → List CallerWords → LocatedProgram → CallerWords → DriverCaller
caller_with devices marks callers made words = record {
  program = made.program;
  lines = made.lines;
  after = map (need_of (map (λ c. c.name) callers) marks) words.after;
  irq = words.irq;
  adopts = adopted (map (λ c. c.name) callers) words.adopts;
  role = role_in words;
  binds = bound_to devices words.binds;
}

abbrev pub caller_of : List DeviceRow → List (List ℕ) → List CallerWords → ℕ → LocatedProgram → DriverCaller
caller_of devices marks callers number made = option_map_or (caller_with devices marks callers made) (slice_get callers number) (plain_caller made)

abbrev pub callers_of : List DeviceRow → List (List ℕ) → List CallerWords → ℕ → List LocatedProgram → List DriverCaller
callers_of devices marks callers number [] = []
callers_of devices marks callers number (made ∷ programs) = caller_of devices marks callers number made ∷ callers_of devices marks callers (number + 1) programs

-- the driver over a plan with its flags, whose scripts are the programs' commands
abbrev pub driver_over : List CallerWords → ScriptNames → List LocatedProgram → Contents → DriverContents
driver_over callers names programs contents = record {
  contents = scripted programs contents;
  flags = length names.flags;
  callers = callers_of contents.devices names.marks callers 0 programs;
  is_plan = false;
}

-- the refusals of devices: of what may fail, of codes, of flags as devices; and that each program is a script
unfoldable pub made_driver : Members → List CallerWords → ScriptNames → List LocatedProgram → Result DriverContents DriverRefusal
made_driver tree callers names programs =
    unless (option_map refusal.Device (fails_fault 0 (all_fails (list_at (codes "device") tree))))
    (unless (option_map refusal.Device (codes_fault 0 (raw_plan tree).devices))
    (of_plan (named_plan (flagged_plan (all_fails (list_at (codes "device") tree)) (list_at (codes "device") tree) names (raw_plan tree))) >>= λ contents.
    unless (scripts_fault (length contents.devices) 0 programs) (Ok (driver_over callers names programs contents))))

-- the refusals of scripts, and of what callers begin after
unfoldable pub named_driver : Members → List CallerWords → ScriptNames → List ManagedStep → List CallerSteps → Result DriverContents DriverRefusal
named_driver tree callers names managed scripts =
    unless (option_map (refused 0 0) (few_names names))
    (unless (fault_from names 0 scripts)
    (unless (option_map refusal.Key (marks_fault (map (λ c. c.name) callers) scripts 0 callers))
    (unless (option_map refusal.Key (circle_fault (all_needs names.marks callers)))
    (programs_from names managed 0 scripts >>= λ programs. made_driver tree callers names programs))))

-- the refusals of steps that are to be undone, and of devices that are resumed by force
unfoldable pub managed_driver : Members → ℕ → List CallerWords → List CallerSteps → Result DriverContents DriverRefusal
managed_driver tree devices callers scripts =
    unless (devm_fault 0 scripts)
    (unless (option_map (refused 0 0) (few_managed (all_managed 0 scripts)))
    (unless (option_map (refused 0 0) (few_forced (all_forced [] scripts)))
    (named_driver tree callers (names_of devices scripts) (all_managed 0 scripts) scripts)))

-- the refusals of the callers' words, and of steps
unfoldable pub based_driver : Members → List DeviceRow → List LinkRow → List CallerWords → Result DriverContents DriverRefusal
based_driver tree devices links callers =
    unless (option_map refusal.Key (keys_fault (map (λ row. row.name) devices) (map (λ c. c.name) callers) 0 callers))
    (scripts_from devices links 0 callers >>= λ scripts. managed_driver tree (length devices) callers scripts)

-- a plan's refusals, but for its scripts
unfoldable pub tree_driver : Members → Result DriverContents DriverRefusal
tree_driver tree =
    unless (option_map (plan_refused plan_why.Key) (key_fault format.Driver tree))
    (unless (option_map (plan_refused plan_why.Kind) (kind_fault format.Driver tree))
    (unless (option_map (plan_refused plan_why.TooMany) (too_many_fault (raw_plan tree)))
    (of_plan (named_plan (bare_plan (raw_plan tree))) >>= λ base. based_driver tree base.devices base.links (all_words (list_at (codes "caller") tree)))))

abbrev pub document_driver : Option Members → Result DriverContents DriverRefusal
document_driver None = Err (plan_refused plan_why.NotToml (place Top 0 0))
document_driver (Some tree) = tree_driver tree

unfoldable pub file_driver : List ℕ → Result DriverContents DriverRefusal
file_driver bytes = if nat_lt 1048576 (length bytes) then Err (plan_refused plan_why.TooLong (place Top 0 0)) else document_driver (document bytes)

-- a plan's caller, whose program runs straight on
abbrev pub plain_of : CallerRow → DriverCaller
plain_of row = plain_caller (straight row.script)

abbrev pub plain_driver : Contents → DriverContents
plain_driver contents = record { contents = contents; flags = 0; callers = map plain_of contents.callers; is_plan = true }

-- a plan is read as the plan that it is
abbrev pub driver_or : List ℕ → Result Contents PlanFault → Result DriverContents DriverRefusal
driver_or bytes (Ok contents) = Ok (plain_driver contents)
driver_or bytes (Err fault) = file_driver bytes

-- the driver that the bytes are, or the first refusal
unfoldable pub driver_of : List ℕ → Result DriverContents DriverRefusal
driver_of bytes = driver_or bytes (plan_of bytes)
