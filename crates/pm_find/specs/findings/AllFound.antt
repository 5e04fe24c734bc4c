-- All that stands out in a run, in the order of its lines (this project's own). Lists of lines have the newest line first;
-- lines are counted from 1.
use Rattle.std.specs.Prelude.{ℕ, ◌+◌, Bool, List, [], ◌∷◌, ◌++◌, Option, length, map, option_map, if◌then◌else◌}
use Rattle.std.specs.List.{flat_map, range_with_len}
use Rattle.std.specs.Option.{option_to_list}
use Rattle.pm_base.specs.declared.DevId.{DevId}
use Rattle.pm_safety.specs.declared.dependencies.bond.Bond.{Bond}
use Rattle.pm_safety.specs.declared.dependencies.domains.DomainOn.{DomainOn}
use Rattle.pm_safety.specs.dependencies.Broken.{broken_at}
use Rattle.pm_safety.specs.dependencies.Domains.{domains_left}
use Rattle.pm_model.specs.declared.event.Line.{Line}
use Rattle.pm_model.specs.declared.plan.Plan.{Plan}
use Rattle.pm_model.specs.Counted.{status_of}
use Rattle.pm_model.specs.History.{History}
use Rattle.pm_model.specs.Views.{device}
use Rattle.pm_model.specs.World.{world}
use Rattle.pm_find.specs.declared.findings.Finding.{Finding}
use Rattle.pm_find.specs.declared.findings.Kind.{Kind}
use Rattle.pm_find.specs.declared.findings.Kind.TheVariants as kind
use Rattle.pm_find.specs.declared.findings.watched.Count.{Count}
use Rattle.pm_find.specs.findings.Ending.{on_after}
use Rattle.pm_find.specs.findings.OpenCounts.{device_of, is_given, open_counts}
use Rattle.pm_find.specs.findings.Said.{call_by, error_line, failed_line, left_line}
use Rattle.pm_find.specs.findings.StandsOut.{answer, failed, leak, never_on, no_count, poisoned, refused, refused_put, refused_status, stolen, unmarked}

-- a finding of this kind at a line, if there is one
abbrev pub at_line : ℕ → Option Kind → List Finding
at_line number found = option_to_list (option_map (λ k. record { line = number; kind = k }) found)

-- what is known only later than at a line: the counts of each device that are left at the end, and whether the count that was taken in a line
-- has been given back before its caller takes another
pub record Later : Type 0 where
  pub left : DevId → List Count
  pub given : ℕ → Bool

-- what stands out at a line, behind these lines: of gets and puts, of returns, and of callbacks
abbrev pub found_at : Later → History → Line → List Finding
found_at later h line =
    let number = length h + 1 in
    let d = device_of line.event in
    let called = call_by h line.actor in
    (at_line number (leak (later.left d) number called line.actor line.event)
    ++ at_line number (stolen (open_counts h d) line.actor line.event)
    ++ at_line number (never_on (open_counts h d) (status_of h d) (left_line h d) line.actor line.event))
    ++ (at_line number (answer (error_line h d) (failed_line h d) (open_counts h d) later.given called line.actor line.event)
    ++ at_line number (refused line.actor line.event)
    ++ at_line number (refused_status line.actor line.event)
    ++ at_line number (refused_put called line.actor line.event)
    ++ at_line number (no_count line.actor line.event)
    ++ at_line number (poisoned (error_line h d) (open_counts h d) called line.actor line.event))
    ++ at_line number (failed line.event)

-- a bond that a line of this number breaks
abbrev pub broken_off : ℕ → Bond → Finding
broken_off number bond = record { line = number; kind = kind.Off bond }

-- the bonds that a line behind these breaks
abbrev pub bonds_at : Plan → History → Line → List Finding
bonds_at plan h line = map (broken_off (length h + 1)) (broken_at plan h line)

-- a put that a line behind these makes of a device that was used, and not marked as busy since
abbrev pub unmarked_at : Plan → History → Line → List Finding
unmarked_at plan h line =
    let d = device_of line.event in
    at_line (length h + 1) (unmarked (device (world plan h).views d) (open_counts h d) (call_by h line.actor) line.time line.actor line.event)

-- what stands out at a line behind these by where the run stands: such a put, and the bonds that it breaks
abbrev pub placed_at : Plan → History → Line → List Finding
placed_at plan h line = unmarked_at plan h line ++ bonds_at plan h line

-- what stands out at these lines, line by line, and behind it what does so by where the run stands
abbrev pub found_in : Plan → Later → History → List Finding
found_in plan later [] = []
found_in plan later (line ∷ h) = found_in plan later h ++ (found_at later h line ++ placed_at plan h line)

-- the counts that are left at the end of a run, where it is finished
abbrev pub left_counts : Bool → History → DevId → List Count
left_counts is_finished run d = if is_finished then open_counts run d else []

-- what is known at the end of a run
abbrev pub later_of : Bool → History → Later
later_of is_finished run = record { left = left_counts is_finished run; given = is_given run }

-- what stands out after these lines, told at the last of them: the devices that are left on, in the order of the plan
abbrev pub found_after : Plan → History → List Finding
found_after plan run = flat_map (λ d. at_line (length run) (on_after plan run (record { 0 = d }))) (range_with_len 0 (length plan.devices))

-- a domain that is left on, told at a line of this number
abbrev pub domain_at : ℕ → DomainOn → Finding
domain_at number left = record { line = number; kind = kind.DomainOn left }

-- the domains that are left on after these lines, told at the last of them
abbrev pub domains_after : Plan → History → List Finding
domains_after plan run = map (domain_at (length run)) (domains_left plan (world plan run).views)

-- all that stands out in a run of a plan: at its lines, in their order, and after them where it is finished, of devices and then of
-- domains
abbrev pub all_found : Plan → Bool → History → List Finding
all_found plan is_finished run =
    found_in plan (later_of is_finished run) run ++ (if is_finished then found_after plan run ++ domains_after plan run else [])
