-- The plan that bytes are, or the first of its refusals in their order (this project's own). Each refusal is looked for over the
-- whole plan before the next.
use Rattle.std.specs.Prelude.{◌≡◌, ⊤, ℕ, List, Option, Some, None, Result, Ok, Err, length, nat_lt, if◌then◌else◌}
use Rattle.toml.specs.Data.{Members}
use Rattle.pm_model.specs.declared.plan.Plan.{Plan}
use Rattle.pm_model.specs.declared.rows.DomainRow.{DomainRow}
use Rattle.pm_model.specs.declared.rows.DeviceRow.{DeviceRow}
use Rattle.pm_model.specs.declared.rows.LinkRow.{LinkRow}
use Rattle.pm_model.specs.declared.rows.CallerRow.{CallerRow}
use Rattle.pm_planread.specs.tree.KeyFault.{key_fault}
use Rattle.pm_planread.specs.tree.KindFault.{kind_fault}
use Rattle.pm_planread.specs.tree.Places.{place}
use Rattle.pm_planread.specs.tree.Raw.{raw_plan}
use Rattle.pm_planread.specs.tree.Tree.{document}
use Rattle.pm_planread.specs.declared.tree.keys.Format.TheVariants as format
use Rattle.pm_planread.specs.declared.tree.place.Section.TheVariants.{Top}
use Rattle.pm_planread.specs.declared.tree.raw.RawPlan.{RawPlan}
use Rattle.pm_planread.specs.Faults.{refused, unless}
use Rattle.pm_planread.specs.rows.Names.{device_names, name_fault, repeat_fault, unknown_fault}
use Rattle.pm_planread.specs.rows.Numbers.{code_fault, number_fault}
use Rattle.pm_planread.specs.rows.Orders.{domain_fault, later_fault, link_fault}
use Rattle.pm_planread.specs.rows.Rows.{device_rows, domain_rows, link_rows, natural_within}
use Rattle.pm_planread.specs.Scripts.{caller_rows, script_fault}
use Rattle.pm_planread.specs.rows.TooMany.{too_many_fault}
use Rattle.pm_planread.specs.declared.refusal.PlanFault.{PlanFault}
use Rattle.pm_planread.specs.declared.refusal.PlanFault.TheVariants.{NoMemory}
use Rattle.pm_planread.specs.declared.refusal.PlanWhy.TheVariants as why

-- what stands in a plan
pub record Contents : Type 0 where
  pub lines : ℕ
  pub trace : ℕ
  pub domains : List DomainRow
  pub devices : List DeviceRow
  pub links : List LinkRow
  pub callers : List CallerRow

abbrev pub contents_of : Plan → Contents
contents_of plan = record {
  lines = plan.lines;
  trace = plan.trace;
  domains = plan.domains;
  devices = plan.devices;
  links = plan.links;
  callers = plan.callers;
}

-- what the rows of a text make, where nothing is refused
unfoldable pub contents_in : RawPlan → Contents
contents_in raw = record {
  lines = natural_within 1 200000 raw.lines;
  trace = natural_within 1 2 raw.trace;
  domains = domain_rows raw;
  devices = device_rows raw;
  links = link_rows raw;
  callers = caller_rows raw;
}

-- the refusals of numbers and commands
unfoldable pub counted_plan : RawPlan → Result Contents PlanFault
counted_plan raw =
    unless (number_fault raw) why.Number
    (unless (code_fault raw) why.Code
    (unless (script_fault (device_names raw) raw.callers) why.Script
    (Ok (contents_in raw))))

-- the refusals of rows whose names are known
unfoldable pub ordered_plan : RawPlan → Result Contents PlanFault
ordered_plan raw =
    unless (later_fault (domain_rows raw) (device_rows raw) (link_rows raw)) why.Later
    (unless (domain_fault (device_rows raw)) why.NoCallbacksWithDomain
    (unless (link_fault (device_rows raw) (link_rows raw)) why.NoCallbacksWithLink
    (counted_plan raw)))

-- the refusals of names that aren't there
abbrev pub known_plan : RawPlan → Result Contents PlanFault
known_plan raw = unless (unknown_fault raw) why.Unknown (ordered_plan raw)

-- the refusals of names
unfoldable pub named_plan : RawPlan → Result Contents PlanFault
named_plan raw =
    unless (too_many_fault raw) why.TooMany
    (unless (name_fault raw) why.Name
    (unless (repeat_fault raw) why.Repeat
    (known_plan raw)))

-- the refusals of the tree
unfoldable pub tree_plan : Members → Result Contents PlanFault
tree_plan tree = unless (key_fault format.Plan tree) why.Key (unless (kind_fault format.Plan tree) why.Kind (named_plan (raw_plan tree)))

abbrev pub document_plan : Option Members → Result Contents PlanFault
document_plan None = Err (refused why.NotToml (place Top 0 0))
document_plan (Some tree) = tree_plan tree

-- the plan that the bytes are, or the first refusal
unfoldable pub plan_of : List ℕ → Result Contents PlanFault
plan_of bytes = if nat_lt 1048576 (length bytes) then Err (refused why.TooLong (place Top 0 0)) else document_plan (document bytes)

-- the fault is the first refusal, or want of memory, which says nothing of the bytes
abbrev pub IsFaultOf : Result Contents PlanFault → PlanFault → Type 0
IsFaultOf plan NoMemory = ⊤
IsFaultOf plan fault = plan ≡ Err fault
