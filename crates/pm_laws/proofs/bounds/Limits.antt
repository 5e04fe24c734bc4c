-- How many lines, devices and domains the law of a plan allows.
use Rattle.std.proofs.Common.{ℕ, ◌≡◌, ◌≤◌, true, ◌&&◌, List, [], ◌∷◌, Some, length, nat_le, slice_get, arith}
use Rattle.std.specs.List.{list_all}
use Rattle.std.proofs.lemmas.Bool.{leb-true}
use Rattle.pm_base.specs.declared.limits.TheConstants.{MAX_COMMANDS, MAX_DEVICES, MAX_DOMAINS, MAX_LINES}
use Rattle.pm_model.specs.declared.event.Line.{Line}
use Rattle.pm_model.specs.declared.plan.Plan.{Plan}
use Rattle.pm_model.specs.declared.rows.CallerRow.{CallerRow}
use Rattle.pm_model.specs.IsPlan.{is_caller, is_plan}
use Rattle.pm_model.specs.Lawful.{IsLawful}
use Rattle.pm_laws.proofs.stacks.PlanLaw.{all_get}
use Rattle.pm_laws.proofs.stacks.Tests.{front, rear}

limits : (plan : Plan)
    → nat_le 1 plan.lines && nat_le plan.lines MAX_LINES && nat_le 1 plan.trace && nat_le plan.trace 2 && nat_le (length plan.domains) MAX_DOMAINS && nat_le (length plan.devices) MAX_DEVICES ≡ true
limits plan =
    let law : is_plan plan.lines plan.trace plan.domains plan.devices plan.links plan.callers ≡ true = plan.law in
    front _ _ (front _ _ (front _ _ (front _ _ (front _ _ (front _ _ (front _ _ (front _ _ (front _ _ (front _ _ law)))))))))

few_lines : (plan : Plan) → plan.lines ≤ MAX_LINES
few_lines plan = leb-true _ _ (rear _ _ (front _ _ (front _ _ (front _ _ (front _ _ (limits plan))))))

pub few_domains : (plan : Plan) → length plan.domains ≤ MAX_DOMAINS
few_domains plan = leb-true _ _ (rear _ _ (front _ _ (limits plan)))

pub few_devices : (plan : Plan) → length plan.devices ≤ MAX_DEVICES
few_devices plan = leb-true _ _ (rear _ _ (limits plan))

-- a caller's script
pub few_commands : (plan : Plan) (c : ℕ) (caller : CallerRow) → slice_get plan.callers c ≡ Some caller → length caller.script ≤ MAX_COMMANDS
few_commands plan c caller is =
    let law : is_plan plan.lines plan.trace plan.domains plan.devices plan.links plan.callers ≡ true = plan.law in
    let callers : list_all (is_caller (length plan.devices)) plan.callers ≡ true = rear _ _ (front _ _ (front _ _ (front _ _ (front _ _ law)))) in
    leb-true _ _ (front _ _ (rear _ _ (all_get (is_caller (length plan.devices)) plan.callers c caller callers is)))

-- no more lines than the plan allows
within_plan : (plan : Plan) (h : List Line) → IsLawful plan h → length h ≤ plan.lines
within_plan plan [] lawful = omega arith
within_plan plan (line ∷ h) lawful = omega (arith, lawful.1)

pub lines_bounded : (plan : Plan) (h : List Line) → IsLawful plan h → length h ≤ MAX_LINES
lines_bounded plan h lawful = omega (arith, within_plan plan h lawful, few_lines plan)
