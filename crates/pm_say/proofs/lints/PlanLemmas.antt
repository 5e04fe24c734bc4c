-- What the law of a plan says of its domains and scripts, and which devices stand in a domain that is off.
use Rattle.std.proofs.Common.{ℕ, ◌≡◌, ◌<◌, ◌≤◌, Bool, true, false, not, ◌&&◌, List, Option, Some, None, IfSome, length, get_or, nat_le, nat_lt, slice_get, slice_index_or, ap, refl, subst, sym, ◌∙◌, arith}
use Rattle.std.specs.List.{list_all}
use Rattle.std.specs.Option.{option_map_or}
use Rattle.std.proofs.lemmas.Bool.{leb-true, ltb-true}
use Rattle.std.proofs.lemmas.Grind.{common_steps}
use Rattle.std.proofs.lemmas.Option.{slice_get_read}
use Rattle.pm_base.specs.declared.DevId.{DevId}
use Rattle.pm_base.specs.declared.DomId.{DomId}
use Rattle.pm_model.specs.declared.event.Command.{Command}
use Rattle.pm_model.specs.declared.plan.Plan.{Plan}
use Rattle.pm_model.specs.declared.rows.CallerRow.{CallerRow}
use Rattle.pm_model.specs.declared.rows.DeviceRow.{DeviceRow}
use Rattle.pm_model.specs.IsPlan.{is_caller, is_command, is_device, is_plan}
use Rattle.pm_model.specs.PlanRows.{domain}
use Rattle.pm_laws.proofs.stacks.PlanLaw.{all_get, device_lawful}
use Rattle.pm_laws.proofs.stacks.Tests.{front, rear}
use Rattle.pm_say.specs.lints.Commands.{is_dark, is_lit}
use Rattle.pm_say.specs.lints.Helpers.{is_set_active}
use Rattle.pm_say.specs.lints.Marks.{AreLit}

lawful_callers : (plan : Plan) → list_all (is_caller (length plan.devices)) plan.callers ≡ true
lawful_callers plan =
    let law : is_plan plan.lines plan.trace plan.domains plan.devices plan.links plan.callers ≡ true = plan.law in
    rear _ _ (front _ _ (front _ _ (front _ _ (front _ _ law))))

-- each script is one over the plan's devices
pub script_lawful : (plan : Plan) (rows : List CallerRow) (c : ℕ) (row : CallerRow) → rows ≡ plan.callers → c < length rows → row ≡ get_or rows c row
    → list_all (is_command (length plan.devices)) row.script ≡ true
script_lawful plan rows c row same within is =
    let at : slice_get plan.callers c ≡ Some row = subst (λ xs. slice_get xs c ≡ Some row) same (slice_get_read rows (length rows) c row refl within is) in
    rear _ _ (rear _ _ (all_get (is_caller (length plan.devices)) plan.callers c row (lawful_callers plan) at))

few : (plan : Plan) → nat_le (length plan.domains) 128 ≡ true
few plan =
    let law : is_plan plan.lines plan.trace plan.domains plan.devices plan.links plan.callers ≡ true = plan.law in
    rear _ _ (front _ _ (front _ _ (front _ _ (front _ _ (front _ _ (front _ _ (front _ _ (front _ _ (front _ _ (front _ _ (front _ _ law)))))))))))

pub few_domains : (plan : Plan) → length plan.domains ≤ 128
few_domains plan = leb-true (length plan.domains) 128 (few plan)

domain_test : (domains d : ℕ) (row : DeviceRow) → is_device domains d row ≡ true → option_map_or (λ o. nat_lt o.0 domains) row.domain true ≡ true
domain_test domains d row law = grind (arith, common_steps)

some_within : (domains : ℕ) (o : Option DomId) → option_map_or (λ x. nat_lt x.0 domains) o true ≡ true → IfSome o (λ x. x.0 < domains)
some_within domains None test = tt
some_within domains (Some x) test = ltb-true x.0 domains test

-- the domain of a device is one of the plan's
domain_in_plan : (plan : Plan) (d : DevId) → IfSome (domain plan d) (λ o. o.0 < length plan.domains)
unfolding domain
domain_in_plan plan d = go (slice_get plan.devices d.0) refl
  where
    go : (o : Option DeviceRow) → slice_get plan.devices d.0 ≡ o → IfSome (option_map_or (λ row. row.domain) o None) (λ x. x.0 < length plan.domains)
    go None at = tt
    go (Some row) at = some_within (length plan.domains) row.domain (domain_test (length plan.domains) d.0 row (device_lawful plan d.0 row at))

-- a set_active is seen to come while its device's domain is off by the marks of the domains that are on
dark_by_marks : (plan : Plan) (before : List Command) (on : List Bool) (c : Command) → AreLit plan before on
    → (is_set_active c.helper && option_map_or (λ o. not (slice_index_or on o.0 false)) (domain plan c.dev) false) ≡ is_dark plan before c
dark_by_marks plan before on c lit = go (domain plan c.dev) (domain_in_plan plan c.dev)
  where
    go : (o : Option DomId) → IfSome o (λ x. x.0 < length plan.domains)
        → (is_set_active c.helper && option_map_or (λ x. not (slice_index_or on x.0 false)) o false) ≡ (is_set_active c.helper && option_map_or (λ x. not (is_lit plan before x.0)) o false)
    go None within = refl
    go (Some x) within = ap (λ b. is_set_active c.helper && not b) (lit.1 x.0 within)

-- the same of one whose device is in this domain
pub dark_at : (plan : Plan) (before : List Command) (on : List Bool) (c : Command) (o : DomId) (mark : Bool) → AreLit plan before on → is_set_active c.helper ≡ true
    → domain plan c.dev ≡ Some o → mark ≡ slice_index_or on o.0 false → not mark ≡ is_dark plan before c
dark_at plan before on c o mark lit active at marked =
    let test : Option DomId → Bool = λ x. option_map_or (λ d. not (slice_index_or on d.0 false)) x false in
    ap not marked ∙ sym (ap (λ (b : Bool). b && test (domain plan c.dev)) active ∙ ap test at) ∙ dark_by_marks plan before on c lit
