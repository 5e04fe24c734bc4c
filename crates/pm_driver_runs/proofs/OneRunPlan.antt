-- A plan of a driver's rows with other devices and callers.
use Rattle.std.proofs.Common.{◌≡◌, ◌∙◌, Bool, true, false, ◌&&◌, List, length, map, sym, ap, subst}
use Rattle.std.proofs.Math.Bool.{Bool-set}
use Rattle.std.proofs.lemmas.Bool.{and_from, and_parts, true≢false}
use mathlib.Core.HLevel.{is_prop→PathP}
use Rattle.pm_model.specs.declared.plan.Plan.{Plan}
use Rattle.pm_model.specs.declared.rows.CallerRow.{CallerRow}
use Rattle.pm_model.specs.declared.rows.DeviceRow.{DeviceRow}
use Rattle.pm_model.specs.History.{History}
use Rattle.pm_model.specs.IsPlan.{is_plan}
use Rattle.pm_planread.specs.PlanOf.{contents_of}
use Rattle.pm_driver_flat.specs.Flat.{IsPlanOf, plan_of}
use Rattle.pm_driver_runs.specs.Collected.{MakesPlan, codes_in, scripts_in, with_codes, with_scripts}
use Rattle.pm_driver_runs.specs.Limits.{have_codes, have_scripts}
use Rattle.pm_driver_runs.specs.OneRun.{IsMadePlan, IsPlanWith}
use Rattle.pm_driver_runs.proofs.OneRunLaw.{codes_length, codes_names, fit_makes_plan, plan_has_codes, plan_has_scripts, scripts_names}

-- plans with the same contents are the same
pub same_contents : (p q : Plan) → contents_of p ≡ contents_of q → p ≡ q
same_contents p q same = λ j. record {
  lines = (same j).lines;
  trace = (same j).trace;
  domains = (same j).domains;
  devices = (same j).devices;
  links = (same j).links;
  callers = (same j).callers;
  law = is_prop→PathP (λ j. is_plan (same j).lines (same j).trace (same j).domains (same j).devices (same j).links (same j).callers ≡ true) (λ j. Bool-set _ _) p.law q.law j;
}

pub plan_with : (rows plan : Plan) (devices : List DeviceRow) (callers : List CallerRow) → IsPlanOf rows devices callers
    → plan.lines ≡ rows.lines → plan.trace ≡ rows.trace → plan.domains ≡ rows.domains → plan.devices ≡ devices → plan.links ≡ rows.links → plan.callers ≡ callers → IsPlanWith rows devices callers plan
plan_with rows plan devices callers law lines trace domains is_devices links is_callers = (
  law,
  same_contents plan (plan_of rows devices callers law) (λ j. record {
    lines = lines j;
    trace = trace j;
    domains = domains j;
    devices = is_devices j;
    links = links j;
    callers = is_callers j;
  }),
)

-- what is collected over a driver's rows
module _ (rows : Plan) (h : History) where
  abbrev Coded : List DeviceRow → Type 0
  Coded devices = devices ≡ with_codes (codes_in h) 0 rows.devices

  abbrev Scripted : List CallerRow → Type 0
  Scripted callers = callers ≡ with_scripts (scripts_in h) 0 rows.callers

  abbrev fits : Bool
  fits = have_codes (with_codes (codes_in h) 0 rows.devices) && have_scripts (length rows.devices) (with_scripts (scripts_in h) 0 rows.callers)

  pub fits_is : (b : Bool) (devices : List DeviceRow) (callers : List CallerRow) → b ≡ (have_codes devices && have_scripts (length devices) callers) → Coded devices → Scripted callers → b ≡ fits
  fits_is b devices callers is coded scripted =
      is ∙ ap (λ l. have_codes l && have_scripts (length l) callers) coded
      ∙ ap (λ l. have_codes (with_codes (codes_in h) 0 rows.devices) && have_scripts (length (with_codes (codes_in h) 0 rows.devices)) l) scripted
      ∙ ap (λ n. have_codes (with_codes (codes_in h) 0 rows.devices) && have_scripts n (with_scripts (scripts_in h) 0 rows.callers)) (codes_length (codes_in h) 0 rows.devices)

  pub fit_makes : fits ≡ true → MakesPlan rows h
  fit_makes is =
      let both = and_parts (have_codes (with_codes (codes_in h) 0 rows.devices)) (have_scripts (length rows.devices) (with_scripts (scripts_in h) 0 rows.callers)) is in
      fit_makes_plan rows (codes_in h) (scripts_in h) both.0 both.1

  pub unfit_makes_none : fits ≡ false → MakesPlan rows h → ⊥
  unfit_makes_none is law =
      true≢false (sym (and_from _ _ (plan_has_codes rows (codes_in h) (scripts_in h) law) (plan_has_scripts rows (codes_in h) (scripts_in h) law)) ∙ is)

  module _ (devices : List DeviceRow) (callers : List CallerRow) (coded : Coded devices) (scripted : Scripted callers) where
    pub device_names_kept : map (λ row. row.name) devices ≡ map (λ row. row.name) rows.devices
    device_names_kept = ap (λ l. map (λ row. row.name) l) coded ∙ codes_names (codes_in h) 0 rows.devices

    pub caller_names_kept : map (λ row. row.name) callers ≡ map (λ row. row.name) rows.callers
    caller_names_kept = ap (λ l. map (λ row. row.name) l) scripted ∙ scripts_names (scripts_in h) 0 rows.callers

    pub law_with : MakesPlan rows h → IsPlanOf rows devices callers
    law_with law = subst (λ l. IsPlanOf rows l callers) (sym coded) (subst (λ l. IsPlanOf rows (with_codes (codes_in h) 0 rows.devices) l) (sym scripted) law)

    pub made_with : (plan : Plan) → IsPlanWith rows devices callers plan → IsMadePlan rows h plan
    made_with plan is = subst (λ l. IsPlanWith rows (with_codes (codes_in h) 0 rows.devices) l plan) scripted (subst (λ l. IsPlanWith rows l callers plan) coded is)
