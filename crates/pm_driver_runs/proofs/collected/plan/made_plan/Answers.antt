-- The rows are those that are collected, and fit exactly where they make a plan.
use Rattle.std.proofs.Common.{◌≡◌, ◌∙◌, List, reverse, sym, ap}
use Rattle.pm_model.specs.declared.rows.CallerRow.{CallerRow}
use Rattle.pm_model.specs.declared.rows.DeviceRow.{DeviceRow}
use Rattle.pm_model.specs.declared.plan.Plan.{Plan}
use Rattle.pm_model.specs.History.{History}
use Rattle.pm_driver_runs.specs.Collected.{codes_in, scripts_in, with_codes, with_scripts}
use Rattle.pm_driver_runs.proofs.OneRunPlan.{caller_names_kept, device_names_kept, fit_makes, fits_is, law_with, made_with, unfit_makes_none}
use Rattle.pm_driver_runs.proofs.collected.plan.made_plan.Goals as goal

coded : (rows : Plan) (h : History) (slice devices : List DeviceRow) → devices ≡ with_codes (codes_in h) 0 slice → slice ≡ rows.devices → devices ≡ with_codes (codes_in h) 0 rows.devices
coded rows h slice devices is slice_is = is ∙ ap (with_codes (codes_in h) 0) slice_is

scripted : (rows : Plan) (h : History) (slice callers : List CallerRow) → callers ≡ with_scripts (scripts_in h) 0 slice → slice ≡ rows.callers → callers ≡ with_scripts (scripts_in h) 0 rows.callers
scripted rows h slice callers is slice_is = is ∙ ap (with_scripts (scripts_in h) 0) slice_is

pub plan_with-requires-clause-devices : goal.plan_with-requires-clause-devices
plan_with-requires-clause-devices c =
    let d = coded c.args.driver.now (reverse c.args.lines.now) _ _ c.in_ok-devices.ensures c.as_slice.ensures in
    let s = scripted c.args.driver.now (reverse c.args.lines.now) _ _ c.in_ok-callers.ensures c.as_slice-2.ensures in
    device_names_kept c.args.driver.now (reverse c.args.lines.now) _ _ d s

pub plan_with-requires-clause-callers : goal.plan_with-requires-clause-callers
plan_with-requires-clause-callers c =
    let d = coded c.args.driver.now (reverse c.args.lines.now) _ _ c.in_ok-devices.ensures c.as_slice.ensures in
    let s = scripted c.args.driver.now (reverse c.args.lines.now) _ _ c.in_ok-callers.ensures c.as_slice-2.ensures in
    caller_names_kept c.args.driver.now (reverse c.args.lines.now) _ _ d s

pub plan_with-requires-clause-law : goal.plan_with-requires-clause-law
plan_with-requires-clause-law c =
    let d = coded c.args.driver.now (reverse c.args.lines.now) _ _ c.in_ok-devices.ensures c.as_slice.ensures in
    let s = scripted c.args.driver.now (reverse c.args.lines.now) _ _ c.in_ok-callers.ensures c.as_slice-2.ensures in
    let fit = fits_is c.args.driver.now (reverse c.args.lines.now) c.are_fit.result c.deref.result.now c.deref-2.result.now c.are_fit.ensures (c.deref.ensures.value ∙ d) (c.deref-2.ensures.value ∙ s) in
    law_with c.args.driver.now (reverse c.args.lines.now) _ _ d s (fit_makes c.args.driver.now (reverse c.args.lines.now) (sym fit ∙ c.if-are_fit.true))

pub returns-in_ok-plan_with : goal.returns-in_ok-plan_with
returns-in_ok-plan_with c =
    let d = coded c.args.driver.now (reverse c.args.lines.now) _ _ c.in_ok-devices.ensures c.as_slice.ensures in
    let s = scripted c.args.driver.now (reverse c.args.lines.now) _ _ c.in_ok-callers.ensures c.as_slice-2.ensures in
    made_with c.args.driver.now (reverse c.args.lines.now) _ _ d s c.in_ok-plan_with.field-0 c.in_ok-plan_with.ensures

pub returns-else-are_fit : goal.returns-else-are_fit
returns-else-are_fit c =
    let d = coded c.args.driver.now (reverse c.args.lines.now) _ _ c.in_ok-devices.ensures c.as_slice.ensures in
    let s = scripted c.args.driver.now (reverse c.args.lines.now) _ _ c.in_ok-callers.ensures c.as_slice-2.ensures in
    let fit = fits_is c.args.driver.now (reverse c.args.lines.now) c.are_fit.result c.deref.result.now c.deref-2.result.now c.are_fit.ensures (c.deref.ensures.value ∙ d) (c.deref-2.ensures.value ∙ s) in
    unfit_makes_none c.args.driver.now (reverse c.args.lines.now) (sym fit ∙ c.if-are_fit.false)
