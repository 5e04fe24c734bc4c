use Rattle.std.proofs.Common.{List, ◌++◌, [], ◌∷◌, All, refl, subst, sym}
use Rattle.std.proofs.lemmas.List.{length-append}
use Rattle.pm_driver_read.proofs.CallerLemmas.{fits_more, read_step}
use Rattle.pm_driver_read.specs.Programs.{AreFewSteps, scripts_from}
use Rattle.pm_driver_read.specs.declared.scripts.CallerSteps.{CallerSteps}
use Rattle.pm_driver_read.proofs.scripts.scripts_in.Goals as goal

pub loop-number-preserved : goal.loop-number-preserved
loop-number-preserved c =
    let xs : List CallerSteps = c.loop-number.scripts.items in
    let x = c.in_ok-caller_steps.field-0 in
    record {
      rest = read_step c.args.plan.now.devices c.args.plan.now.links c.loop-number.number c.args.callers.now c.index-callers-number.result xs c.push.new.self.items x
          (scripts_from c.args.plan.now.devices c.args.plan.now.links 0 c.args.callers.now) c.loop-number-test.true c.index-callers-number.is c.in_ok-caller_steps.ensures.ok c.in_ok-push.ensures.items c.loop-number.invariant.rest;
      fits = subst (All AreFewSteps) (sym c.in_ok-push.ensures.items) (fits_more xs x c.loop-number.invariant.fits c.in_ok-caller_steps.ensures.fits);
      len = rw (c.in_ok-push.ensures.items, length-append xs (x ∷ []), c.loop-number.invariant.len) refl;
    }
