use Rattle.std.proofs.Common.{List, ◌++◌, [], ◌∷◌, map, refl, subst, sym}
use Rattle.std.proofs.lemmas.List.{length-append}
use Rattle.pm_driver_read.proofs.RowLemmas.{few_more, read_step}
use Rattle.pm_driver_read.specs.Programs.{steps_from}
use Rattle.pm_driver_script.specs.Fits.{HasFewExits}
use Rattle.pm_driver_text.specs.declared.steps.ScriptStep.{ScriptStep}
use Rattle.pm_driver_read.proofs.scripts.steps_in.Goals as goal

pub loop-number-preserved : goal.loop-number-preserved
loop-number-preserved c =
    let xs : List ScriptStep = c.loop-number.steps.items in
    let x = c.in_ok-located.field-0 in
    let names = map (λ row. row.name) c.args.devices.now in
    record {
      rest = read_step names c.args.caller c.loop-number.number c.args.texts.now c.index-texts-number.result xs c.push.new.self.items x
          (steps_from names c.args.caller 0 c.args.texts.now) c.loop-number-test.true c.index-texts-number.is c.in_ok-located.ensures.ok c.in_ok-push.ensures.items c.loop-number.invariant.rest;
      exits = subst HasFewExits (sym c.in_ok-push.ensures.items) (few_more xs x c.loop-number.invariant.exits c.in_ok-located.ensures.exits);
      len = rw (c.in_ok-push.ensures.items, length-append xs (x ∷ []), c.loop-number.invariant.len) refl;
    }
