use Rattle.std.proofs.Common.{◌∙◌, ◌++◌, [], List, ℕ, ap, subst, sym}
use Rattle.pm_find.specs.text.Texts.{finding_text}
use Rattle.pm_find.specs.trace.PlanPlaces.{IsPlaceOf}
use Rattle.pm_find.specs.trace.Texts.{TellsEach, files_of, nothing}
use Rattle.pm_find.proofs.trace.TellLemmas.{each_more}
use Rattle.pm_find.proofs.trace.texts.each_text.Goals as goal

pub loop-found-init : goal.loop-found-init
loop-found-init c = subst (λ (text : List ℕ). TellsEach c.args.plan.now c.args.lines.now (files_of c.args.trace.now c.args.file) [] text) (sym c.new-text.ensures.items) nothing

pub loop-found-preserved : goal.loop-found-preserved
loop-found-preserved c =
    each_more c.args.plan.now c.args.lines.now (files_of c.args.trace.now c.args.file) c.args.all.now c.loop-found.found-index _ c.in_ok-place.place.items c.deref.result.now c.loop-found.text.items c.push_finding.new.text.items
    c.loop-found-test.true c.loop-found.invariant c.in_ok-place.ensures
    c.deref.ensures.value c.in_ok-push_finding.ensures
