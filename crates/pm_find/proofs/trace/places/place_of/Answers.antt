use Rattle.std.proofs.Common.{◌∙◌, ℕ, Option, subst, sym}
use Rattle.std.specs.Prelude.{IfSome}
use Rattle.pm_find.specs.trace.PlanPlaces.{ShowsCommand}
use Rattle.pm_find.proofs.trace.PlaceLemmas.{told_nowhere, told_there}
use Rattle.pm_find.proofs.trace.places.place_of.Goals as goal

pub told_place-requires : goal.told_place-requires
told_place-requires c =
    let shown = subst (λ (o : Option ℕ). IfSome o (λ at. ShowsCommand c.args.plan.now c.args.text.now at c.in-Some-spoken_command.command)) c.in-Some-2.is c.in_ok-at.ensures in
    shown.within

pub returns-in_default : goal.returns-in_default
returns-in_default c = told_nowhere c.nowhere.result c.args.plan.now c.args.lines.now c.args.file.now c.args.text.now c.args.found.now c.nowhere.ensures

pub returns-in_default-spoken_command : goal.returns-in_default-spoken_command
returns-in_default-spoken_command c =
    told_nowhere c.nowhere-in_default-spoken_command.result c.args.plan.now c.args.lines.now c.args.file.now c.args.text.now c.args.found.now c.nowhere-in_default-spoken_command.ensures

pub returns-in-Some-2 : goal.returns-in-Some-2
returns-in-Some-2 c =
    told_there c.told_place.result c.args.plan.now c.args.lines.now c.args.file.now c.args.text.now c.args.found.now c.in-Some.spoken c.in-Some-spoken_command.command c.in-Some-2.at
    (sym c.spoken_of.ensures ∙ c.in-Some.is) (sym c.spoken_command.ensures ∙ c.in-Some-spoken_command.is)
    (subst (λ (o : Option ℕ). IfSome o (λ at. ShowsCommand c.args.plan.now c.args.text.now at c.in-Some-spoken_command.command)) c.in-Some-2.is c.in_ok-at.ensures) c.told_place.ensures

pub returns-in-None : goal.returns-in-None
returns-in-None c = told_nowhere c.nowhere-in-None.result c.args.plan.now c.args.lines.now c.args.file.now c.args.text.now c.args.found.now c.nowhere-in-None.ensures
