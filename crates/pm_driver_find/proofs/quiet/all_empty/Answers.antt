use Rattle.std.proofs.Common.{sym, ◌∙◌}
use Rattle.std.proofs.lemmas.List.Folds.{list_all-map}
use Rattle.pm_model.specs.Lawful.{is_empty_place}
use Rattle.pm_driver_find.proofs.quiet.all_empty.Goals as goal

pub returns : goal.returns
returns c = c.each_empty.ensures ∙ sym (list_all-map is_empty_place (λ v. v.items) c.args.places.now)
