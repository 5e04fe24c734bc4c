use Rattle.std.proofs.Common.{◌∙◌, ap, map, slice_set, sym}
use Rattle.pm_driver_rules.specs.GoingOn.{driver_of}
use Rattle.pm_driver_search.proofs.NextLemmas.{after_own}
use Rattle.pm_driver_search.proofs.places.after_caller.Goals as goal

pub returns : goal.returns
returns c = λ v same.
    c.in_ok-all.ensures ∙ ap (map (slice_set c.args.positions.now c.args.caller)) (c.as_slice.ensures.value ∙ c.in_ok-own.ensures v same)
    ∙ after_own (driver_of c.args.rules.now) v c.args.caller c.args.event.now c.args.positions.now c.in-Some.position (sym c.position_of.ensures ∙ c.in-Some.is)
