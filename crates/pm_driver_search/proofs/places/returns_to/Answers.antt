use Rattle.std.proofs.Common.{◌∙◌, ap, map}
use Rattle.std.proofs.Math.Facts.{to_z-of_z}
use Rattle.pm_driver_orders.specs.Programs.{goes_on_at}
use Rattle.pm_driver_rules.specs.GoingOn.{ways_of}
use Rattle.pm_driver_orders.specs.declared.Position.TheVariants.{At}
use Rattle.pm_driver_search.proofs.PoseLemmas.{returns_is}
use Rattle.pm_driver_search.proofs.places.returns_to.Goals as goal

pub returns : goal.returns
returns c = λ v same.
    c.in_ok-all.ensures ∙ ap (map At) c.as_slice.ensures.value ∙ returns_is c.args.rules.now c.args.caller c.args.place c.in-Some.place.now v c.args.code c.in_ok-places.places.items c.in-Some.ensures (c.in_ok-places.ensures v same ∙ ap (goes_on_at (ways_of c.args.rules.now.plan.now c.in-Some.place.now) v) (to_z-of_z c.ranges.code))
