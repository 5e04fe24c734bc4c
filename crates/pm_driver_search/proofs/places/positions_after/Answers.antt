use Rattle.std.proofs.Common.{[], ◌∙◌, ap, map, w32}
use Rattle.std.proofs.Math.Facts.{to_z-of_z}
use Rattle.std.specs.Option.{option_map_or}
use Rattle.pm_driver_orders.specs.declared.Position.TheVariants.{At}
use Rattle.pm_driver_orders.specs.Drivers.{ways_at}
use Rattle.pm_driver_orders.specs.Programs.{goes_on_at}
use Rattle.pm_driver_rules.specs.GoingOn.{driver_of}
use Rattle.pm_driver_search.specs.Standing.{code_in}
use Rattle.pm_driver_search.proofs.places.positions_after.Goals as goal

pub returns-in_ok-all-in-In-position : goal.returns-in_ok-all-in-In-position
returns-in_ok-all-in-In-position c = λ v same.
    let code = to_z-of_z {w = w32} {z = c.code_in-code.result} (record { sfits = c.code_in-code.type_inv }) ∙ c.code_in-code.ensures ∙ ap code_in c.in-Ret.is in
    rw (c.in-Ret.is, c.in-In-position.is)
    (c.in_ok-all-in-In-position.ensures v same ∙ ap (λ z. option_map_or (λ ways. map At (goes_on_at ways v z)) (ways_at (driver_of c.args.rules.now) c.args.caller c.in-In-position.place) []) code)
