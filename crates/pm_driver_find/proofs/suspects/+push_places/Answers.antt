use Rattle.std.proofs.Common.{◌+◌, ◌-◌, ◌++◌, ◌∙◌, List, ap, drop, length, take}
use Rattle.pm_driver_find.specs.declared.sights.DriverSight.{DriverSight}
use Rattle.pm_driver_find.specs.Suspects.{place_suspects, program_suspects}
use Rattle.pm_driver_find.proofs.PushLemmas.{first_place, two_more}
use Rattle.pm_driver_find.proofs.suspects.+push_places.Goals as goal

pub returns : goal.returns
returns t c =
    let own = c.args.own.now in
    let old = c.args.out.now.items in
    let item = c.place-item.result in
    let here = place_suspects own.caller own.lines.now own.program.now c.args.number item in
    let there = program_suspects own.caller own.lines.now own.program.now (c.args.number + 1) (take (length c.args.places.now - 1) (drop 1 c.args.places.now)) in
    two_more old c.push_place.new.out.items c.push_places.new.out.items here there c.in_ok-push_place.ensures c.in_ok-push_places.ensures
    ∙ ap (λ (l : List DriverSight). old ++ l) (first_place own.caller own.lines.now own.program.now c.args.number c.args.places.now item c.in-len1-up.len_at_least c.place-item.is)
