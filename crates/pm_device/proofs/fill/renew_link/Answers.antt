use Rattle.std.proofs.Common.{Bool, List, ap, false, slice_set}
use Rattle.pm_link.specs.Links.{LinkViews}
use Rattle.pm_device.proofs.FillLemmas.{set_again}
use Rattle.pm_device.proofs.fill.renew_link.Goals as goal

pub returns : goal.returns
returns c =
    let links = c.args.links.now in
    let with_held : List Bool → LinkViews = λ bits. record { rows = links.rows; held = bits; present = slice_set links.present c.args.link c.args.present } in
    rw (c.hold_link.ensures, c.place_link.ensures, c.free_link.ensures) (ap with_held (set_again links.held c.args.link false c.args.held))
