use Rattle.std.proofs.Common.{None, ap, false, length, map, replicate, sym, ◌∙◌}
use Rattle.std.proofs.lemmas.List.{length-map}
use Rattle.pm_model.specs.declared.rows.DeviceRow.{DeviceRow}
use Rattle.pm_model.specs.declared.rows.DomainRow.{DomainRow}
use Rattle.pm_model.specs.Views.{fresh_device, fresh_pending}
use Rattle.pm_index.specs.OwnMarks.{Marks}
use Rattle.pm_domain.specs.Domains.{place_of as domain_place}
use Rattle.pm_device.specs.Children.{place_of}
use Rattle.pm_device.proofs.FreshLemmas.{fresh_views, kept_as_fresh, parents_below}
use Rattle.pm_device.proofs.Parts.fresh.Goals as goal

pub invariant_of-result : goal.invariant_of-result
invariant_of-result c =
    let plan = c.args.plan.now in
    let rows = c.as_slice-rows.ensures in
    let made = c.in_ok-domains.ensures.made_for in
    let owners = c.in_ok-parents.ensures ∙ ap (map (λ (row : DeviceRow). place_of row.parent)) rows in
    let count = ap length owners ∙ length-map plan.devices (λ (row : DeviceRow). place_of row.parent) in
    kept_as_fresh plan c.in_ok-children.children.owners c.in_ok-devices.devices.items c.in_ok-requests.requests c.in_ok-timers.timers
    c.in_ok-domains.domains.homes c.in_ok-domains.domains.awake c.in_ok-domains.domains.above c.in_ok-domains.domains.on c.in_ok-children.children.bits
    (made.on_len ∙ sym (ap length made.above_are ∙ length-map plan.domains (λ (row : DomainRow). domain_place row.parent)))
    (ap (λ (m : Marks). m.owners) c.in_ok-children.ensures ∙ owners)
    (c.in_ok-devices.ensures ∙ ap (map (λ (row : DeviceRow). record fresh_device { ignores = row.ignore_children })) rows)
    (c.in_ok-requests.ensures ∙ ap (λ xs. replicate (length xs) fresh_pending) rows)
    (c.in_ok-timers.ensures ∙ ap (λ xs. replicate (length xs) None) rows)
    made.homes_are c.in_ok-domains.ensures.awake
    (ap (λ (m : Marks). m.bits) c.in_ok-children.ensures ∙ ap (λ n. replicate n false) count)

pub new-requires-clause-below : goal.new-requires-clause-below
new-requires-clause-below c = rw (c.in_ok-parents.ensures, c.as_slice-rows.ensures) (parents_below c.args.plan.now)

pub returns-clause-start : goal.returns-clause-start
returns-clause-start c =
    let rows = c.as_slice-rows.ensures in
    fresh_views c.args.plan.now c.in_ok-devices.devices.items c.in_ok-requests.requests c.in_ok-timers.timers c.in_ok-domains.domains.on c.in_ok-links.links.held c.in_ok-links.links.present
    (c.in_ok-devices.ensures ∙ ap (map (λ (row : DeviceRow). record fresh_device { ignores = row.ignore_children })) rows)
    (c.in_ok-requests.ensures ∙ ap (λ xs. replicate (length xs) fresh_pending) rows)
    (c.in_ok-timers.ensures ∙ ap (λ xs. replicate (length xs) None) rows)
    c.in_ok-domains.ensures.on (ap (λ links. links.held) c.in_ok-links.ensures) (ap (λ links. links.present) c.in_ok-links.ensures)
