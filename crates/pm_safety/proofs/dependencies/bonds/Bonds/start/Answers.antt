-- Each list is that of its rows, and no device has a past.
use Rattle.std.proofs.Common.{◌∙◌, Some, ap, map}
use Rattle.pm_device.specs.Children.{place_of}
use Rattle.pm_safety.proofs.dependencies.KeptLemmas.{kept_start}
use Rattle.pm_safety.proofs.dependencies.bonds.Bonds.start.Goals as goal

pub returns : goal.returns
returns c =
    kept_start c.args.plan.now _ c.len-devices.result c.deref.result.now c.deref-2.result.now c.deref-3.result.now c.len-devices.ensures
    (c.deref.ensures.value ∙ c.in_ok-parents.ensures ∙ ap (map (λ row. place_of row.parent)) c.as_slice.ensures)
    (c.deref-2.ensures.value ∙ c.in_ok-consumers.ensures ∙ ap (map (λ row. Some row.consumer.0)) c.as_slice-2.ensures)
    (c.deref-3.ensures.value ∙ c.in_ok-suppliers.ensures ∙ ap (map (λ row. Some row.supplier.0)) c.as_slice-3.ensures)
    c.in_ok-replay.ensures
    (c.in_ok-pasts.ensures.items_if_clones_equal (λ y same. same))
    c.in_ok-children.ensures c.in_ok-from.ensures c.in_ok-to.ensures
