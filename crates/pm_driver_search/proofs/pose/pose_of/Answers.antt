use Rattle.std.proofs.Common.{◌∙◌, ap, map, sym}
use Rattle.pm_driver_flat.specs.Flat.{bare, begun_so}
use Rattle.pm_driver_rules.specs.GoingOn.{driver_of}
use Rattle.pm_explore.specs.state.SnapshotOf.{views_of}
use Rattle.pm_driver_search.proofs.PoseLemmas.{begun_is, called_is}
use Rattle.pm_driver_search.proofs.pose.pose_of.Goals as goal

pub returns : goal.returns
returns c =
    let views = bare (views_of c.args.node.now.snapshot) in
    record {
      devices = begun_is _ _ _ _ c.in_ok-begun.begun.items c.in_ok-begun.ensures c.begun_for.ensures c.as_slice-devices.ensures.value;
      called =
          called_is (driver_of c.args.rules.now) _ _ views _ _ c.in_ok-called.called.items c.as_slice.ensures.value c.as_slice-3.ensures.value
          (c.in_ok-called.ensures views (sym (c.as_slice-2.ensures.value ∙ c.in_ok-plain.ensures ∙ ap (map (begun_so 1)) c.as_slice-devices.ensures.value)));
    }
