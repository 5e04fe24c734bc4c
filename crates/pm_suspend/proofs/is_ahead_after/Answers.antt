use Rattle.std.proofs.Common.{ap, sym, ◌∙◌}
use Rattle.pm_model.specs.Derived.{is_ahead}
use Rattle.pm_model.specs.Views.{device}
use Rattle.pm_suspend.specs.SuspendMove.{expiry_of}
use Rattle.pm_suspend.proofs.AheadLemmas.{ended_expiry}
use Rattle.pm_suspend.proofs.is_ahead_after.Goals as goal

pub returns : goal.returns
returns c =
    let v = c.args.parts.now.views in
    let dev = c.args.dev in
    c.is_ahead_from.ensures
    ∙ ap (λ last. is_ahead (expiry_of (device v dev).use_auto (device v dev).delay last) c.args.time) c.last_mark.ensures.mark
    ∙ sym (ap (λ e. is_ahead e c.args.time) (ended_expiry c.args.plan.now dev c.args.code c.args.time v c.last_mark.ensures.in_views))
