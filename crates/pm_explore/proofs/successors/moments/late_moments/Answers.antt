use Rattle.std.proofs.Common.{◌≡◌, ◌∙◌, ◌++◌, ◌∷◌, [], List, ap, subst}
use Rattle.std.specs.List.{enumerate_from, filter_map}
use Rattle.pm_base.specs.declared.ActorId.{ActorId}
use Rattle.pm_model.specs.Derived.{expiry}
use Rattle.pm_explore.specs.schedule.Snapshots.{due_moment, due_moments}
use Rattle.pm_explore.specs.successors.Moments.{AreWith}
use Rattle.pm_explore.specs.successors.Standing.{snapshot_at}
use Rattle.pm_explore.proofs.successors.MomentLemmas.{late_exact, with_both}
use Rattle.pm_explore.proofs.successors.moments.late_moments.Goals as goal

pub returns : goal.returns
returns c =
    let plan = c.args.plan.now in
    let s = snapshot_at c.args.state.now.world c.args.last in
    let now = c.args.last.time in
    let first : c.push.new.self.items ≡ now ∷ [] = c.in_ok-push.ensures.items ∙ ap (λ l. l ++ now ∷ []) c.new-out.ensures.items in
    let due = subst (λ (l : List ActorId). AreWith now c.push.new.self.items (filter_map (due_moment plan s) l) c.push_due.new.out.items) c.requires.actors c.in_ok-push_due.ensures in
    late_exact plan s c.push.new.self.items c.push_expiries.new.out.items first
    (with_both now c.push.new.self.items (due_moments plan s) c.push_due.new.out.items (filter_map (λ p. expiry s.world.views (record { 0 = p.0 })) (enumerate_from 0 plan.devices)) c.push_expiries.new.out.items due c.in_ok-push_expiries.ensures)
