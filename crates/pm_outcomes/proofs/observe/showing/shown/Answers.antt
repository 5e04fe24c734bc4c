use Rattle.std.proofs.Common.{sym, ap, ◌∙◌, ◌++◌, map}
use Rattle.std.specs.List.{range_with_len}
use Rattle.pm_outcomes.specs.observe.Shows.{end_at}
use Rattle.pm_explore.specs.state.SnapshotOf.{snapshot_of, views_of}
use Rattle.pm_outcomes.proofs.observe.Exactly.{finished_exact, unfinished_exact}
use Rattle.pm_outcomes.proofs.observe.showing.shown.Goals as goal

pub returns-in_ok-push_ends : goal.returns-in_ok-push_ends
returns-in_ok-push_ends c =
    let more = c.in_ok-push_ends.ensures ∙ ap (λ n. c.in_ok-out.out.items ++ map (end_at (views_of c.args.snapshot.now)) (range_with_len 0 n)) c.len.ensures in
    finished_exact c.args.plan.now (snapshot_of c.args.snapshot.now) c.in_ok-out.out.items c.push_ends.new.out.items (sym c.if-is_finished.ensures) c.in_ok-out.ensures more

pub returns-else-is_finished : goal.returns-else-is_finished
returns-else-is_finished c = unfinished_exact c.args.plan.now (snapshot_of c.args.snapshot.now) c.in_ok-out.out.items (sym c.if-is_finished.ensures) c.in_ok-out.ensures
