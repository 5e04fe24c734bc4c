use Rattle.std.proofs.Common.{◌++◌, map, subst}
use Rattle.pm_outcomes.specs.list.Firsts.{AreFirsts}
use Rattle.pm_explore.specs.state.SnapshotOf.{snapshot_of}
use Rattle.pm_outcomes.proofs.find.Seeing.{placed, seen_more, seen_up_to}
use Rattle.pm_outcomes.proofs.find.firsts.note_snapshot.Goals as goal

pub returns : goal.returns
returns c = λ snapshots there before.
    let up_to = seen_up_to c.args.plan.now snapshots c.args.place before.seen before.all_seen in
    let noted = c.in_ok-note_all.ensures before.seen up_to before.are_firsts in
    record {
      seen = before.seen ++ map (placed c.args.place) c.in_ok-observations.observations.items;
      all_seen = seen_more c.args.plan.now snapshots c.args.place (snapshot_of c.args.snapshot.now) c.in_ok-observations.observations.items before.seen there c.in_ok-observations.ensures before.all_seen;
      are_firsts = subst (λ l. AreFirsts (before.seen ++ map (placed c.args.place) l) c.note_all.new.firsts.entries.entries) c.as_slice.ensures.value noted;
    }
