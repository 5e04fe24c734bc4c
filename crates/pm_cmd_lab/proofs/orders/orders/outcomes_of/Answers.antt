use Rattle.std.proofs.Common.{◌≤◌, length, map, max, min, refl, subst, sym}
use Rattle.std.proofs.lemmas.List.{length-map}
use Rattle.pm_explore.specs.schedule.Snapshots.{Follows, start_snapshot}
use Rattle.pm_outcomes.specs.find.Had.{AreExact, AreExactWithin}
use Rattle.pm_explore.specs.search.Growing.{IsLed}
use Rattle.pm_explore.specs.search.Trees.{AreLed, IsTree}
use Rattle.pm_explore.specs.state.SnapshotOf.{snapshot_of}
use Rattle.pm_outcomes.specs.paths.Found.{AreOfAllSchedules, AreOfSchedules}
use Rattle.pm_cmd_lab.proofs.orders.orders.outcomes_of.Goals as goal

pub returns-clause-found : goal.returns-clause-found
returns-clause-found c =
    let all = c.in_ok-all.all in
    let plan = c.args.plan.now in
    let keys = all.found.tree.nodes.keys in
    let pace = c.pace_of.ensures in
    record {
      found = record {
        observations = all.observations.items;
        rounds = all.found.rounds.items;
        snapshots = map snapshot_of keys;
        parents = all.found.tree.parents.items;
        ended = all.found.ended;
        exact = λ k seen. subst (λ p. AreExactWithin p plan k all.observations.items) pace (c.in_ok-all.ensures.rounds k seen);
        of_schedules = λ k bound there. subst (λ p. AreOfSchedules p plan k (map snapshot_of keys) bound) pace (c.in_ok-all.ensures.orders k bound there);
        whole = λ is. subst (λ p. AreExact p plan all.observations.items) pace (c.in_ok-all.ensures.whole is);
        all_schedules = λ is. subst (λ p. AreOfAllSchedules p plan (map snapshot_of keys)) pace (c.in_ok-all.ensures.all_schedules is);
        last = c.in_ok-all.ensures.last;
        end = c.in_ok-all.ensures.end;
        few = c.in_ok-all.ensures.few;
        tree = subst (λ p. IsTree (Follows p plan) (start_snapshot plan) (map snapshot_of keys) all.found.tree.parents.items) pace c.in_ok-all.ensures.tree;
        near = subst (λ p. IsLed (Follows p plan) (min c.args.bounds.most (length all.found.rounds.items)) (map snapshot_of keys) all.found.tree.parents.items) pace c.in_ok-all.ensures.near;
        of_rounds = c.in_ok-all.ensures.of_rounds;
        once = c.in_ok-all.ensures.once;
        in_order = c.in_ok-all.ensures.in_order;
        complete = c.in_ok-all.ensures.complete;
        room = subst (λ n. n ≤ max c.args.bounds.states 1) (sym (length-map keys snapshot_of)) c.in_ok-all.ensures.room;
        full = λ is. subst (λ n. c.args.bounds.states ≤ n) (sym (length-map keys snapshot_of)) (c.in_ok-all.ensures.full is);
        too_far = c.in_ok-all.ensures.too_far;
        memory = c.wants_memory.ensures c.if-wants_memory.false;
      };
      observations = refl;
      rounds = refl;
      snapshots = refl;
      parents = refl;
      ended = refl;
    }

pub returns-clause-led : goal.returns-clause-led
returns-clause-led c =
    let all = c.in_ok-all.all in
    let plan = c.args.plan.now in
    let keys = all.found.tree.nodes.keys in
    let parents = all.found.tree.parents.items in
    let pace = c.pace_of.ensures in
    record {
      tree = subst (λ p. IsTree (Follows p plan) (start_snapshot plan) (map snapshot_of keys) parents) pace c.in_ok-all.ensures.tree;
      near = subst (λ p. IsLed (Follows p plan) (min c.args.bounds.most (length all.found.rounds.items)) (map snapshot_of keys) parents) pace c.in_ok-all.ensures.near;
      led = subst (λ p. AreLed (Follows p plan) (map snapshot_of keys) parents all.found.rounds.items) pace c.in_ok-all.ensures.led;
      shown = c.in_ok-all.ensures.shown;
    }
