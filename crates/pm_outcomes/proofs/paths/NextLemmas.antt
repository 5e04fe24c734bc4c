-- The snapshots that follow a node, line by line.
use Rattle.std.proofs.Common.{ℕ, ◌≡◌, ◌<◌, ◌+◌, ◌++◌, ◌∷◌, [], List, Some, length, map, take, get_or, slice_get, subst, ap, ◌∙◌}
use Rattle.std.proofs.lemmas.Option.{slice_get-get_or}
use Rattle.pm_model.specs.declared.event.Line.{Line}
use Rattle.pm_model.specs.declared.plan.Plan.{Plan}
use Rattle.pm_explore.specs.declared.schedule.Pace.{Pace}
use Rattle.pm_explore.specs.schedule.Snapshots.{Snapshot, after}
use Rattle.pm_explore.specs.declared.state.snapshot.Snapshot.{Snapshot as Kept}
use Rattle.pm_explore.specs.state.SnapshotOf.{snapshot_of}
use Rattle.pm_outcomes.specs.paths.Found.{MayComeNext}
use Rattle.pm_outcomes.proofs.paths.ListLemmas.{both_more}

-- a line that may come next does so where another run stands at the same snapshot
pub comes_there : (pace : Pace) (plan : Plan) (first here : Snapshot) (lines : List Line) (i : ℕ) (d : Line) → ((j : ℕ) (line : Line) → slice_get lines j ≡ Some line → MayComeNext pace plan first line) → i < length lines → first ≡ here
    → MayComeNext pace plan here (get_or lines i d)
comes_there pace plan first here lines i d next lt same = subst (λ (s : Snapshot). MayComeNext pace plan s (get_or lines i d)) same (next i (get_or lines i d) (slice_get-get_or lines i d lt))

-- and leads to the same snapshot
pub one_snapshot_more : (plan : Plan) (first here : Snapshot) (snapshots pushed : List Kept) (x : Kept) (lines : List Line) (i : ℕ) (d : Line) → i < length lines → map snapshot_of snapshots ≡ map (after plan first) (take i lines) → pushed ≡ snapshots ++ x ∷ []
    → snapshot_of x ≡ after plan here (get_or lines i d) → here ≡ first → map snapshot_of pushed ≡ map (after plan first) (take (i + 1) lines)
one_snapshot_more plan first here snapshots pushed x lines i d lt so_far more is same = both_more snapshot_of (after plan first) snapshots pushed x lines i d lt so_far more (is ∙ ap (λ (s : Snapshot). after plan s (get_or lines i d)) same)
