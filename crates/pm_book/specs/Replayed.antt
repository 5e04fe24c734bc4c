-- Where a run stands while its lines are read again (this project's own). Lists of lines have the newest line first.
use Rattle.std.specs.Prelude.{ℕ, ◌≡◌, ◌<◌, ◌^◌}
use Rattle.pm_model.specs.declared.plan.Plan.{Plan}
use Rattle.pm_model.specs.History.{History}
use Rattle.pm_model.specs.Lawful.{last_time}
use Rattle.pm_model.specs.World.{world}
use Rattle.pm_state.specs.Standing.{IsOf, Standing}

-- the counters and places of a run, and when its last line was written, 0 where there is none
pub record Replayed : Type 0 where
  pub standing : Standing
  pub last : ℕ

-- after these lines of the plan
pub record IsAfter (plan : Plan) (r : Replayed) (h : History) : Type 0 where
  pub world_is : r.standing.world ≡ world plan h
  pub last_is : r.last ≡ last_time h
  pub is_of : IsOf plan r.standing
  pub in_time : r.last < 2 ^ 63
