-- For which lines a follower stands (this project's own). Lists have the newest line first.
use Rattle.std.specs.Prelude.{List}
use Rattle.pm_model.specs.declared.event.Line.{Line}
use Rattle.pm_audit.specs.declared.takers.Follower.{Follower}
use Rattle.pm_audit.specs.Readings.{IsFollowing}

-- its judge stands for them, and its keeper has what is to be kept of them
abbrev pub FollowerStandsFor : {K : Type 0} → (K → List Line → Type 0) → Follower K → List Line → Type 0
FollowerStandsFor Keeps f h = IsFollowing Keeps f.judge f.keeper h
