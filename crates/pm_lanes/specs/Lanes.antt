-- In which lane a thing is shown, and which piece follows another in its lane (this project's own).
use Rattle.std.specs.Prelude.{ℕ, ◌≡◌, ◌<◌, ◌≤◌, ◌+◌, List, Option, Some, None, length, slice_get}
use Rattle.pm_lanes.specs.declared.shown.Lane.{Lane}
use Rattle.pm_lanes.specs.declared.shown.Lane.TheVariants as lane
use Rattle.pm_lanes.specs.declared.shown.Piece.{Piece}
use Rattle.pm_lanes.specs.declared.shown.Shown.{Shown}
use Rattle.pm_lanes.specs.declared.shown.Shown.TheVariants as shown

abbrev pub lane_of : Shown → Lane
lane_of (shown.Called c command) = lane.Calls c
lane_of (shown.Returned c code) = lane.Calls c
lane_of (shown.Waits actor d) = lane.Waits actor
lane_of (shown.Runs actor runs) = lane.Runs actor
lane_of (shown.Stands d status) = lane.Status d
lane_of (shown.Used d usage) = lane.Usage d
lane_of (shown.Disabled d disabled) = lane.Disabled d
lane_of (shown.Queued d queued) = lane.Queued d
lane_of (shown.Armed d deadline) = lane.Timer d
lane_of (shown.Begun d cb) = lane.Callback d cb
lane_of (shown.Ended d cb code) = lane.Callback d cb
lane_of (shown.Switched o on) = lane.Domain o
lane_of (shown.Held c s held) = lane.Link c s

-- the piece at this place is one of that lane
abbrev pub IsIn : List Piece → ℕ → Lane → Type 0
IsIn pieces k l = (p : Piece) × (slice_get pieces k ≡ Some p) × (lane_of p.shown ≡ l)

-- the first piece of a lane from a place on, if there is one
abbrev pub IsFirst : List Piece → ℕ → Lane → Option ℕ → Type 0
IsFirst pieces from l (Some j) = (from ≤ j) × IsIn pieces j l × ((k : ℕ) → from ≤ k → k < j → IsIn pieces k l → ⊥)
IsFirst pieces from l None = (k : ℕ) → from ≤ k → IsIn pieces k l → ⊥

-- for each piece its lane's next one: a bar or a band lasts until there, or until the end of the run
abbrev pub AreNexts : List Piece → List (Option ℕ) → Type 0
AreNexts pieces nexts = (length nexts ≡ length pieces) × ((i : ℕ) (p : Piece) → slice_get pieces i ≡ Some p → (next : Option ℕ) → slice_get nexts i ≡ Some next → IsFirst pieces (i + 1) (lane_of p.shown) next)
