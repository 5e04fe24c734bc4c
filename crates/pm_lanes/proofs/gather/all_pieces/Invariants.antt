use Rattle.std.proofs.Common.{◌≡◌, reverse, take}
use Rattle.pm_lanes.specs.Pieces.{pieces}
use Rattle.pm_book.specs.Replayed.{IsAfter}
use Rattle.pm_lanes.proofs.gather.all_pieces.Given as goal

-- the run stands behind the lines so far, and what is shown is that of them
abbrev pub invariant-loop-place : goal.invariant-loop-place
invariant-loop-place l = record {
  stands : IsAfter l.plan l.replay (reverse (take l.place l.lines));
  shown : l.all.items ≡ pieces l.plan (reverse (take l.place l.lines));
}
