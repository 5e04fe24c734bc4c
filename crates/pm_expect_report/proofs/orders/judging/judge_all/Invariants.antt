use Rattle.std.proofs.Common.{◌≡◌, All, map, take}
use Rattle.pm_expect_report.specs.orders.Judged.{HasLine, IsJudgedFirst, what_of}
use Rattle.pm_explore.specs.state.SnapshotOf.{snapshot_of}
use Rattle.pm_expect_report.proofs.orders.judging.judge_all.Given as goal

-- so many of them are judged
abbrev pub invariant-loop-number : goal.invariant-loop-number
invariant-loop-number l = record {
  each : map what_of l.all.items ≡ take l.number l.each;
  firsts : All (IsJudgedFirst l.plan (map snapshot_of l.found.tree.nodes.keys) l.found.rounds.items) l.all.items;
  lines : All (HasLine l.text) l.all.items;
}
