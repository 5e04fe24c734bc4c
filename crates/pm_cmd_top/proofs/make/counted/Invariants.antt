use Rattle.std.proofs.Common.{◌≡◌, ◌-◌, ◌≤◌, false, length, take}
use Rattle.pm_model.specs.Serial.{serial}
use Rattle.pm_report.specs.Report.{summary}
use Rattle.pm_cmd_top.proofs.make.counted.Given as goal

-- they are the counts of the lines that have come
abbrev pub invariant-loop-line : goal.invariant-loop-line
invariant-loop-line l =
    record {
      counts : l.sum ≡ summary l.plan (take l.lines.came (serial l.plan)) false;
      plan : l.lines.plan ≡ l.plan;
      within : l.lines.came ≤ length (serial l.plan);
    }

abbrev pub decreases-loop-line : goal.decreases-loop-line
decreases-loop-line l = length (serial l.plan) - l.lines.came
