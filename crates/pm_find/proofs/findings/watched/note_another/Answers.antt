use Rattle.std.proofs.Common.{arith}
use Rattle.std.proofs.lemmas.Grind.{common_steps}
use Rattle.std.proofs.lemmas.List.Edits.{map_over_more}
use Rattle.pm_find.specs.findings.OpenCounts.{with_another}
use Rattle.pm_find.proofs.findings.watched.note_another.Goals as goal

pub loop-count-preserved : goal.loop-count-preserved
loop-count-preserved c = grind (arith, common_steps, map_over_more (with_another c.args.actor))
