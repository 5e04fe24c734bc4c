use Rattle.std.proofs.Common.{arith}
use Rattle.std.proofs.lemmas.Grind.{common_steps}
use Rattle.pm_say.proofs.lint_text.ToldLemmas.{tells_more}
use Rattle.pm_say.proofs.lint_text.told.each_text.Goals as goal

pub loop-warning-preserved : goal.loop-warning-preserved
loop-warning-preserved c =
    tells_more c.args.file.now c.args.bytes.now _ _ c.loop-warning.out.items _ (grind (arith, common_steps)) c.loop-warning.invariant c.in_ok-push_warning.ensures
