-- By computing the text of the run.
use Rattle.std.proofs.Common.{refl}
use Rattle.pm_show_runs.proofs.CallTable.{call_table}
use Rattle.pm_show_runs.specs.Counts.{first_plan, first_text}
use Rattle.pm_show_runs.proofs.promises.Texts.{written_is_lawful}
use Rattle.pm_show_runs.proofs.promises.pieces.lawful_text.Goals as goal

pub returns : goal.returns
unfolding call_table
returns c = written_is_lawful first_plan first_text refl refl
