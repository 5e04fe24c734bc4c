use Rattle.pm_cmd_top.proofs.answers.OnceLemmas.{answers_once}
use Rattle.pm_cmd_top.proofs.answers.once.answers_are_one.Goals as goal

pub returns : goal.returns
returns c = answers_once
