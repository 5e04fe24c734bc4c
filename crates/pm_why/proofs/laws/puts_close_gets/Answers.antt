use Rattle.pm_why.proofs.UsageLemmas.{put_finds}
use Rattle.pm_why.proofs.laws.puts_close_gets.Goals as goal

pub returns : goal.returns
returns c = put_finds
