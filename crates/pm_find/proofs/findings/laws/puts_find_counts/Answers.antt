use Rattle.pm_find.proofs.findings.ShareLemmas.{put_finds}
use Rattle.pm_find.proofs.findings.laws.puts_find_counts.Goals as goal

pub returns : goal.returns
returns c = put_finds
