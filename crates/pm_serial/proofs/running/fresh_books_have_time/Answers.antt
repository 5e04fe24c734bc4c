use Rattle.pm_serial.proofs.WholeLemmas.{fresh_time}
use Rattle.pm_serial.proofs.running.fresh_books_have_time.Goals as goal

pub returns : goal.returns
returns c = fresh_time
