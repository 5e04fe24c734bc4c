use Rattle.pm_book.proofs.PageLemmas.{writes}
use Rattle.pm_book.proofs.laws.each_line_is_taken.Goals as goal

pub returns : goal.returns
returns c = λ plan h w s line change next lawful same may. c.each_line_is_taken.ensures plan h w line change next lawful same (writes plan h w s line change next same may)
