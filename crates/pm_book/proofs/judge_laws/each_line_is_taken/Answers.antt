-- By the laws of counts.
use Rattle.pm_book.proofs.Moves.{takes}
use Rattle.pm_book.proofs.judge_laws.each_line_is_taken.Goals as goal

pub returns : goal.returns
returns c = λ plan h w line change next lawful same may.
    takes plan h w line change next same may (λ p. c.lines_are_taken.ensures plan h line lawful p) (λ n. c.counts_have_room.ensures.calls plan h n lawful)
