use Rattle.pm_book.proofs.PageLemmas.{writes}
use Rattle.pm_book.proofs.laws.stacks_have_room.Goals as goal

pub returns : goal.returns
returns c = λ plan h state s line change next lawful is same within may.
    c.each_line_fits.ensures plan h state line change next lawful may.may.room same is within (writes plan h state.world s line change next same may)
