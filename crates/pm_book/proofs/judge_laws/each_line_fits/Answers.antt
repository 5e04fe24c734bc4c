-- By the law of stacks, behind the line.
use Rattle.std.proofs.Common.{◌∷◌, refl}
use Rattle.pm_book.proofs.Moves.{fits, permits}
use Rattle.pm_book.proofs.judge_laws.each_line_fits.Goals as goal

pub returns : goal.returns
returns c = λ plan h s line change next lawful few same is within may.
    fits plan h s line change next same is within may (c.stacks_are_shallow.ensures plan (line ∷ h) (permits plan h s.world _ line change next same refl may, few, lawful))
