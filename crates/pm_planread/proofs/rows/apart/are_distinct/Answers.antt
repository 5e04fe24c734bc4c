-- The numbers are those that were sorted.
use Rattle.pm_planread.proofs.rows.ApartLemmas.{rising_apart}
use Rattle.pm_planread.proofs.rows.apart.are_distinct.Goals as goal

pub returns : goal.returns
returns c = rw (c.is_rising.ensures, c.as_slice.ensures.value) (λ up. rising_apart c.args.numbers.items c.sort_unstable.new.self.items c.sort_unstable.ensures.permutation up)
