use Rattle.pm_index.proofs.TallyLemmas.{none_tallied}
use Rattle.pm_index.proofs.tally.Tally.new.Goals as goal

pub invariant_of-result : goal.invariant_of-result
invariant_of-result c =
    rw (c.in_ok-bits.ensures, c.in_ok-counts.ensures, c.as_slice.ensures.value) (none_tallied c.args.owners.items c.args.bound c.requires.few c.requires.below)
