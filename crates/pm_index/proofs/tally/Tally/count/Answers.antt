use Rattle.std.proofs.Common.{ap, slice_index_or, ◌∙◌}
use Rattle.pm_index.specs.OwnMarks.{Marks, marked_of}
use Rattle.pm_index.proofs.TallyLemmas.{count_is}
use Rattle.pm_index.proofs.tally.Tally.count.Goals as goal

pub returns : goal.returns
returns c =
    let i = c.self.inside in
    c.count_at.ensures ∙ ap (λ counts. slice_index_or counts c.args.owner 0) c.deref.ensures.value
    ∙ count_is i.owners.items i.bits.items i.counts.items c.self.invariant c.args.owner ∙ ap (λ (m : Marks). marked_of m.owners m.bits c.args.owner) c.self.view_is
