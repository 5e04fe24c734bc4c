use Rattle.std.proofs.Common.{ap, length, subst, sym, ◌<◌, ◌∙◌}
use Rattle.pm_index.specs.OwnMarks.{Marks, bit_at, owner_at}
use Rattle.pm_index.proofs.TallyLemmas.{place_is_counted, tallied_with}
use Rattle.pm_index.proofs.tally.Tally.set.Goals as goal

pub recount-requires-clause-fits : goal.recount-requires-clause-fits
recount-requires-clause-fits c =
    let i = c.self.inside in
    let within : c.args.place < length i.owners.items = subst (λ (m : Marks). c.args.place < length m.owners) (sym c.self.view_is) c.requires in
    let was = c.bit_at-was.ensures ∙ ap (λ bits. bit_at bits c.args.place) c.deref.ensures.value in
    let is = sym (c.owner_at.ensures ∙ ap (λ owners. owner_at owners c.args.place) c.deref-2.ensures.value) ∙ c.in-Some.is in
    (place_is_counted i.owners.items i.bits.items i.counts.items c.self.invariant c.args.place c.in-Some.owner c.bit_at-was.result within was is).1

pub recount-requires-clause-counted : goal.recount-requires-clause-counted
recount-requires-clause-counted c =
    let i = c.self.inside in
    let within : c.args.place < length i.owners.items = subst (λ (m : Marks). c.args.place < length m.owners) (sym c.self.view_is) c.requires in
    let was = c.bit_at-was.ensures ∙ ap (λ bits. bit_at bits c.args.place) c.deref.ensures.value in
    let is = sym (c.owner_at.ensures ∙ ap (λ owners. owner_at owners c.args.place) c.deref-2.ensures.value) ∙ c.in-Some.is in
    (place_is_counted i.owners.items i.bits.items i.counts.items c.self.invariant c.args.place c.in-Some.owner c.bit_at-was.result within was is).2

pub invariant_of-self : goal.invariant_of-self
invariant_of-self c =
    let i = c.self.inside in
    let within : c.args.place < length i.owners.items = subst (λ (m : Marks). c.args.place < length m.owners) (sym c.self.view_is) c.requires in
    let was = c.bit_at-was.ensures ∙ ap (λ bits. bit_at bits c.args.place) c.deref.ensures.value in
    let is = sym (c.owner_at.ensures ∙ ap (λ owners. owner_at owners c.args.place) c.deref-2.ensures.value) ∙ c.in-Some.is in
    rw (c.recount.ensures) (rw is at (tallied_with i.owners.items i.bits.items i.counts.items c.self.invariant c.args.place c.bit_at-was.result c.args.mark within was))

pub invariant_of-self-in_default : goal.invariant_of-self-in_default
invariant_of-self-in_default c =
    let i = c.self.inside in
    let within : c.args.place < length i.owners.items = subst (λ (m : Marks). c.args.place < length m.owners) (sym c.self.view_is) c.requires in
    let was = c.bit_at-was.ensures ∙ ap (λ bits. bit_at bits c.args.place) c.deref.ensures.value in
    let is = sym (c.owner_at.ensures ∙ ap (λ owners. owner_at owners c.args.place) c.deref-2.ensures.value) ∙ c.in_default.is in
    rw is at (tallied_with i.owners.items i.bits.items i.counts.items c.self.invariant c.args.place c.bit_at-was.result c.args.mark within was)
