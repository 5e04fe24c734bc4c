use Rattle.std.proofs.Common.{ap, length, subst, sym, true, ◌≡◌, ◌∙◌}
use Rattle.pm_index.specs.OwnMarks.{Marks, bit_at, is_of, owner_at}
use Rattle.pm_index.proofs.TallyLemmas.{marked-unmarked}
use Rattle.pm_index.proofs.tally.Tally.has.Goals as goal

pub returns-then-is_marked : goal.returns-then-is_marked
returns-then-is_marked c =
    let m = c.args.self.now in
    let same : length m.bits ≡ length m.owners = subst (λ (m : Marks). length m.bits ≡ length m.owners) c.self.view_is c.self.invariant.bits_len in
    let owners = c.deref.ensures.value ∙ ap (λ (m : Marks). m.owners) c.self.view_is in
    let mine = c.is_of.ensures ∙ ap (is_of c.args.owner) (c.owner_at.ensures ∙ ap (λ os. owner_at os c.in-Some.place) owners) in
    let marked : true ≡ bit_at m.bits c.in-Some.place = sym c.if-is_marked.true ∙ c.is_marked.ensures in
    rw (c.in-Some.is, mine) (rw (← marked) at (marked-unmarked m.owners m.bits c.args.owner c.in-Some.place same))
