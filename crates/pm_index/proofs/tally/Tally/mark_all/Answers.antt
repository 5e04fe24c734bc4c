use Rattle.std.proofs.Common.{ap, length, refl, subst, true, ◌≡◌, ◌<◌, ◌∙◌, arith}
use Rattle.std.proofs.lemmas.List.{length-set}
use Rattle.pm_index.specs.OwnMarks.{Marks}
use Rattle.pm_index.proofs.TallyLemmas.{all_marked, marked_more, same_marks}
use Rattle.pm_index.proofs.tally.Tally.mark_all.Goals as goal

pub loop-place-init : goal.loop-place-init
loop-place-init c = record {
  owners = refl;
  long = subst (λ (m : Marks). length m.bits ≡ length m.owners) c.self.view_is c.self.invariant.bits_len;
  marked = λ k less. absurd (omega arith);
}

pub set-requires : goal.set-requires
set-requires c =
    let count = ap length c.as_slice.ensures.value ∙ ap (λ (m : Marks). length m.owners) c.self.view_is in
    omega (arith, c.loop-place-test.true, count, ap length c.loop-place.invariant.owners)

pub loop-place-preserved : goal.loop-place-preserved
loop-place-preserved c =
    let count = ap length c.as_slice.ensures.value ∙ ap (λ (m : Marks). length m.owners) c.self.view_is in
    let within : c.loop-place.place < length c.loop-place.self.bits = omega (arith, c.loop-place-test.true, count, c.loop-place.invariant.long) in
    rw c.set.ensures (record {
      owners = c.loop-place.invariant.owners;
      long = length-set c.loop-place.self.bits c.loop-place.place true ∙ c.loop-place.invariant.long;
      marked = marked_more c.loop-place.self.bits c.loop-place.place within c.loop-place.invariant.marked;
    })

pub returns : goal.returns
returns c =
    let count = ap length c.as_slice.ensures.value ∙ ap (λ (m : Marks). length m.owners) c.self.view_is in
    let all = all_marked c.loop-place.self.bits (length c.args.self.now.owners) c.loop-place.invariant.long (λ k less. c.loop-place.invariant.marked k (omega (arith, c.loop-place-test.false, count))) in
    same_marks c.loop-place.self _ _ c.loop-place.invariant.owners all
