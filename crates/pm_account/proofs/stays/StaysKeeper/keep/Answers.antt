use Rattle.std.proofs.Common.{All, arith, subst, sym}
use Rattle.std.proofs.lemmas.List.{with_items_is}
use Rattle.pm_account.specs.AllKept.{AreTimes, Stayed}
use Rattle.pm_account.specs.Kept.{IsReady}
use Rattle.pm_account.proofs.AllKeptLemmas.{all_behind, all_later, times_behind}
use Rattle.pm_account.proofs.stays.StaysKeeper.keep.Goals as goal

pub invariant_of-self : goal.invariant_of-self
invariant_of-self c =
    let d = c.self.inside in
    let line = c.args.line.now in
    let ready = all_later d.stays.items d.last line.time (omega (arith, c.if-line-self.false)) c.self.invariant in
    subst (All (IsReady line.time)) (sym (with_items_is d.stays c.keep.new.stays (omega arith)))
    (all_behind line d.stays.items c.keep.new.stays ready (rw c.deref_mut.ensures.value at c.keep.ensures.entries) (rw c.deref_mut.ensures.value at c.keep.ensures.each))

pub returns-clause-kept : goal.returns-clause-kept
returns-clause-kept c = λ h number later times.
    let d = c.self.inside in
    let line = c.args.line.now in
    let its = subst (λ (s : Stayed). AreTimes s h) (sym c.self.view_is) times in
    rw (with_items_is d.stays c.keep.new.stays (omega arith))
    (times_behind line h (record { stays = d.stays.items; last = d.last }) c.keep.new.stays later its (rw c.deref_mut.ensures.value at c.keep.ensures.entries) (rw c.deref_mut.ensures.value at c.keep.ensures.each))
