use Rattle.std.proofs.Common.{◌≡◌, ◌<◌, Some, length, subst, sym, ◌∙◌}
use Rattle.pm_islands.proofs.NextLemmas.{held, none_next, not_empty, taken}
use Rattle.pm_islands.specs.Next.{next}
use Rattle.pm_islands.proofs.merging.take_next.Goals as goal

pub returns-in_default-clause-none : goal.returns-in_default-clause-none
returns-in_default-clause-none c =
    none_next (held c.args.lists.now.items) (subst (λ l. next (held l) ≡ c.next.result) c.deref.ensures.value (sym c.next.ensures.next) ∙ c.in_default.is)

pub returns-in_default-first_of-clause-none : goal.returns-in_default-first_of-clause-none
returns-in_default-first_of-clause-none c =
    absurd (not_empty c.args.lists.now.items c.in-Some.place c.in-Some.field-0-1 c.index.result.now c.requires
    (subst (λ l. next (held l) ≡ Some (c.in-Some.place, c.in-Some.field-0-1)) c.deref.ensures.value (sym c.in-Some.ensures.next))
    (subst (λ l. c.in-Some.place < length l) c.deref.ensures.value c.in-Some.ensures.in_range)
    c.index.ensures c.in_default-first_of.ensures.none)

pub returns-clause-in_time : goal.returns-clause-in_time
returns-clause-in_time c =
    (taken c.args.lists.now.items c.in-Some.place c.in-Some.field-0-1 c.index.result.now c.in-Some-first_of.rest c.in-Some-first_of.line c.requires
    (subst (λ l. next (held l) ≡ Some (c.in-Some.place, c.in-Some.field-0-1)) c.deref.ensures.value (sym c.in-Some.ensures.next))
    (subst (λ l. c.in-Some.place < length l) c.deref.ensures.value c.in-Some.ensures.in_range)
    c.index.ensures c.in-Some-first_of.ensures.some).in_time

pub returns-clause-some : goal.returns-clause-some
returns-clause-some c =
    (taken c.args.lists.now.items c.in-Some.place c.in-Some.field-0-1 c.index.result.now c.in-Some-first_of.rest c.in-Some-first_of.line c.requires
    (subst (λ l. next (held l) ≡ Some (c.in-Some.place, c.in-Some.field-0-1)) c.deref.ensures.value (sym c.in-Some.ensures.next))
    (subst (λ l. c.in-Some.place < length l) c.deref.ensures.value c.in-Some.ensures.in_range)
    c.index.ensures c.in-Some-first_of.ensures.some).merges
