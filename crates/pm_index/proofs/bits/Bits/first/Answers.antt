use Rattle.std.proofs.Common.{◌≤◌, length, ap, arith}
use Rattle.pm_index.specs.Marks.{NoneMarked}
use Rattle.pm_index.proofs.MarkLemmas.{fits_words, first_later, found_later, found_number, marks_len, never_missing, none_from, none_marked}
use Rattle.pm_index.proofs.WordLemmas.{at_none}
use Rattle.pm_index.proofs.bits.Bits.first.Goals as goal

pub first_beside-requires : goal.first_beside-requires
first_beside-requires c =
    let m = c.self.inside in
    let within : c.args.from ≤ m.bound = omega (arith, c.requires, ap length c.self.view_is, marks_len m.bound m.words.items) in
    rw c.deref.ensures.value (fits_words m.bound m.words.items m.sums.items c.self.invariant c.args.from within)

pub returns-in-Some-clause-found : goal.returns-in-Some-clause-found
returns-in-Some-clause-found c =
    let m = c.self.inside in
    let found = rw c.deref.ensures.value at c.in-Some.ensures.found in
    rw (← c.self.view_is) (found_number m.bound m.words.items m.sums.items c.self.invariant c.args.from c.in-Some.number found.0 found.2)

pub returns-in-Some-clause-first : goal.returns-in-Some-clause-first
returns-in-Some-clause-first c =
    let m = c.self.inside in
    rw (← c.self.view_is) (none_marked m.bound m.words.items m.sums.items c.self.invariant c.args.from c.in-Some.number (rw c.deref.ensures.value at c.in-Some.ensures.first))

pub returns-in_err-word-clause-missing : goal.returns-in_err-word-clause-missing
returns-in_err-word-clause-missing c =
    let m = c.self.inside in
    let here = rw c.deref.ensures.value at c.in_default.ensures.missing in
    let after = rw c.deref-2.ensures.value at c.in_err-word.ensures.missing in
    at_none (NoneMarked c.args.self.now c.args.from (length c.args.self.now)) c.from_residual.result (rw (← c.self.view_is) (none_from m.bound m.words.items m.sums.items c.self.invariant c.args.from here after))

pub returns-clause-found : goal.returns-clause-found
returns-clause-found c =
    let m = c.self.inside in
    let found = rw c.deref-3.ensures.value at c.first_beside-2.ensures.found in
    rw (← c.self.view_is) (found_later m.bound m.words.items m.sums.items c.self.invariant c.args.from c.in_ok-word.word c.first_beside-2.result c.in_ok-word.ensures.found.0 found)

pub returns-clause-first : goal.returns-clause-first
returns-clause-first c =
    let m = c.self.inside in
    let here = rw c.deref.ensures.value at c.in_default.ensures.missing in
    let between = rw c.deref-2.ensures.value at c.in_ok-word.ensures.first in
    let first = rw c.deref-3.ensures.value at c.first_beside-2.ensures.first in
    rw (← c.self.view_is) (first_later m.bound m.words.items m.sums.items c.self.invariant c.args.from c.in_ok-word.word c.first_beside-2.result here between first)

pub returns-clause-missing : goal.returns-clause-missing
returns-clause-missing c =
    let m = c.self.inside in
    let set = rw c.deref-2.ensures.value at c.in_ok-word.ensures.found in
    let rest = rw c.deref-3.ensures.value at c.first_beside-2.ensures.rest in
    never_missing m.bound m.words.items m.sums.items c.self.invariant c.in_ok-word.word c.first_beside-2.result (NoneMarked c.args.self.now c.args.from (length c.args.self.now)) set.2 rest
