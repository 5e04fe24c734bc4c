use Rattle.std.proofs.Common.{◌<◌, length, ap, sym, ◌∙◌, arith}
use Rattle.pm_index.proofs.MarkLemmas.{fits_words, mark_of, marks_len}
use Rattle.pm_index.proofs.bits.Bits.contains.Goals as goal

pub is_set-requires : goal.is_set-requires
is_set-requires c =
    let m = c.self.inside in
    let within : c.args.number < m.bound = omega (arith, c.requires, ap length c.self.view_is, marks_len m.bound m.words.items) in
    rw c.deref.ensures.value (fits_words m.bound m.words.items m.sums.items c.self.invariant c.args.number (omega arith))

pub returns : goal.returns
returns c =
    let m = c.self.inside in
    rw (← c.self.view_is) (rw c.deref.ensures.value at c.is_set.ensures ∙ sym (mark_of m.bound m.words.items m.sums.items c.self.invariant c.args.number))
