use Rattle.std.proofs.Common.{◌≡◌, ◌/◌, ◌%◌, ◌^◌, ◌<◌, ◌++◌, true, drop, get_or, length, set, take, ap, ◌∙◌, arith}
use Rattle.std.proofs.lemmas.List.{length-set}
use Rattle.std.specs.Int.RustNames.{bit_or}
use Rattle.pm_index.specs.Words.{marks_of, with_bit}
use Rattle.pm_index.proofs.MarkLemmas.{after_write, fits_sums, fits_words, marks_len, put_bits, put_marks}
use Rattle.pm_index.proofs.bits.Bits.put.Goals as goal

pub set_bit-requires : goal.set_bit-requires
set_bit-requires c =
    let m = c.self.inside in
    let within : c.args.number < m.bound = omega (arith, c.requires, ap length c.self.view_is, marks_len m.bound m.words.items) in
    rw c.deref_mut.ensures.value (fits_words m.bound m.words.items m.sums.items c.self.invariant c.args.number (omega arith))

pub set_bit-requires-2 : goal.set_bit-requires-2
set_bit-requires-2 c =
    let m = c.self.inside in
    let bits = c.self.invariant in
    let within : c.args.number < m.bound = omega (arith, c.requires, ap length c.self.view_is, marks_len m.bound m.words.items) in
    rw c.deref_mut-2.ensures.value (fits_sums m.bound m.words.items m.sums.items bits (c.args.number / 64) (omega (arith, bits.words_len)))

pub invariant_of-self : goal.invariant_of-self
invariant_of-self c =
    let m = c.self.inside in
    let at = c.args.number / 64 in
    let within : c.args.number < m.bound = omega (arith, c.requires, ap length c.self.view_is, marks_len m.bound m.words.items) in
    let words : take m.words.len (c.set_bit.new.words ++ drop (length c.set_bit.new.words) m.words.items) ≡ with_bit m.words.items c.args.number =
    after_write m.words.items c.deref_mut.result.now c.set_bit.new.words m.words.len (λ items. with_bit items c.args.number) (omega (arith, m.words.ok.0)) c.deref_mut.ensures.value c.set_bit.ensures (length-set m.words.items at (bit_or (get_or m.words.items at 0) (2 ^ (c.args.number % 64)))) in
    let sums : take m.sums.len (c.set_bit-2.new.words ++ drop (length c.set_bit-2.new.words) m.sums.items) ≡ with_bit m.sums.items at =
    after_write m.sums.items c.deref_mut-2.result.now c.set_bit-2.new.words m.sums.len (λ items. with_bit items at) (omega (arith, m.sums.ok.0)) c.deref_mut-2.ensures.value c.set_bit-2.ensures (length-set m.sums.items (at / 64) (bit_or (get_or m.sums.items (at / 64) 0) (2 ^ (at % 64)))) in
    rw (words, sums) (put_bits m.bound m.words.items m.sums.items c.self.invariant c.args.number within)

pub returns : goal.returns
returns c =
    let m = c.self.inside in
    let at = c.args.number / 64 in
    let within : c.args.number < m.bound = omega (arith, c.requires, ap length c.self.view_is, marks_len m.bound m.words.items) in
    let words : take m.words.len (c.set_bit.new.words ++ drop (length c.set_bit.new.words) m.words.items) ≡ with_bit m.words.items c.args.number =
    after_write m.words.items c.deref_mut.result.now c.set_bit.new.words m.words.len (λ items. with_bit items c.args.number) (omega (arith, m.words.ok.0)) c.deref_mut.ensures.value c.set_bit.ensures (length-set m.words.items at (bit_or (get_or m.words.items at 0) (2 ^ (c.args.number % 64)))) in
    ap (marks_of m.bound) words
    ∙ put_marks m.bound m.words.items m.sums.items c.self.invariant c.args.number within
    ∙ ap (λ marks. set marks c.args.number true) c.self.view_is
