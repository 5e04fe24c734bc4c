use Rattle.std.proofs.Common.{◌≡◌, ◌≢◌, ◌/◌, ◌%◌, ◌^◌, ◌<◌, ◌++◌, ℕ, List, false, drop, get_or, length, set, take, ap, sym, ◌∙◌, arith}
use Rattle.std.proofs.lemmas.List.{length-set}
use Rattle.std.specs.Int.{bit_not, w64}
use Rattle.std.specs.Int.RustNames.{bit_and}
use Rattle.pm_index.specs.Words.{marks_of, without_bit}
use Rattle.pm_index.proofs.MarkLemmas.{after_write, fits_sums, fits_words, is_zero, isnt_zero, marks_len, remove_bits_empty, remove_bits_some, remove_marks}
use Rattle.pm_index.proofs.bits.Bits.remove.Goals as goal

-- what a vector holds after a bit is cleared in its words
after_clear : (items was new : List ℕ) (len bit : ℕ) → length items ≡ len → was ≡ items → new ≡ without_bit was bit → take len (new ++ drop (length new) items) ≡ without_bit items bit
after_clear items was new len bit whole same cleared =
    after_write items was new len (λ ws. without_bit ws bit) whole same cleared (length-set items (bit / 64) (bit_and (get_or items (bit / 64) 0) (bit_not w64 (2 ^ (bit % 64)))))

pub clear_bit-requires : goal.clear_bit-requires
clear_bit-requires c =
    let m = c.self.inside in
    let within : c.args.number < m.bound = omega (arith, c.requires, ap length c.self.view_is, marks_len m.bound m.words.items) in
    rw c.deref_mut.ensures.value (fits_words m.bound m.words.items m.sums.items c.self.invariant c.args.number (omega arith))

pub clear_bit-requires-then-clear_bit : goal.clear_bit-requires-then-clear_bit
clear_bit-requires-then-clear_bit c =
    let m = c.self.inside in
    let bits = c.self.invariant in
    let within : c.args.number < m.bound = omega (arith, c.requires, ap length c.self.view_is, marks_len m.bound m.words.items) in
    rw c.deref_mut-then-clear_bit.ensures.value (fits_sums m.bound m.words.items m.sums.items bits (c.args.number / 64) (omega (arith, bits.words_len)))

pub invariant_of-self : goal.invariant_of-self
invariant_of-self c =
    let m = c.self.inside in
    let at = c.args.number / 64 in
    let within : c.args.number < m.bound = omega (arith, c.requires, ap length c.self.view_is, marks_len m.bound m.words.items) in
    let cleared : c.clear_bit.new.words ≡ without_bit m.words.items c.args.number = c.clear_bit.ensures.cleared ∙ ap (λ ws. without_bit ws c.args.number) c.deref_mut.ensures.value in
    let empty : get_or (without_bit m.words.items c.args.number) at 0 ≡ 0 = sym (ap (λ ws. get_or ws at 0) cleared) ∙ is_zero (get_or c.clear_bit.new.words at 0) (sym c.clear_bit.ensures.empty ∙ c.if-clear_bit.true) in
    let words = after_clear m.words.items c.deref_mut.result.now c.clear_bit.new.words m.words.len c.args.number (omega (arith, m.words.ok.0)) c.deref_mut.ensures.value c.clear_bit.ensures.cleared in
    let sums = after_clear m.sums.items c.deref_mut-then-clear_bit.result.now c.clear_bit-then-clear_bit.new.words m.sums.len at (omega (arith, m.sums.ok.0)) c.deref_mut-then-clear_bit.ensures.value c.clear_bit-then-clear_bit.ensures.cleared in
    rw (words, sums) (remove_bits_empty m.bound m.words.items m.sums.items c.self.invariant c.args.number within empty)

pub invariant_of-self-else-clear_bit : goal.invariant_of-self-else-clear_bit
invariant_of-self-else-clear_bit c =
    let m = c.self.inside in
    let at = c.args.number / 64 in
    let within : c.args.number < m.bound = omega (arith, c.requires, ap length c.self.view_is, marks_len m.bound m.words.items) in
    let cleared : c.clear_bit.new.words ≡ without_bit m.words.items c.args.number = c.clear_bit.ensures.cleared ∙ ap (λ ws. without_bit ws c.args.number) c.deref_mut.ensures.value in
    let still : get_or (without_bit m.words.items c.args.number) at 0 ≢ 0 = λ none. isnt_zero (get_or c.clear_bit.new.words at 0) (sym c.clear_bit.ensures.empty ∙ c.if-clear_bit.false) (ap (λ ws. get_or ws at 0) cleared ∙ none) in
    let words = after_clear m.words.items c.deref_mut.result.now c.clear_bit.new.words m.words.len c.args.number (omega (arith, m.words.ok.0)) c.deref_mut.ensures.value c.clear_bit.ensures.cleared in
    rw words (remove_bits_some m.bound m.words.items m.sums.items c.self.invariant c.args.number within still)

pub returns-then-clear_bit : goal.returns-then-clear_bit
returns-then-clear_bit c =
    let m = c.self.inside in
    let within : c.args.number < m.bound = omega (arith, c.requires, ap length c.self.view_is, marks_len m.bound m.words.items) in
    ap (marks_of m.bound) (after_clear m.words.items c.deref_mut.result.now c.clear_bit.new.words m.words.len c.args.number (omega (arith, m.words.ok.0)) c.deref_mut.ensures.value c.clear_bit.ensures.cleared)
    ∙ remove_marks m.bound m.words.items m.sums.items c.self.invariant c.args.number within
    ∙ ap (λ marks. set marks c.args.number false) c.self.view_is

pub returns-else-clear_bit : goal.returns-else-clear_bit
returns-else-clear_bit c =
    let m = c.self.inside in
    let within : c.args.number < m.bound = omega (arith, c.requires, ap length c.self.view_is, marks_len m.bound m.words.items) in
    ap (marks_of m.bound) (after_clear m.words.items c.deref_mut.result.now c.clear_bit.new.words m.words.len c.args.number (omega (arith, m.words.ok.0)) c.deref_mut.ensures.value c.clear_bit.ensures.cleared)
    ∙ remove_marks m.bound m.words.items m.sums.items c.self.invariant c.args.number within
    ∙ ap (λ marks. set marks c.args.number false) c.self.view_is
