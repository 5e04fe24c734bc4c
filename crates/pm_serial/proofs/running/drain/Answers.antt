use Rattle.std.proofs.Common.{refl, sym}
use Rattle.std.proofs.lemmas.Bool.{false≢true}
use Rattle.pm_serial.specs.declared.running.End.TheVariants as end
use Rattle.pm_serial.proofs.WholeLemmas.{finished_whole, full_whole, goes_further, goes_nowhere, keeps_memory, serial_ends_as, serial_lines, spare_next, writes_further, writes_nearer}
use Rattle.pm_serial.proofs.running.drain.Goals as goal

pub loop-actor-init : goal.loop-actor-init
loop-actor-init c = record {
  goes_on = goes_nowhere c.args.book.now c.args.book.now c.requires refl refl;
  memory = λ memory. memory;
}

pub loop-actor-preserved : goal.loop-actor-preserved
loop-actor-preserved c =
    let wrote = c.in_ok-write.ensures.ok in
    record {
      goes_on = writes_further c.args.book.now c.loop-actor.book c.write.new.book c.loop-actor.invariant.goes_on (sym c.if-is_full.ensures) wrote;
      memory = λ memory. keeps_memory c.loop-actor.book c.write.new.book (c.loop-actor.invariant.memory memory) wrote;
    }

pub loop-actor-smaller : goal.loop-actor-smaller
loop-actor-smaller c = writes_nearer c.loop-actor.book c.write.new.book (sym c.if-is_full.ensures) c.in_ok-write.ensures.ok

pub returns-in_err-write-clause-goes_on : goal.returns-in_err-write-clause-goes_on
returns-in_err-write-clause-goes_on c = goes_further c.args.book.now c.loop-actor.book c.write.new.book c.loop-actor.invariant.goes_on c.in_err-write.ensures.err

pub returns-in_err-write-clause-memory : goal.returns-in_err-write-clause-memory
returns-in_err-write-clause-memory c = λ memory.
    absurd (false≢true (c.in_err-write.ensures.memory (spare_next c.loop-actor.book (c.loop-actor.invariant.memory memory) (sym c.if-is_full.ensures))))

pub returns-then-is_full-clause-whole : goal.returns-then-is_full-clause-whole
returns-then-is_full-clause-whole c = full_whole c.args.book.now c.loop-actor.book c.loop-actor.invariant.goes_on (sym c.if-is_full.ensures)

pub returns-then-is_full-clause-serial : goal.returns-then-is_full-clause-serial
returns-then-is_full-clause-serial c = λ fresh.
    serial_lines c.args.book.now c.loop-actor.book fresh (full_whole c.args.book.now c.loop-actor.book c.loop-actor.invariant.goes_on (sym c.if-is_full.ensures))

pub returns-then-is_full-clause-serial_end : goal.returns-then-is_full-clause-serial_end
returns-then-is_full-clause-serial_end c =
    let full = sym c.if-is_full.ensures in
    serial_ends_as c.args.book.now c.loop-actor.book end.AtLimit c.loop-actor.invariant.goes_on (full_whole c.args.book.now c.loop-actor.book c.loop-actor.invariant.goes_on full)
    (full, c.in-Some.ensures.some.unfinished) (c.serial_ends.ensures.whole c.args.book.now.plan)

pub returns-clause-whole : goal.returns-clause-whole
returns-clause-whole c =
    let p = c.loop-actor.book in
    finished_whole c.args.book.now p c.loop-actor.invariant.goes_on (c.serial_stops.ensures.finished_line p.plan p.lines c.in_default.ensures.none)

pub returns-clause-serial : goal.returns-clause-serial
returns-clause-serial c = λ fresh.
    let p = c.loop-actor.book in
    serial_lines c.args.book.now p fresh (finished_whole c.args.book.now p c.loop-actor.invariant.goes_on (c.serial_stops.ensures.finished_line p.plan p.lines c.in_default.ensures.none))

pub returns-clause-serial_end : goal.returns-clause-serial_end
returns-clause-serial_end c =
    let p = c.loop-actor.book in
    serial_ends_as c.args.book.now p end.Finished c.loop-actor.invariant.goes_on
    (finished_whole c.args.book.now p c.loop-actor.invariant.goes_on (c.serial_stops.ensures.finished_line p.plan p.lines c.in_default.ensures.none)) c.in_default.ensures.none
    (c.serial_ends.ensures.whole c.args.book.now.plan)
