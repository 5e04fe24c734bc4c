-- The longest event has room behind the longest front, and so has a newline behind it.
use Rattle.std.proofs.Common.{arith, length, subst, length-append}
use Rattle.pm_model.specs.Spelling.{event_text, newline}
use Rattle.pm_linetext.specs.NamesFit.{NamesFit}
use Rattle.pm_linetext.proofs.Lengths.{named_event_len, named_front_len}
use Rattle.pm_linetext.proofs.at_hand.NamesAtHand.end_line.Goals as goal

pub push_event-requires : goal.push_event-requires
push_event-requires c =
    let names = c.args.self.now in
    let fit : NamesFit names = subst NamesFit c.self.view_is c.self.invariant.fit in
    let front = c.requires.front in
    let len = named_front_len names fit front.time front.actor front.in_time in
    let sum = length-append (event_text names c.args.event.now) newline in
    rw (c.text.view_is, front.is) (omega (arith, len, sum, named_event_len names fit (length names.devices) c.args.event.now c.requires.event_of_names))
