use Rattle.pm_expect_report.proofs.trace.PlainLemmas.{entries_more, places_more}
use Rattle.pm_expect_report.proofs.trace.plain.places.Goals as goal

pub loop-number-preserved : goal.loop-number-preserved
loop-number-preserved c = record {
  entries = entries_more c.loop-number.places.items c.push_place.new.places.items c.loop-number.number c.in_ok-line.line c.loop-number.invariant.entries c.in_ok-push_place.ensures;
  lines = places_more c.args.bytes.now c.loop-number.places.items c.push_place.new.places.items c.in_ok-line.line c.loop-number.invariant.lines c.in_ok-line.ensures c.in_ok-push_place.ensures;
}
