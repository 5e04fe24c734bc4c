use Rattle.std.proofs.Common.{refl}
use Rattle.pm_cmd_ends.specs.Ending.{taking}
use Rattle.pm_cmd_lab.proofs.order.FindingLemmas.{came_shown, ends_by_lists, ends_fewer, ends_unmade, found_by_lists, found_fewer, found_shown, found_unmade}
use Rattle.pm_cmd_lab.proofs.order.finding.write_found.Goals as goal

pub write_made-requires : goal.write_made-requires
write_made-requires g c = record { lawful = (found_shown c.args._driver.now c.args.asked c.args.found c.in-Shown.made c.in-Shown.is c.requires.found).lawful }

pub returns-in-Shown : goal.returns-in-Shown
returns-in-Shown g c =
    came_shown c.args.file.now c.args._driver.now c.args.asked c.in-Shown.made (taking g.O.Sink.taken g.O.Sink.faults c.args.out.now c.write_made.new.out) c.write_made.result
    (found_shown c.args._driver.now c.args.asked c.args.found c.in-Shown.made c.in-Shown.is c.requires.found) c.write_made.ensures

pub returns-in_ok-text-in-Fewer : goal.returns-in_ok-text-in-Fewer
returns-in_ok-text-in-Fewer g c =
    (ends_fewer c.args.file.now c.args._driver.now c.args.asked c.in-Fewer.count c.in_ok-text-in-Fewer.text.items (found_fewer c.args._driver.now c.args.asked c.args.found c.in-Fewer.count c.in-Fewer.is c.requires.found) c.in_ok-text-in-Fewer.ensures, refl)

pub returns-in_ok-unmade_text-in-TooLong : goal.returns-in_ok-unmade_text-in-TooLong
returns-in_ok-unmade_text-in-TooLong g c =
    (ends_unmade c.args.file.now c.args._driver.now c.args.asked c.in_ok-unmade_text-in-TooLong.field-0.items (found_unmade c.args._driver.now c.args.asked c.args.found c.in-TooLong.is c.requires.found) c.in_ok-unmade_text-in-TooLong.ensures, refl)

pub returns-in_ok-text-in-Refused : goal.returns-in_ok-text-in-Refused
returns-in_ok-text-in-Refused g c = (
  ends_by_lists c.args.file.now c.as_bytes.result.now c.args._driver.now c.args.asked c.in_ok-text-in-Refused.text.items (found_by_lists c.args._driver.now c.args.asked c.args.found c.in-Refused.is c.requires.found) c.in_ok-text-in-Refused.ensures
      c.as_bytes.ensures.value,
  refl,
)
