use Rattle.std.proofs.Common.{◌++◌, codes, decimal, length}
use Rattle.pm_expect.specs.text.Texts.{ktap_lines}
use Rattle.pm_find.proofs.text.TextLemmas.{more}
use Rattle.pm_model.specs.Spelling.{newline}
use Rattle.pm_expect.proofs.text.ktap.push_ktap.Goals as goal

pub returns : goal.returns
returns c =
    let last = c.push_items.new.text.items in
    let number = decimal (length c.args.items.now) in
    let lines = ktap_lines c.args.trace.now 1 c.args.items.now in
    more c.args.text.now.items c.push.new.text.items last (codes "KTAP version 1\n1..") (number ++ (newline ++ lines)) c.in_ok-push.ensures
    (more c.push.new.text.items c.push_count.new.text.items last number (newline ++ lines) c.in_ok-push_count.ensures
    (more c.push_count.new.text.items c.push-2.new.text.items last newline lines c.in_ok-push-2.ensures c.in_ok-push_items.ensures))
