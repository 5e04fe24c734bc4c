use Rattle.std.proofs.Common.{codes}
use Rattle.pm_expect_report.specs.orders.Texts.{within_text}
use Rattle.pm_expect_report.proofs.orders.TextLemmas.{two_pieces}
use Rattle.pm_expect_report.proofs.orders.pieces.push_holds_within.Goals as goal

pub returns : goal.returns
returns c =
    two_pieces c.push_within.result c.push_within.new.text.items c.push.new.text.items c.args.text.now.items (codes "holds in every schedule") (within_text c.args.round) c.push_within.ensures c.in_ok-push.ensures
