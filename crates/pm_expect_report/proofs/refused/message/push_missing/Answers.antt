use Rattle.std.proofs.Common.{codes}
use Rattle.std.specs.String.{string_bytes}
use Rattle.pm_expect_report.specs.refused.Words.{quoted}
use Rattle.pm_expect_report.proofs.refused.MessageLemmas.{three_pieces}
use Rattle.pm_expect_report.proofs.refused.message.push_missing.Goals as goal

pub returns : goal.returns
returns c =
    three_pieces (string_bytes c.args.text.now) (string_bytes c.push.new.text) (string_bytes c.push_quoted.new.text) (string_bytes c.push-2.new.text) (codes "the key ") (quoted c.args.key) (codes " is missing")
    c.in_ok-push.ensures c.in_ok-push_quoted.ensures c.in_ok-push-2.ensures
