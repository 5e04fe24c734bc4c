use Rattle.std.proofs.Common.{◌++◌, codes, length}
use Rattle.std.specs.Prelude.{count_by}
use Rattle.pm_expect.specs.text.Items.{is_broken}
use Rattle.pm_expect.specs.text.Texts.{counted, is_open}
use Rattle.pm_find.proofs.text.TextLemmas.{more}
use Rattle.pm_model.specs.Spelling.{newline}
use Rattle.pm_expect.proofs.text.plain.push_counts.Goals as goal

pub returns : goal.returns
returns c =
    let last = c.push.new.text.items in
    let items = c.args.items.now in
    let all = counted (codes "expectations ") (length items) in
    let failed = counted (codes " failed ") (count_by (λ item. is_broken item.outcome) items) in
    let skipped = counted (codes " open ") (count_by (λ item. is_open item.outcome) items) in
    more c.args.text.now.items c.push_word.new.text.items last all (failed ++ (skipped ++ newline)) c.in_ok-push_word.ensures
    (more c.push_word.new.text.items c.push_word-2.new.text.items last failed (skipped ++ newline) (rw c.failed.ensures at c.in_ok-push_word-2.ensures)
    (more c.push_word-2.new.text.items c.push_word-3.new.text.items last skipped newline (rw c.skipped.ensures at c.in_ok-push_word-3.ensures) c.in_ok-push.ensures))
