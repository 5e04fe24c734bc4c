use Rattle.std.proofs.Common.{◌++◌, codes, decimal}
use Rattle.pm_audit.specs.Auditing.{reason_of}
use Rattle.pm_cmd_ends.specs.Said.{why_word}
use Rattle.pm_find.proofs.text.TextLemmas.{more}
use Rattle.pm_model.specs.Spelling.{newline}
use Rattle.pm_find.proofs.trace.texts.push_unlawful.Goals as goal

pub returns : goal.returns
returns c =
    let last = c.push-4.new.text.items in
    let word = why_word (reason_of c.args.why) in
    let not_lawful = codes ": not lawful: " in
    let number = decimal c.args.line in
    more c.args.text.now.items c.push.new.text.items last c.args.file.now (codes ":" ++ (number ++ (not_lawful ++ (word ++ newline)))) c.in_ok-push.ensures
    (more c.push.new.text.items c.push-2.new.text.items last (codes ":") (number ++ (not_lawful ++ (word ++ newline))) c.in_ok-push-2.ensures
    (more c.push-2.new.text.items c.push_number.new.text.items last number (not_lawful ++ (word ++ newline)) c.in_ok-push_number.ensures
    (more c.push_number.new.text.items c.push-3.new.text.items last not_lawful (word ++ newline) c.in_ok-push-3.ensures
    (more c.push-3.new.text.items c.push_why.new.text.items last word newline c.in_ok-push_why.ensures c.in_ok-push-4.ensures))))
