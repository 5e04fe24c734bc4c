use Rattle.std.proofs.Common.{◌≡◌, ◌∙◌, ◌++◌, List, ℕ, ap, codes}
use Rattle.pm_messages.specs.located.Told.{told_of, token_of}
use Rattle.pm_expect_report.proofs.refused.told.text_of.Goals as goal

pub returns : goal.returns
returns c = record {
  token = token_of c.args.located.now;
  ordered = c.args.located.now.span.ordered;
  within = c.requires.within;
  message = c.requires.message;
  is =
      c.in_ok-push_located.ensures
      ∙ ap (λ (x : List ℕ). x ++ told_of c.args.file.now c.args.bytes.now (codes "error") (token_of c.args.located.now)) c.new-text.ensures.items;
}
