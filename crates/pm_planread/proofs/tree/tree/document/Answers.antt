use Rattle.std.proofs.Common.{ap, sym, ◌∙◌}
use Rattle.toml.specs.Parse.{parse_document}
use Rattle.pm_planread.proofs.tree.TreeLemmas.{document_of_text, document_of_other}
use Rattle.pm_planread.proofs.tree.tree.document.Goals as goal

pub returns-in_default : goal.returns-in_default
returns-in_default c = sym (document_of_other c.args.bytes.now c.in_default.ensures.cases.0)

pub returns-in-Ok-table_from_str : goal.returns-in-Ok-table_from_str
returns-in-Ok-table_from_str c =
    let text = c.in-Ok.ensures.cases in
    sym (document_of_text c.args.bytes.now text.1 ∙ ap parse_document (sym text.0) ∙ c.in-Ok-table_from_str.ensures.ok)
