use Rattle.std.proofs.Common.{◌∙◌, ap, map, string_bytes, sym}
use Rattle.pm_cmd_ends.specs.Words.{is_option}
use Rattle.pm_cmd_ends.proofs.SplitLemmas.{before_none, before_some, from_none, from_some}
use Rattle.pm_cmd_ends.proofs.ordering.split_at_option.Goals as goal

pub returns-in-Some-clause-before : goal.returns-in-Some-clause-before
returns-in-Some-clause-before c =
    ap (map string_bytes) c.split_at.ensures.front ∙ before_some is_option string_bytes c.args.words.now c.in-Some.place (sym c.in-Some.ensures)

pub returns-in-Some-clause-rest : goal.returns-in-Some-clause-rest
returns-in-Some-clause-rest c =
    ap (map string_bytes) c.split_at.ensures.back ∙ from_some is_option string_bytes c.args.words.now c.in-Some.place (sym c.in-Some.ensures)

pub returns-in-None-clause-before : goal.returns-in-None-clause-before
returns-in-None-clause-before c = sym (before_none is_option string_bytes c.args.words.now (sym c.in-None.ensures))

pub returns-in-None-clause-rest : goal.returns-in-None-clause-rest
returns-in-None-clause-rest c = sym (from_none is_option string_bytes c.args.words.now (sym c.in-None.ensures))
