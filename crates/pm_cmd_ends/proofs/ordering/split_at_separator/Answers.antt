use Rattle.std.proofs.Common.{◌∙◌, ap, drop, map, string_bytes, sym}
use Rattle.std.proofs.lemmas.List.{drop-drop}
use Rattle.pm_cmd_ends.specs.Words.{is_separator}
use Rattle.pm_cmd_ends.proofs.SplitLemmas.{before_none, before_some, behind_none, behind_some}
use Rattle.pm_cmd_ends.proofs.ordering.split_at_separator.Goals as goal

pub returns-in-Some-clause-before : goal.returns-in-Some-clause-before
returns-in-Some-clause-before c =
    ap (map string_bytes) c.split_at.ensures.front ∙ before_some is_separator string_bytes c.args.words.now c.in-Some.place (sym c.in-Some.ensures)

pub returns-in-Some-clause-behind : goal.returns-in-Some-clause-behind
returns-in-Some-clause-behind c =
    ap (map string_bytes) (c.split_at-in-Some.ensures.back ∙ ap (drop 1) c.split_at.ensures.back ∙ drop-drop 1 c.in-Some.place c.args.words.now)
    ∙ behind_some is_separator string_bytes c.args.words.now c.in-Some.place (sym c.in-Some.ensures)

pub returns-in-None-clause-before : goal.returns-in-None-clause-before
returns-in-None-clause-before c = sym (before_none is_separator string_bytes c.args.words.now (sym c.in-None.ensures))

pub returns-in-None-clause-behind : goal.returns-in-None-clause-behind
returns-in-None-clause-behind c = sym (behind_none is_separator string_bytes c.args.words.now (sym c.in-None.ensures))
