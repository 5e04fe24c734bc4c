use Rattle.std.proofs.Common.{◌≡◌, ◌++◌, take}
use Rattle.std.specs.List.{flat_map}
use Rattle.pm_expect_report.specs.orders.Texts.{judged_line}
use Rattle.pm_model.specs.Text.{names_of}
use Rattle.pm_expect_report.proofs.orders.texts.push_judged.Given as goal

-- so many of them are told
abbrev pub invariant-loop-judged : goal.invariant-loop-judged
invariant-loop-judged l = l.text.items ≡ l.initial.text.items ++ flat_map (judged_line (names_of l.plan) l.file l.reach l.rounds) (take l.judged-index l.all)
