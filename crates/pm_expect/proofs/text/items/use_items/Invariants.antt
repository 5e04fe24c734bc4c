use Rattle.std.proofs.Common.{◌≡◌, map, take}
use Rattle.pm_expect.specs.text.Items.{use_item}
use Rattle.pm_model.specs.Text.{names_of}
use Rattle.pm_expect.proofs.text.items.use_items.Given as goal

-- those so far
abbrev pub invariant-loop-judged : goal.invariant-loop-judged
invariant-loop-judged l = l.items.items ≡ map (use_item (names_of l.plan)) (take l.judged-index l.all)
