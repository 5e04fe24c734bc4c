use Rattle.std.proofs.Common.{◌≡◌, ◌++◌, flat_map, take}
use Rattle.pm_messages.specs.located.Told.{told_of, token_of}
use Rattle.pm_messages.proofs.located.told.push_each.Given as goal

abbrev pub invariant-loop-located : goal.invariant-loop-located
invariant-loop-located l =
    l.out.items ≡ l.initial.out.items ++ flat_map (λ located. told_of l.file l.bytes l.word (token_of located)) (take l.located-index l.all)
