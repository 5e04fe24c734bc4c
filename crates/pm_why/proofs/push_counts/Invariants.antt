use Rattle.std.proofs.Common.{◌≡◌, ◌++◌, map, take}
use Rattle.pm_why.specs.declared.gets.Count.{Count}
use Rattle.pm_why.specs.declared.Reason.TheVariants as reason
use Rattle.pm_why.proofs.push_counts.Given as goal

-- the counts so far
abbrev pub invariant-loop-get : goal.invariant-loop-get
invariant-loop-get l = l.all.items ≡ l.fn.all.items ++ map (λ (count : Count). reason.Count count.why count.line) (take l.get-index l.gets)
