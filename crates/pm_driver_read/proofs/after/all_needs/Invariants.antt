use Rattle.std.proofs.Common.{◌≡◌, ◌++◌, drop, map}
use Rattle.pm_driver_read.specs.After.{all_needs, need_of}
use Rattle.pm_driver_read.proofs.after.all_needs.Given as goal

abbrev pub invariant-loop-words : goal.invariant-loop-words
invariant-loop-words l = l.all.items ++ map (λ words. map (need_of (map (λ c. c.name) l.callers) l.marks) words.after) (drop l.words-index l.callers) ≡ all_needs l.marks l.callers
