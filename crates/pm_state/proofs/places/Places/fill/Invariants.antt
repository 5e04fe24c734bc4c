use Rattle.std.proofs.Common.{◌≡◌, ◌+◌, drop, length, map, take}
use Rattle.pm_state.proofs.places.Places.fill.Given as goal

-- the places so far are as they are to be, and the others as they were
abbrev pub invariant-loop-i : goal.invariant-loop-i
invariant-loop-i l = record {
  rest : l.self ≡ record l.fn.self { stages = l.self.stages };
  long : length l.self.stages ≡ length l.fn.self.stages;
  before : take l.from l.self.stages ≡ take l.from l.fn.self.stages;
  so_far : take l.i (drop l.from l.self.stages) ≡ take l.i (map (λ v. v.items) l.all);
  behind : drop (l.from + l.i) l.self.stages ≡ drop (l.from + l.i) l.fn.self.stages;
}
