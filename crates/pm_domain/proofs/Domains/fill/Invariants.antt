use Rattle.std.proofs.Common.{◌≡◌, length, take}
use Rattle.pm_domain.proofs.Domains.fill.Given as goal

-- the domains so far are as they are to be
abbrev pub invariant-loop-domain : goal.invariant-loop-domain
invariant-loop-domain l = record {
  rest : l.self ≡ record l.fn.self { on = l.self.on };
  long : length l.self.on ≡ length l.on;
  so_far : take l.domain l.self.on ≡ take l.domain l.on;
}
