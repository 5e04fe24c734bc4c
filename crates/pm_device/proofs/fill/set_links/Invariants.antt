use Rattle.std.proofs.Common.{◌≡◌, length, take}
use Rattle.pm_device.proofs.fill.set_links.Given as goal

-- the links so far are as they are to be
abbrev pub invariant-loop-link : goal.invariant-loop-link
invariant-loop-link l = record {
  rest : l.links ≡ record l.fn.links { held = l.links.held; present = l.links.present };
  held_long : length l.links.held ≡ length l.held;
  present_long : length l.links.present ≡ length l.held;
  held_so_far : take l.link l.links.held ≡ take l.link l.held;
  present_so_far : take l.link l.links.present ≡ take l.link l.present;
}
