use Rattle.std.proofs.Common.{◌≡◌, ◌++◌, map, take}
use Rattle.std.specs.List.{filter}
use Rattle.pm_why.specs.declared.Reason.TheVariants as reason
use Rattle.pm_why.specs.Reasons.{devices_of, is_child}
use Rattle.pm_why.proofs.push_children.Given as goal

-- the children so far
abbrev pub invariant-loop-place : goal.invariant-loop-place
invariant-loop-place l = l.all.items ≡ l.fn.all.items ++ map reason.Child (filter (is_child l.plan l.parts.views l.dev) (take l.place (devices_of l.plan)))
