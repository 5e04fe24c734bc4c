use Rattle.std.proofs.Common.{◌≡◌, ◌≤◌, reverse, take, vec_len}
use Rattle.pm_desk.specs.Returns.{calls, last_call}
use Rattle.pm_desk.proofs.returns.calls_of.Given as goal

-- the calls and the last command of the lines so far
abbrev pub invariant-loop-line : goal.invariant-loop-line
invariant-loop-line l =
    let h = reverse (take l.line-index l.lines) in
    (l.calls.items ≡ calls h l.caller) × (l.last ≡ last_call l.caller h) × (vec_len l.calls ≤ l.line-index)
