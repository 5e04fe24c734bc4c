use Rattle.std.proofs.Common.{◌≡◌, ℕ, ◌≤◌, length}
use denote.Text.{Utf8}
use denote.Shadow.{shadow}
use Rattle.pm_spans.specs.keys.Values.{member_named, named_in}
use Rattle.pm_spans.proofs.keys.pairs.named_tokens.Given as goal

-- as many members are left to be looked at as suffice
abbrev pub invariant-pairs : goal.invariant-pairs
invariant-pairs l =
    shadow (Utf8 l.rest) × (length l.rest ≤ length l.s)
    × ((n : ℕ) × (length l.rest ≤ n) × (member_named n l.name l.element l.rest ≡ named_in l.name l.element l.s))

abbrev pub decreases-pairs : goal.decreases-pairs
decreases-pairs l = length l.rest
