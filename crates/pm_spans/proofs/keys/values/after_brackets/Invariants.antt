use Rattle.std.proofs.Common.{◌≡◌, ℕ, ◌+◌, ◌≤◌, length}
use denote.Text.{Utf8}
use denote.Shadow.{shadow}
use Rattle.pm_spans.specs.keys.Values.{brackets_end}
use Rattle.pm_spans.proofs.keys.values.after_brackets.Given as goal

-- as many pieces are left to be looked at as suffice
abbrev pub invariant-pieces : goal.invariant-pieces
invariant-pieces l =
    shadow (Utf8 l.rest) × (length l.rest ≤ length l.s) × (l.depth + length l.rest ≤ length l.s)
    × ((n : ℕ) × (length l.rest ≤ n) × (brackets_end n l.depth l.rest ≡ brackets_end (length l.s) 0 l.s))

abbrev pub decreases-pieces : goal.decreases-pieces
decreases-pieces l = length l.rest
