-- What stands before a place is no more than there is.
use Rattle.std.proofs.Common.{ℕ, ◌≤◌, List, take, cond}
use Rattle.std.specs.List.{count_by}
use Rattle.std.proofs.lemmas.List.Sums.{sum_by-take-le}
use Rattle.pm_spans.specs.source.Places.{is_newline, is_start}

pub lines_before : (text : List ℕ) (n : ℕ) → count_by is_newline (take n text) ≤ count_by is_newline text
lines_before text n = sum_by-take-le (λ x. cond (is_newline x) 1 0) text n

pub chars_before : (text : List ℕ) (n : ℕ) → count_by is_start (take n text) ≤ count_by is_start text
chars_before text n = sum_by-take-le (λ x. cond (is_start x) 1 0) text n
