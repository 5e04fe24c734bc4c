-- What a ticker's readings are (this project's own).
use Rattle.std.specs.Prelude.{ℕ, ◌+◌, ◌-◌, ◌*◌, ◌^◌, List, length, min, nat_lt, slice_index_or, if◌then◌else◌}

-- reading n, counted from 0: the one in the list, or 1,000 more than the last of them for each further one, up to 2^61
abbrev pub reading : List ℕ → ℕ → ℕ
reading readings n =
    let last = length readings - 1 in
    if nat_lt n (length readings) then slice_index_or readings n 0 else min (slice_index_or readings last 0 + 1000 * (n - last)) (2 ^ 61)
