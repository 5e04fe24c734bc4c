-- Numbers, codes and statuses in words (this project's own).
use Rattle.std.specs.Prelude.{ℕ, ◌-◌, ◌^◌, ℤ, pos, neg_ℤ, ◌&&◌, List, Option, Some, None, codes, drop, nat_eq, nat_le, option_and_then, option_map, if◌then◌else◌}
use Rattle.std.specs.List.{starts_with}
use Rattle.std.specs.Str.{bytes_eq}
use Rattle.pm_base.specs.declared.Status.{Status}
use Rattle.pm_base.specs.declared.Status.TheVariants as status
use Rattle.pm_cmd_ends.specs.Numbers.{number_in}

-- from a least to a greatest number
abbrev pub between : ℕ → ℕ → ℕ → Option ℕ
between least most n = if nat_le least n && nat_le n most then Some n else None

abbrev pub number_between : ℕ → ℕ → List ℕ → Option ℕ
number_between least most word = option_and_then (between least most) (number_in word)

-- of an option: its value, or a number where it wasn't given
abbrev pub number_or : ℕ → ℕ → ℕ → Option (List ℕ) → Option ℕ
number_or least most otherwise None = Some otherwise
number_or least most otherwise (Some word) = number_between least most word

-- decimal digits, - before those of a negative code
abbrev pub code_in : List ℕ → Option ℤ
code_in word =
    if starts_with nat_eq word (codes "-") then option_map (λ n. neg_ℤ (pos n)) (number_between 0 (2 ^ 31 - 1) (drop 1 word))
    else option_map (λ n. pos n) (number_between 0 (2 ^ 31 - 1) word)

abbrev pub status_in : List ℕ → Option Status
status_in word =
    if bytes_eq word (codes "active") then Some status.Active
    else if bytes_eq word (codes "suspended") then Some status.Suspended
    else if bytes_eq word (codes "suspending") then Some status.Suspending
    else if bytes_eq word (codes "resuming") then Some status.Resuming
    else None
