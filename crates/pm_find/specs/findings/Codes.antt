-- Which codes of a call are errors (this project's own).
use Rattle.std.specs.Prelude.{Bool, not, ◌&&◌, ◌||◌, ℤ, pos, int_lt}
use Rattle.std.specs.Ordering.{int_eq}
use Rattle.pm_base.specs.declared.codes.TheConstants.{EAGAIN, EBUSY, EINPROGRESS}

-- codes that ask to try again
abbrev pub asks_again : ℤ → Bool
asks_again code = int_eq code EAGAIN || int_eq code EBUSY || int_eq code EINPROGRESS

-- negative codes that don't
abbrev pub is_error : ℤ → Bool
is_error code = int_lt code (pos 0) && not (asks_again code)
