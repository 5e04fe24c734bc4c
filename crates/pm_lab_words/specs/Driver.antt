-- What the options of `find` ask for (this project's own).
use Rattle.std.specs.Prelude.{ℕ, Bool, true, false, not, ◌&&◌, List, Option, Some, None, is_none, option_and_then, option_map}
use Rattle.pm_lab_words.specs.declared.driver.DriverBounds.{DriverBounds}
use Rattle.pm_lab_words.specs.declared.driver.Paces.{Paces}
use Rattle.pm_lab_words.specs.declared.driver.Paces.TheVariants.{Both, Eager, Late}
use Rattle.pm_lab_words.specs.Numbers.{number_between, number_or}
use Rattle.pm_lab_words.specs.Options.{Options}

-- no option is given that is of a search alone, or of a trace alone
abbrev pub is_of_trace : Options → Bool
is_of_trace o = not o.late && not o.eager && is_none o.most && is_none o.fail && is_none o.states

abbrev pub has_no_trace : Options → Bool
has_no_trace o = not o.ktap && is_none o.expect

-- or of a driver's file alone
abbrev pub is_of_plan : Options → Bool
is_of_plan o = not o.eager && not o.notes && not o.plan && is_none o.fail

-- the paces of --late and --eager: both where neither is given
abbrev pub pace_of : Bool → Bool → Option Paces
pace_of false false = Some Both
pace_of true false = Some Late
pace_of false true = Some Eager
pace_of true true = None

-- of an option that may be left out
abbrev pub number_if : ℕ → ℕ → Option (List ℕ) → Option (Option ℕ)
number_if least most None = Some None
number_if least most (Some word) = option_map (λ n. Some n) (number_between least most word)

-- how far the schedules of a driver are looked through: at most so many preemptions, failing callbacks and states
abbrev pub bounds_in : Paces → Option ℕ → ℕ → ℕ → DriverBounds
bounds_in paces most failures states = record { paces = paces; most = most; failures = failures; states = states }

abbrev pub driver_bounds_of : Options → Option DriverBounds
driver_bounds_of o =
    option_and_then (λ paces. option_and_then (λ most. option_and_then (λ failures. option_map (λ states. bounds_in paces most failures states)
    (number_or 1 10000000 200000 o.states)) (number_or 0 3 1 o.fail)) (number_if 0 99 o.most)) (pace_of o.late o.eager)
