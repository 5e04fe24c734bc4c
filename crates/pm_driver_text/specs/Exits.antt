-- The exits of a step: `or LABEL`, `on CODE LABEL`, `on nonzero LABEL`, one after another (this project's own).
use Rattle.std.specs.Prelude.{ℕ, List, [], ◌∷◌, ◌++◌, Result, Ok, Err, codes, length, nat_lt, ok_or, option_map, if◌then◌else◌}
use Rattle.std.specs.Str.{bytes_eq}
use Rattle.pm_model.specs.IsPlan.{is_caller_name}
use Rattle.pm_driver_text.specs.Results.{◌>>=◌}
use Rattle.pm_driver_text.specs.Verbs.{test_of}
use Rattle.pm_driver_text.specs.declared.exits.Awaited.{Awaited}
use Rattle.pm_driver_text.specs.declared.exits.Awaited.TheVariants as awaited
use Rattle.pm_driver_text.specs.declared.exits.StepExit.{StepExit}
use Rattle.pm_driver_text.specs.declared.fault.StepFault.{StepFault}
use Rattle.pm_driver_text.specs.declared.fault.StepFault.TheVariants as fault
use Rattle.pm_driver_text.specs.declared.verbs.CodeTest.TheVariants as test

-- what is awaited behind a word
abbrev pub next_in : Awaited → List ℕ → Result Awaited StepFault
next_in awaited.Start word =
    if bytes_eq word (codes "or") then Ok (awaited.Label test.Negative) else if bytes_eq word (codes "on") then Ok awaited.Code else Err fault.NoExit
next_in awaited.Code word = ok_or (option_map awaited.Label (test_of word)) fault.NoNumber
next_in (awaited.Label t) word = if is_caller_name word then Ok awaited.Start else Err fault.NoName

-- the exit that ends with a word
abbrev pub found_in : Awaited → List ℕ → List StepExit
found_in (awaited.Label t) word = record { test = t; label = word } ∷ []
found_in _ word = []

-- exits may end where a new one may begin
abbrev pub end_of : Awaited → Result (Unit {0}) StepFault
end_of awaited.Start = Ok tt
end_of awaited.Code = Err fault.NoNumber
end_of (awaited.Label t) = Err fault.NoName

abbrev pub exits_from : Awaited → List (List ℕ) → Result (List StepExit) StepFault
exits_from a [] = end_of a >>= λ u. Ok []
exits_from a (word ∷ words) = next_in a word >>= λ b. exits_from b words >>= λ more. Ok (found_in a word ++ more)

abbrev pub exits_in : List (List ℕ) → Result (List StepExit) StepFault
exits_in words = exits_from awaited.Start words

-- ManyExits: more than 8
abbrev pub few_of : Result (List StepExit) StepFault → Result (List StepExit) StepFault
few_of read = read >>= λ exits. if nat_lt 8 (length exits) then Err fault.ManyExits else Ok exits
