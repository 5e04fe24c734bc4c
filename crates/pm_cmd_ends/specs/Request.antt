-- Which words of the command line are a command, and which (this project's own).
use Rattle.std.specs.Prelude.{ℕ, ◌≤◌, ◌^◌, ◌<◌, ⊤, List, [], ◌∷◌, Option, Some, None, codes, option_and_then, option_map, if◌then◌else◌}
use Rattle.std.specs.Str.{bytes_eq}
use Rattle.pm_cmd_ends.specs.Numbers.{devices_in, hands_in, number_in}
use Rattle.pm_cmd_ends.specs.Words.{Ordered, ordered}
use Rattle.pm_cmd_ends.specs.declared.request.Request.{Request}
use Rattle.pm_cmd_ends.specs.declared.request.Request.TheVariants as request

-- a command with what its words name
pub data Asked : Type 0 where
  Serial Check Desk : (plan : List ℕ) → Asked
  Run : (plan : List ℕ) (hands : ℕ) → Asked
  Audit Convert Times : (plan trace : List ℕ) → Asked
  Make : (number devices : ℕ) → Asked
  Why : (plan trace device : List ℕ) → Asked

-- the command of a word and one positional word
abbrev pub asked_of_one : List ℕ → List ℕ → Option Asked
asked_of_one command plan =
    if bytes_eq command (codes "serial") then Some (Serial plan)
    else if bytes_eq command (codes "run") then Some (Run plan 4)
    else if bytes_eq command (codes "check") then Some (Check plan)
    else if bytes_eq command (codes "desk") then Some (Desk plan)
    else None

-- of `make`, with a number and a number of devices
abbrev pub make_of : List ℕ → List ℕ → Option Asked
make_of number devices = option_and_then (λ n. option_map (λ d. Make n d) (devices_in devices)) (number_in number)

-- of two positional words
abbrev pub asked_of_two : List ℕ → List ℕ → List ℕ → Option Asked
asked_of_two command first second =
    if bytes_eq command (codes "audit") then Some (Audit first second)
    else if bytes_eq command (codes "make") then make_of first second
    else if bytes_eq command (codes "convert") then Some (Convert first second)
    else if bytes_eq command (codes "times") then Some (Times first second)
    else None

-- of three
abbrev pub asked_of_three : List ℕ → List ℕ → List ℕ → List ℕ → Option Asked
asked_of_three command plan trace device = if bytes_eq command (codes "why") then Some (Why plan trace device) else None

-- of any number of positional words
abbrev pub asked_of : List ℕ → List (List ℕ) → Option Asked
asked_of command (first ∷ []) = asked_of_one command first
asked_of command (first ∷ second ∷ []) = asked_of_two command first second
asked_of command (first ∷ second ∷ third ∷ []) = asked_of_three command first second third
asked_of command _ = None

-- of one positional word and the option, which `run` alone takes
abbrev pub run_with : List ℕ → List ℕ → List (List ℕ) → Option Asked
run_with command number (plan ∷ []) = if bytes_eq command (codes "run") then option_map (λ n. Run plan n) (hands_in number) else None
run_with command number _ = None

abbrev pub asked_with : List ℕ → List (List ℕ) → Option (List ℕ) → Option Asked
asked_with command positional None = asked_of command positional
asked_with command positional (Some number) = run_with command number positional

-- the command that the words name, or none where they are none of the commands
unfoldable pub asked_by : List (List ℕ) → Option Asked
asked_by [] = None
asked_by (command ∷ words) = option_and_then (λ o. asked_with command o.positional o.hands) (ordered words)

-- what is read from the words, in bytes
abbrev pub asked : Request → Asked
asked (request.Serial plan) = Serial plan.now
asked (request.Run plan hands) = Run plan.now hands
asked (request.Audit plan trace) = Audit plan.now trace.now
asked (request.Check plan) = Check plan.now
asked (request.Make number devices) = Make number devices
asked (request.Convert plan trace) = Convert plan.now trace.now
asked (request.Times plan trace) = Times plan.now trace.now
asked (request.Why plan trace device) = Why plan.now trace.now device.now
asked (request.Desk plan) = Desk plan.now

-- its numbers are in their ranges
abbrev pub IsInRange : Asked → Type 0
IsInRange (Run plan hands) = (1 ≤ hands) × (hands ≤ 16)
IsInRange (Make number devices) = (number < 2 ^ 64) × (1 ≤ devices) × (devices ≤ 1024)
IsInRange _ = ⊤
