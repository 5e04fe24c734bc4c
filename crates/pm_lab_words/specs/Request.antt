-- Which words of the command line are a command of pm_lab, and which (this project's own).
use Rattle.std.specs.Prelude.{ℕ, ℤ, ◌-◌, ◌^◌, Bool, true, false, ◌||◌, List, [], ◌∷◌, Option, Some, None, codes, is_none, option_and_then, option_map, if◌then◌else◌}
use Rattle.std.specs.Str.{bytes_eq}
use Rattle.pm_base.specs.declared.Status.{Status}
use Rattle.pm_lab_words.specs.declared.driver.DriverBounds.{DriverBounds}
use Rattle.pm_lab_words.specs.declared.names.Command.{Command}
use Rattle.pm_lab_words.specs.declared.names.Command.TheVariants as command
use Rattle.pm_lab_words.specs.declared.request.Bounds.{Bounds}
use Rattle.pm_lab_words.specs.declared.request.Request.{Request}
use Rattle.pm_lab_words.specs.declared.request.Request.TheVariants as request
use Rattle.pm_lab_words.specs.declared.request.Sought.{Sought as ReadSought}
use Rattle.pm_lab_words.specs.declared.request.Sought.TheVariants as sought
use Rattle.pm_lab_words.specs.Driver.{driver_bounds_of, has_no_trace, is_of_plan, is_of_trace}
use Rattle.pm_lab_words.specs.Given.{given_by}
use Rattle.pm_lab_words.specs.Numbers.{code_in, number_between, number_or, status_in}
use Rattle.pm_lab_words.specs.Options.{Options, command_of}

-- what a schedule is to show: the n-th command of a caller returns a code; a device ends so
pub data Sought : Type 0 where
  Return : (caller : List ℕ) (number : ℕ) (code : ℤ) → Sought
  End : (device : List ℕ) (status : Status) (usage : ℕ) (error : ℤ) → Sought

-- a command with what its words name
pub data Asked : Type 0 where
  Help Version : Asked
  HelpOn : Command → Asked
  Say Kernel : (plan : List ℕ) → Asked
  Find : (plan trace : List ℕ) (notes : Bool) → Asked
  Check : (plan trace expect : List ℕ) (ktap notes : Bool) → Asked
  FindDriver : (file : List ℕ) (bounds : DriverBounds) (notes : Bool) → Asked
  Picture : (plan trace : List ℕ) (json : Bool) → Asked
  Orders : (plan : List ℕ) (bounds : Bounds) (differ : Bool) (seen : Option (List ℕ)) → Asked
  OrdersExpected : (plan expect : List ℕ) (bounds : Bounds) (differ : Bool) → Asked
  Order : (plan : List ℕ) (bounds : Bounds) (sought : Sought) → Asked
  OrderFailing : (plan expect : List ℕ) (bounds : Bounds) (index : ℕ) → Asked
  OrderFinding : (file : List ℕ) (bounds : DriverBounds) (notes plan : Bool) (number : ℕ) → Asked

-- how far the schedules are looked through: at most so many preemptions, 0 to 99, and states, 1 to 10,000,000
abbrev pub bounds_with : Bool → ℕ → ℕ → Bounds
bounds_with late most states = record { late = late; most = most; states = states }

abbrev pub bounds_of : Options → Option Bounds
bounds_of o =
    option_and_then (λ most. option_map (λ states. bounds_with o.late most states) (number_or 1 10000000 1000000 o.states)) (number_or 0 99 2 o.most)

-- of find PLAN TRACE: what is of a search alone is refused, and --ktap stands beside --expect alone
abbrev pub find_with : List ℕ → List ℕ → Bool → Option (List ℕ) → Bool → Option Asked
find_with plan trace notes (Some expect) ktap = Some (Check plan trace expect ktap notes)
find_with plan trace notes None false = Some (Find plan trace notes)
find_with plan trace notes None true = None

abbrev pub find_of : List ℕ → List ℕ → Options → Option Asked
find_of plan trace o = if is_of_trace o then find_with plan trace o.notes o.expect o.ktap else None

-- of find FILE: what is of a trace alone is refused
abbrev pub find_driver_of : List ℕ → Options → Option Asked
find_driver_of file o = if has_no_trace o then option_map (λ bounds. FindDriver file bounds o.notes) (driver_bounds_of o) else None

-- of schedules: --expect doesn't stand beside --seen
abbrev pub orders_with : List ℕ → Bounds → Bool → Option (List ℕ) → Option (List ℕ) → Option Asked
orders_with plan bounds differ None seen = Some (Orders plan bounds differ seen)
orders_with plan bounds differ (Some expect) None = Some (OrdersExpected plan expect bounds differ)
orders_with plan bounds differ (Some expect) (Some log) = None

abbrev pub schedules_of : List ℕ → Options → Option Asked
schedules_of plan o = option_and_then (λ bounds. orders_with plan bounds o.differ o.expect o.seen) (bounds_of o)

-- of order: CALLER N CODE, or end DEVICE STATUS USAGE ERROR
abbrev pub return_of : List ℕ → List ℕ → List ℕ → Option Sought
return_of caller number code =
    option_and_then (λ n. option_map (λ c. Return caller n c) (code_in code)) (number_between 1 (2 ^ 32 - 1) number)

abbrev pub end_of : List ℕ → List ℕ → List ℕ → List ℕ → Option Sought
end_of device status usage error =
    option_and_then (λ s. option_and_then (λ u. option_map (λ e. End device s u e) (code_in error)) (number_between 0 (2 ^ 32 - 1) usage)) (status_in status)

abbrev pub end_behind : List ℕ → List ℕ → List ℕ → List ℕ → List ℕ → Option Sought
end_behind end device status usage error = if bytes_eq end (codes "end") then end_of device status usage error else None

abbrev pub sought_of : List (List ℕ) → Option Sought
sought_of (caller ∷ number ∷ code ∷ []) = return_of caller number code
sought_of (end ∷ device ∷ status ∷ usage ∷ error ∷ []) = end_behind end device status usage error
sought_of _ = None

-- or, with --expect, fails INDEX
abbrev pub fails_behind : List ℕ → List ℕ → Option ℕ
fails_behind fails index = if bytes_eq fails (codes "fails") then number_between 1 (2 ^ 32 - 1) index else None

abbrev pub failing_of : List (List ℕ) → Option ℕ
failing_of (fails ∷ index ∷ []) = fails_behind fails index
failing_of _ = None

abbrev pub order_with : List ℕ → List (List ℕ) → Bounds → Option (List ℕ) → Option Asked
order_with plan words bounds None = option_map (λ sought. Order plan bounds sought) (sought_of words)
order_with plan words bounds (Some expect) = option_map (λ index. OrderFailing plan expect bounds index) (failing_of words)

-- or of a driver's file: finding N
abbrev pub finding_behind : List ℕ → List ℕ → Option ℕ
finding_behind finding number = if bytes_eq finding (codes "finding") then number_between 1 (2 ^ 32 - 1) number else None

abbrev pub finding_of : List (List ℕ) → Option ℕ
finding_of (finding ∷ number ∷ []) = finding_behind finding number
finding_of _ = None

abbrev pub order_finding : List ℕ → ℕ → Options → Option Asked
order_finding file number o = if is_none o.expect then option_map (λ bounds. OrderFinding file bounds o.notes o.plan number) (driver_bounds_of o) else None

-- what is of a driver's file alone is refused of a plan
abbrev pub order_plan : List ℕ → List (List ℕ) → Options → Option Asked
order_plan plan words o = if is_of_plan o then option_and_then (λ bounds. order_with plan words bounds o.expect) (bounds_of o) else None

abbrev pub order_by : List ℕ → List (List ℕ) → Options → Option ℕ → Option Asked
order_by file words o (Some number) = order_finding file number o
order_by plan words o None = order_plan plan words o

abbrev pub order_of : List (List ℕ) → Options → Option Asked
order_of [] o = None
order_of (plan ∷ words) o = order_by plan words o (finding_of words)

-- the words of each command
abbrev pub asked_of : Command → List (List ℕ) → Options → Option Asked
asked_of command.Say (plan ∷ []) o = Some (Say plan)
asked_of command.Find (plan ∷ trace ∷ []) o = find_of plan trace o
asked_of command.Find (file ∷ []) o = find_driver_of file o
asked_of command.Picture (plan ∷ trace ∷ []) o = Some (Picture plan trace o.json)
asked_of command.Orders (plan ∷ []) o = schedules_of plan o
asked_of command.Order words o = order_of words o
asked_of command.Kernel (plan ∷ []) o = Some (Kernel plan)
asked_of _ _ _ = None

abbrev pub help_on : List (List ℕ) → Option Asked
help_on [] = Some Help
help_on (word ∷ []) = option_map (λ c. HelpOn c) (command_of word)
help_on _ = None

-- the words behind that of a command
abbrev pub asked_with : List (List ℕ) → Command → Option Asked
asked_with words c = option_and_then (λ given. asked_of c given.plain given.options) (given_by c words)

-- or --help alone
abbrev pub is_help : List (List ℕ) → Bool
is_help (word ∷ []) = bytes_eq word (codes "--help")
is_help _ = false

abbrev pub asked_or_help : List (List ℕ) → Command → Option Asked
asked_or_help words c = if is_help words then Some (HelpOn c) else asked_with words c

abbrev pub version_of : List (List ℕ) → Option Asked
version_of [] = Some Version
version_of _ = None

-- the command that the words name, or none where they are none of the commands
unfoldable pub asked_by : List (List ℕ) → Option Asked
asked_by [] = None
asked_by (word ∷ words) =
    if bytes_eq word (codes "help") || bytes_eq word (codes "--help") then help_on words
    else if bytes_eq word (codes "--version") then version_of words
    else option_and_then (asked_or_help words) (command_of word)

-- what is sought, in bytes
abbrev pub sought_in : ReadSought → Sought
sought_in (sought.Return caller number code) = Return caller.now number code
sought_in (sought.End device status usage error) = End device.now status usage error

-- what is read from the words, in bytes
abbrev pub asked : Request → Asked
asked request.Help = Help
asked request.Version = Version
asked (request.HelpOn c) = HelpOn c
asked (request.Say plan) = Say plan.now
asked (request.Find plan trace notes) = Find plan.now trace.now notes
asked (request.Check plan trace expect ktap notes) = Check plan.now trace.now expect.now ktap notes
asked (request.FindDriver file bounds notes) = FindDriver file.now bounds notes
asked (request.Picture plan trace json) = Picture plan.now trace.now json
asked (request.Orders plan bounds differ seen) = Orders plan.now bounds differ (option_map (λ word. word.now) seen)
asked (request.OrdersExpected plan expect bounds differ) = OrdersExpected plan.now expect.now bounds differ
asked (request.Order plan bounds sought) = Order plan.now bounds (sought_in sought)
asked (request.OrderFailing plan expect bounds index) = OrderFailing plan.now expect.now bounds index
asked (request.OrderFinding file bounds notes plan number) = OrderFinding file.now bounds notes plan number
asked (request.Kernel plan) = Kernel plan.now
