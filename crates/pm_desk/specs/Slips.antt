-- What a pass keeps (this project's own).
use Rattle.std.specs.Prelude.{ℕ, Bool, true, ◌&&◌, List, [], ◌∷◌, ◌++◌, Option, Some, None, is_none, nat_eq, nat_lt, if◌then◌else◌}
use Rattle.pm_book.specs.declared.growing.ExtendFault.{ExtendFault}
use Rattle.pm_book.specs.declared.growing.ExtendFault.TheVariants as fault
use Rattle.pm_desk.specs.declared.pass.Receipt.{Receipt}
use Rattle.pm_desk.specs.declared.pass.Stop.{Stop}
use Rattle.pm_desk.specs.declared.pass.Stop.TheVariants as stop

-- whose pass it is, a receipt of each call that returned, in order, and whether one was stopped
pub record Slip : Type 0 where
  pub caller : ℕ
  pub receipts : List Receipt
  pub stopped : Option Stop

-- by which nothing was called
abbrev pub fresh : ℕ → Slip
fresh c = record { caller = c; receipts = []; stopped = None }

-- one receipt more
abbrev pub with_receipt : Slip → Receipt → Slip
with_receipt slip receipt = record slip { receipts = slip.receipts ++ receipt ∷ [] }

-- a call was stopped
abbrev pub with_stop : Slip → Stop → Slip
with_stop slip why = record slip { stopped = Some why }

-- what a script that doesn't become longer stops
abbrev pub stop_of : ExtendFault → Stop
stop_of fault.Full = stop.Limit
stop_of fault.NoMemory = stop.NoMemory

-- the pass of a caller, where one was handed back
abbrev pub pass_of : List Slip → ℕ → Option Slip
pass_of [] c = None
pass_of (slip ∷ slips) c = if nat_eq slip.caller c then Some slip else pass_of slips c

-- the receipts of a pass; none where there is no pass
abbrev pub kept_by : Option Slip → List Receipt
kept_by (Some slip) = slip.receipts
kept_by None = []

-- why a call by a pass was stopped; none where there is no pass
abbrev pub stopped_of : Option Slip → Option Stop
stopped_of (Some slip) = slip.stopped
stopped_of None = None

-- each pass is of one of the first so many callers, and no two are the same caller's
abbrev pub are_apart : ℕ → List Slip → Bool
are_apart n [] = true
are_apart n (slip ∷ slips) = nat_lt slip.caller n && (is_none (pass_of slips slip.caller) && are_apart n slips)
