-- When what the passes kept agrees with the calls that have returned (this project's own).
use Rattle.std.specs.Prelude.{◌≡◌, ◌≢◌, ◌<◌, ℕ, List, [], ◌++◌, Option, Some, None, max, slice_get}
use Rattle.pm_model.specs.declared.event.Line.{Line}
use Rattle.pm_desk.specs.Returns.{calls}
use Rattle.pm_desk.specs.Slips.{Slip, pass_of}
use Rattle.pm_desk.specs.declared.pass.Receipt.{Receipt}
use Rattle.pm_desk.specs.declared.pass.Stop.{Stop}

-- the list begins with these
abbrev pub BeginsWith : List Receipt → List Receipt → Type 0
BeginsWith receipts found = (rest : List Receipt) × (found ≡ receipts ++ rest)

-- by whether a call was stopped: of a pass that wasn't, each call that returned has its receipt, and no other; where one
-- was, more may have returned
abbrev pub AgreesBy : Option Stop → List Receipt → List Receipt → Type 0
AgreesBy None receipts found = receipts ≡ found
AgreesBy (Some why) receipts found = BeginsWith receipts found

-- a caller without a pass called nothing
abbrev pub Agrees : Option Slip → List Receipt → Type 0
Agrees None found = [] ≡ found
Agrees (Some slip) found = AgreesBy slip.stopped slip.receipts found

-- so do those of the first so many callers
abbrev pub AllAgree : List Slip → List Line → ℕ → Type 0
AllAgree slips h n = (c : ℕ) → c < n → Agrees (pass_of slips c) (calls h c)

-- how many places are compared of so many receipts and so many calls: where a call was stopped those of the receipts
abbrev pub compared : Option Stop → ℕ → ℕ → ℕ
compared (Some why) kept found = kept
compared None kept found = max kept found

abbrev pub AreSameBelow : List Receipt → List Receipt → ℕ → Type 0
AreSameBelow kept found n = (i : ℕ) → i < n → slice_get kept i ≡ slice_get found i

-- the first place at which two lists differ, counted from 0; past its end a list has nothing
pub record DiffersAt (kept found : List Receipt) (place : ℕ) : Type 0 where
  pub before : AreSameBelow kept found place
  pub differs : slice_get kept place ≢ slice_get found place
