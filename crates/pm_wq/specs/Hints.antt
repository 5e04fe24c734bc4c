-- What clauses say of the queue of hints and of its passes (this project's own).
use Rattle.std.specs.Prelude.{ℕ}
use Rattle.crossbeam_queue.specs.Fifo.{Held}
use Rattle.crossbeam_queue.specs.Passes.{IsPassOf, ruled_capacity, view}
use Rattle.pm_wq.specs.declared.hints.HintPass.{HintPass}
use Rattle.pm_wq.specs.declared.hints.Hints.{Hints}
use Rattle.pm_wq.specs.declared.rule.Log.{Log}
use Rattle.pm_wq.specs.Order.{Fits}

-- how many hints it keeps
abbrev pub places : Hints → ℕ
places hints = ruled_capacity hints.queue

-- what a pass has told and what it was answered
abbrev pub log : HintPass → Log
log pass = view pass.pass

-- the pass was made by this queue
abbrev pub IsOf : Hints → HintPass → Type 0
IsOf hints pass = IsPassOf hints.queue pass.pass

-- at some moment of the call the queue had no place left, or no hint
abbrev pub WasFull : Hints → HintPass → Type 0
WasFull hints pass = Held (places hints) (Fits (log pass))

abbrev pub WasEmpty : HintPass → Type 0
WasEmpty pass = Held 0 (Fits (log pass))
