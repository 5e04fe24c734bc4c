-- A list that isn't finished, and that no line follows: its caller waits for a resume that nobody carries out.
use Rattle.std.proofs.Common.{ℕ, zero, suc, ◌≡◌, ◌∙◌, Bool, true, false, nat_lt, Option, Some, None, ap, inl, inr, arith, if◌then◌else◌}
use Rattle.std.specs.Option.{option_and_then}
use Rattle.pm_base.specs.declared.ActorId.{ActorId}
use Rattle.pm_base.specs.declared.ActorId.TheVariants.{Caller, Work, Timer}
use Rattle.pm_model.specs.declared.event.Event.{Event}
use Rattle.pm_model.specs.declared.event.Line.{Line}
use Rattle.pm_model.specs.declared.stage.Change.{Change}
use Rattle.pm_model.specs.declared.stage.Move.TheVariants.{Write, Late, Wait}
use Rattle.pm_model.specs.declared.stage.Stage.{Stage}
use Rattle.pm_model.specs.declared.stage.Then.{Then}
use Rattle.pm_model.specs.Lawful.{IsFinished, Permits}
use Rattle.pm_model.specs.Promises.{IsNeverStuck}
use Rattle.pm_model.specs.Serial.{move_at}
use Rattle.pm_model.specs.World.{move, world}
use Rattle.pm_show_runs.proofs.CallTable.{call_table}
use Rattle.pm_show_runs.specs.Counts.{first_plan}
use Rattle.pm_show_runs.specs.Words.{dev}
use Rattle.pm_show_runs.specs.promises.Broken.{abandoned}

-- a caller that waits writes nothing, however late it is
waits_on : (early : Bool) (event : Event) (change : Change) (next : Then) → Some (if early then Late 0 else Wait (dev 0)) ≡ Some (Write event change next) → ⊥
waits_on true event change next e = cc
waits_on false event change next e = cc

nothing_moves :
    (actor : ActorId) (t : ℕ) (event : Event) (change : Change) (next : Then)
    → move_at first_plan (world first_plan abandoned) t actor ≡ Some (Write event change next) → ⊥
unfolding call_table
nothing_moves (Caller zero) t event change next e = waits_on (nat_lt t 0) event change next e
nothing_moves (Caller (suc c)) t event change next e = let none : None ≡ Some (Write event change next) = e in cc
nothing_moves (Work zero) t event change next e = let none : None ≡ Some (Write event change next) = e in cc
nothing_moves (Work (suc d)) t event change next e = let none : None ≡ Some (Write event change next) = e in cc
nothing_moves (Timer zero) t event change next e = let none : None ≡ Some (Write event change next) = e in cc
nothing_moves (Timer (suc d)) t event change next e = let none : None ≡ Some (Write event change next) = e in cc

nothing_follows : (line : Line) → Permits first_plan abandoned line → ⊥
nothing_follows line p =
    nothing_moves line.actor line.time line.event p.change p.next
    (ap (λ (s : Option Stage). option_and_then (λ x. move first_plan (world first_plan abandoned).views x line.time) s) p.stands ∙ p.gives)

unfinished : IsFinished first_plan abandoned → ⊥
unfolding call_table
unfinished finished = let no : false ≡ true = finished in cc

pub abandoned_is_stuck : ¬ IsNeverStuck first_plan abandoned
unfolding call_table
abandoned_is_stuck never =
    elim (never (omega arith)) [
      | inl finished ↦ unfinished finished
      | inr follows ↦ nothing_follows follows.0 follows.1
    ]
