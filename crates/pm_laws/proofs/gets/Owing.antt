-- What a row owes to those that a get_sync has answered.
use Rattle.std.proofs.Common.{◌≡◌, ◌⊎◌, inl, Bool, true, false, sym, ◌∙◌}
use Rattle.pm_base.specs.declared.DevId.{DevId}
use Rattle.pm_base.specs.declared.Why.TheVariants as why
use Rattle.pm_model.specs.declared.event.Event.{Event}
use Rattle.pm_model.specs.declared.event.Event.TheVariants as event
use Rattle.pm_model.specs.declared.event.Helper.{Helper}
use Rattle.pm_model.specs.declared.event.Helper.TheVariants as helper
use Rattle.pm_model.specs.declared.stage.Change.{Change}
use Rattle.pm_model.specs.declared.stage.Stage.{Stage}
use Rattle.pm_model.specs.declared.stage.Then.{Then}
use Rattle.pm_model.specs.Derived.{is_active_status}
use Rattle.pm_model.specs.Promises.{got_well}
use Rattle.pm_model.specs.Row.{Row, writes, waits}
use Rattle.pm_model.specs.Views.{Views}
use Rattle.pm_laws.proofs.counts.Rows.{said}
use Rattle.pm_laws.specs.stacks.Shape.{call_of}
use Rattle.pm_laws.proofs.stacks.Obeying.{Duty, ObeysRow, Obeys}
use Rattle.pm_laws.proofs.safe.Steps.{differ}
use Rattle.pm_laws.specs.gets.Answered.{is_get_sync, answers}
use Rattle.pm_laws.proofs.gets.Handing.{is_start, tells_answer}

-- a caller takes a count
abbrev pub is_callers_get : Event → Bool
is_callers_get (event.Get d why.Caller) = true
is_callers_get _ = false

-- a get_sync returns
abbrev pub is_return : Event → Bool
is_return (event.Ret h d c) = is_get_sync h
is_return _ = false

-- what its next stages answer was answered before, or the device is Active by its event; a caller's get stands at a call
-- of its own; and a get_sync that returns well was answered
pub record Owed (v : Views) (s : Stage) (e : Event) (next : Then) : Type 0 where
  pub told : (d : DevId) → tells_answer d s next ≡ true → (answers d s ≡ true) ⊎ (is_active_status (said e v d) ≡ true)
  pub taken : is_callers_get e ≡ true → (is_start s ≡ true) × ((d : DevId) → tells_answer d s next ≡ false)
  pub returned : (d : DevId) → got_well d e ≡ true → answers d s ≡ true

abbrev pub Owing : Views → Stage → Duty
Owing v s e change next = Owed v s e next

returns_none : {A : Type 0} (d : DevId) (e : Event) → is_return e ≡ false → got_well d e ≡ true → A
returns_none d (event.Ret h x c) apart good = go h apart good
  where
    go : {A : Type 0} (h : Helper) → is_get_sync h ≡ false → got_well d (event.Ret h x c) ≡ true → A
    go helper.GetSync apart good = cc
    go _ apart good = cc
returns_none d _ apart good = cc

-- a line that takes no count and returns from no get_sync
pub owes : {v : Views} {s : Stage} {e : Event} {change : Change} {next : Then} → is_callers_get e ≡ false → is_return e ≡ false
    → ((d : DevId) → tells_answer d s next ≡ true → (answers d s ≡ true) ⊎ (is_active_status (said e v d) ≡ true)) → Obeys (Owing v s) (writes e change next)
owes {e = e} takes returns told = record { paid = record { told = told; taken = λ t. differ t takes; returned = λ d good. returns_none d e returns good } }

-- nothing is answered then
pub silent : {v : Views} {s : Stage} {e : Event} {change : Change} {next : Then} → is_callers_get e ≡ false → is_return e ≡ false
    → ((d : DevId) → tells_answer d s next ≡ false) → Obeys (Owing v s) (writes e change next)
silent takes returns none = owes takes returns (λ d t. differ t (none d))

-- what was answered is
pub carries : {v : Views} {s : Stage} {e : Event} {change : Change} {next : Then} → is_callers_get e ≡ false → is_return e ≡ false
    → ((d : DevId) → tells_answer d s next ≡ answers d s) → Obeys (Owing v s) (writes e change next)
carries takes returns same = owes takes returns (λ d t. inl (sym (same d) ∙ t))

-- a caller takes a count
pub starts : {v : Views} {s : Stage} {e : Event} {change : Change} {next : Then} → is_start s ≡ true → is_return e ≡ false
    → ((d : DevId) → tells_answer d s next ≡ false) → Obeys (Owing v s) (writes e change next)
starts {e = e} alone returns none =
    record { paid = record { told = λ d t. differ t (none d); taken = λ t. (alone, none); returned = λ d good. returns_none d e returns good } }

-- at another stage of the same call that answers as much
pub alike : {v : Views} {s : Stage} {row : Row} (s' : Stage) → call_of s ≡ call_of s' → is_start s ≡ is_start s' → ((d : DevId) → answers d s ≡ answers d s')
    → Obeys (Owing v s') row → Obeys (Owing v s) row
alike {v} {s} {row} s' same start a o = let it : ObeysRow (Owing v s) row = go row o.paid in record { paid = it }
  where
    go : (row : Row) → ObeysRow (Owing v s') row → ObeysRow (Owing v s) row
    go (writes e change next) h = record { told = λ d. rw (same, a d) (h.told d); taken = λ t. rw (same, start) (h.taken t); returned = λ d. rw (a d) (h.returned d) }
    go (waits d) h = tt
