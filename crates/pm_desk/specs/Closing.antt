-- What a desk comes to when it is closed (this project's own).
use Rattle.std.specs.Prelude.{◌≡◌, ◌+◌, ◌<◌, ℕ, Bool, true, false, not, ◌&&◌, List, Option, Some, length, map, nat_lt, slice_get}
use Rattle.pm_model.specs.declared.event.Line.{Line}
use Rattle.pm_model.specs.declared.plan.Plan.{Plan}
use Rattle.pm_model.specs.Lawful.{IsLawful}
use Rattle.pm_laws.specs.gets.Alone.{IsAlone}
use Rattle.pm_book.specs.Growing.{script_of}
use Rattle.pm_book.specs.Pages.{Pages, is_full}
use Rattle.pm_serial.specs.declared.running.End.{End}
use Rattle.pm_serial.specs.declared.running.End.TheVariants as end
use Rattle.pm_serial.specs.Ends.{IsEnd}
use Rattle.pm_desk.specs.Agreeing.{Agrees, AllAgree, DiffersAt}
use Rattle.pm_desk.specs.Returns.{calls}
use Rattle.pm_desk.specs.Slips.{Slip, kept_by, pass_of, stopped_of}
use Rattle.pm_desk.specs.declared.closing.CloseFault.{CloseFault}
use Rattle.pm_desk.specs.declared.closing.CloseFault.TheVariants as fault
use Rattle.pm_desk.specs.declared.closing.Closed.{Closed}
use Rattle.pm_desk.specs.declared.closing.Difference.{Difference}
use Rattle.pm_desk.specs.declared.closing.Wrong.{Wrong}
use Rattle.pm_desk.specs.declared.closing.Wrong.TheVariants as wrong
use Rattle.pm_desk.specs.declared.pass.Stop.{Stop}
use Rattle.pm_desk.specs.declared.pass.Stop.TheVariants as stop

-- two plans differ in their scripts at most
pub record AreAlike (a b : Plan) : Type 0 where
  pub lines : a.lines ≡ b.lines
  pub trace : a.trace ≡ b.trace
  pub domains : a.domains ≡ b.domains
  pub devices : a.devices ≡ b.devices
  pub links : a.links ≡ b.links
  pub names : map (λ row. row.name) a.callers ≡ map (λ row. row.name) b.callers

-- a desk's book that was drained: its plan is the desk's, but for scripts, its list is lawful, in it one call alone resumes each
-- device at most once, and its run ended so
pub record IsDrained (plan : Plan) (p : Pages) (e : End) : Type 0 where
  pub alike : AreAlike p.plan plan
  pub lawful : IsLawful p.plan p.lines
  pub alone : IsAlone p.plan p.lines
  pub ends : IsEnd p e

-- a call was stopped by a limit
abbrev pub is_limited : Option Stop → Bool
is_limited (Some stop.Limit) = true
is_limited _ = false

-- a call of this caller was stopped by a limit, and neither the list nor the caller's script is full
abbrev pub has_room : List Slip → Pages → ℕ → Bool
has_room slips p c = is_limited (stopped_of (pass_of slips c)) && (not (is_full p) && nat_lt (length (script_of p.plan.callers c)) 1000)

-- of none of the first so many callers
abbrev pub NoneHasRoom : List Slip → Pages → ℕ → Type 0
NoneHasRoom slips p n = (c : ℕ) → c < n → has_room slips p c ≡ false

-- how a run ended that is full, or not
abbrev pub end_of : Bool → End
end_of true = end.AtLimit
end_of false = end.Finished

-- all that was kept agrees with the list, and where a limit stopped a call, it was reached. The list is full and not
-- finished, or it is finished
pub record IsClosed (plan : Plan) (slips : List Slip) (closed : Closed) : Type 0 where
  pub drained : IsDrained plan closed.book (end_of closed.full)
  pub agree : AllAgree slips closed.book.lines (length plan.callers)
  pub limits : NoneHasRoom slips closed.book (length plan.callers)

-- the receipts of this caller don't agree with the list, and this is the first place, counted from 1, at which they
-- differ, with what stands there
pub record IsDifference (slips : List Slip) (h : List Line) (c : ℕ) (d : Difference) : Type 0 where
  pub caller : d.caller ≡ c
  pub differs : ¬ Agrees (pass_of slips c) (calls h c)
  pub place : ℕ
  pub nth : d.nth ≡ place + 1
  pub at : DiffersAt (kept_by (pass_of slips c)) (calls h c) place
  pub kept : d.kept ≡ slice_get (kept_by (pass_of slips c)) place
  pub found : d.found ≡ slice_get (calls h c) place

-- of the first of so many callers whose receipts don't agree
pub record IsFirstDifference (slips : List Slip) (h : List Line) (n : ℕ) (d : Difference) : Type 0 where
  pub in_range : d.caller < n
  pub before : AllAgree slips h d.caller
  pub is : IsDifference slips h d.caller d

-- the first caller of whom a limit stopped a call that wasn't reached
pub record IsFirstWithRoom (slips : List Slip) (p : Pages) (n c : ℕ) : Type 0 where
  pub in_range : c < n
  pub before : NoneHasRoom slips p c
  pub has : has_room slips p c ≡ true

-- what is wrong with the passes to a drained book: the first difference, or, where there is none, the first limit that
-- wasn't reached
abbrev pub IsWrong : List Slip → Pages → ℕ → Wrong → Type 0
IsWrong slips p n (wrong.Differs d) = IsFirstDifference slips p.lines n d
IsWrong slips p n (wrong.NotFull c) = AllAgree slips p.lines n × IsFirstWithRoom slips p n c

pub record IsDiffering (plan : Plan) (slips : List Slip) (p : Pages) (d : Difference) : Type 0 where
  pub ended : End
  pub drained : IsDrained plan p ended
  pub first : IsFirstDifference slips p.lines (length plan.callers) d

pub record IsNotFull (plan : Plan) (slips : List Slip) (p : Pages) (c lines : ℕ) : Type 0 where
  pub ended : End
  pub drained : IsDrained plan p ended
  pub agree : AllAgree slips p.lines (length plan.callers)
  pub first : IsFirstWithRoom slips p (length plan.callers) c
  pub count : lines ≡ length p.lines

abbrev pub IsFault : Plan → List Slip → CloseFault → Type 0
IsFault plan slips (fault.Differs book caller nth kept found) = IsDiffering plan slips book (record { caller = caller; nth = nth; kept = kept; found = found })
IsFault plan slips (fault.NotFull book caller lines) = IsNotFull plan slips book caller lines
IsFault plan slips fault.NoMemory = Unit {0}
