-- Whether an answer and an end hold in a run (this project's own). Lists of lines have the newest line first.
use Rattle.std.specs.Prelude.{ℕ, ℤ, ◌-◌, Bool, true, false, not, ◌&&◌, List, Option, Some, None, filter, find, length, nat_eq, nat_le, slice_get, if◌then◌else◌}
use Rattle.std.specs.Option.{option_and_then, option_map_or}
use Rattle.std.specs.Ordering.{int_eq}
use Rattle.pm_base.specs.declared.Status.{Status}
use Rattle.pm_base.specs.declared.Status.TheVariants as status
use Rattle.pm_expect.specs.Fields.{times_by}
use Rattle.pm_expect.specs.Same.{is_same_command}
use Rattle.pm_expect.specs.declared.expectation.Answer.{Answer}
use Rattle.pm_expect.specs.declared.expectation.End.{End}
use Rattle.pm_expect.specs.declared.expectation.Left.{Left}
use Rattle.pm_expect.specs.declared.expectation.Left.TheVariants as left
use Rattle.pm_expect.specs.declared.expectation.Which.{Which}
use Rattle.pm_expect.specs.declared.expectation.Which.TheVariants as which
use Rattle.pm_model.specs.declared.event.Command.{Command}
use Rattle.pm_model.specs.declared.plan.Plan.{Plan}
use Rattle.pm_model.specs.declared.views.Device.{Device}
use Rattle.pm_model.specs.Counted.{only_if}
use Rattle.pm_model.specs.History.{History}
use Rattle.pm_model.specs.Lawful.{is_finished}
use Rattle.pm_model.specs.Views.{Views, device}
use Rattle.pm_model.specs.World.{world}
use Rattle.pm_expect.specs.verdicts.Calls.{returns}
use Rattle.pm_expect.specs.declared.verdicts.calls.Return.{Return}
use Rattle.pm_expect.specs.declared.verdicts.verdict.Judged.{Judged}
use Rattle.pm_expect.specs.declared.verdicts.verdict.Leaves.{Leaves}
use Rattle.pm_expect.specs.declared.verdicts.verdict.Verdict.{Verdict}
use Rattle.pm_expect.specs.declared.verdicts.verdict.Verdict.TheVariants as verdict

-- an expectation with its verdict
abbrev pub judged : {E T : Type 0} → (E → Verdict T) → E → Judged E T
judged verdict_of e = record { expected = e; verdict = verdict_of e }

-- of this command of this caller
abbrev pub is_call_of : ℕ → Command → Return → Bool
is_call_of caller command r = nat_eq r.caller caller && is_same_command command r.command

-- the calls of a command of a caller that have returned, in order
abbrev pub returns_of : ℕ → Command → List Return → List Return
returns_of caller command all = filter (is_call_of caller command) all

abbrev pub is_other : ℤ → Return → Bool
is_other code r = not (int_eq r.code code)

-- of these returns the first that is meant and has another code
abbrev pub first_other : ℤ → Which → List Return → Option Return
first_other code which.Each mine = find (is_other code) mine
first_other code (which.Nth n) mine = option_and_then (λ r. only_if (is_other code r) r) (slice_get mine (n - 1))

-- all calls that are meant have returned: as many as the script has, or the one of this number
abbrev pub have_all : ℕ → Which → ℕ → Bool
have_all times which.Each returned = nat_le times returned
have_all times (which.Nth n) returned = nat_le n returned

abbrev pub once : {T : Type 0} → Bool → Verdict T
once done = if done then verdict.Holds else verdict.Open

abbrev pub answered : Bool → Option Return → Verdict ℤ
answered done (Some r) = verdict.Fails r.line r.code
answered done None = once done

-- by the calls that have returned: an answer fails at the first return that it means and that has another code; else it holds once
-- all calls that it means have returned
unfoldable pub answer_by : Plan → List Return → Answer → Verdict ℤ
answer_by plan all a =
    let mine = returns_of a.caller a.command all in
    answered (have_all (times_by plan a.caller a.command) a.which (length mine)) (first_other a.code a.which mine)

abbrev pub answer_verdict : Plan → History → Answer → Verdict ℤ
answer_verdict plan h a = answer_by plan (returns h) a

abbrev pub is_left : Left → Status → Bool
is_left left.Suspended status.Suspended = true
is_left left.Active status.Active = true
is_left _ _ = false

-- the device is left as an end says
abbrev pub is_as_left : End → Device → Bool
is_as_left e x = is_left e.left x.status && option_map_or (λ usage. nat_eq x.usage usage) e.usage true

abbrev pub left_so : ℕ → End → Device → Verdict Leaves
left_so number e x = if is_as_left e x then verdict.Holds else verdict.Fails number (record { status = x.status; usage = x.usage })

-- on the views after so many lines of a run, which is finished or not: an end is judged once it is
abbrev pub end_by : ℕ → Bool → Views → End → Verdict Leaves
end_by number finished v e = if finished then left_so number e (device v e.dev) else verdict.Open

abbrev pub end_verdict : Plan → History → End → Verdict Leaves
end_verdict plan h e = end_by (length h) (is_finished plan (world plan h)) (world plan h).views e
