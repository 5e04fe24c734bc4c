-- One call alone: the lines of a list from a caller's call of get_sync on, where no other actor writes between, and which
-- resume callbacks begin among them (this project's own).
use Rattle.std.specs.Prelude.{ℕ, ◌≡◌, ◌≤◌, Bool, true, false, not, [], ◌∷◌, ◌++◌, Some, count_by, slice_get}
use Rattle.std.specs.List.{list_all}
use Rattle.pm_base.specs.declared.ActorId.TheVariants.{Caller}
use Rattle.pm_base.specs.declared.Cb.TheVariants as cb
use Rattle.pm_base.specs.declared.DevId.{DevId}
use Rattle.pm_model.specs.declared.event.Event.{Event}
use Rattle.pm_model.specs.declared.event.Event.TheVariants as event
use Rattle.pm_model.specs.declared.event.Line.{Line}
use Rattle.pm_model.specs.declared.plan.Plan.{Plan}
use Rattle.pm_model.specs.declared.rows.LinkRow.{LinkRow}
use Rattle.pm_model.specs.Counted.{is_same}
use Rattle.pm_model.specs.Derived.{is_link_of}
use Rattle.pm_model.specs.History.{History}
use Rattle.pm_model.specs.PlanRows.{parent}
use Rattle.pm_model.specs.Promises.{calls_get_sync}
use Rattle.pm_model.specs.Views.{Views, is_present}
use Rattle.pm_model.specs.World.{world}

-- d, and what is reached from it by parents, and by links that have pm_runtime and are present, to their suppliers
pub data Reached (plan : Plan) (v : Views) (d : DevId) : DevId → Type 0 where
  itself : Reached plan v d d
  by_parent : (e p : DevId) → Reached plan v d e → parent plan e ≡ Some p → Reached plan v d p
  by_link : (e : DevId) (l : ℕ) (row : LinkRow) → Reached plan v d e → slice_get plan.links l ≡ Some row → is_link_of e row (is_present v l) ≡ true → Reached plan v d row.supplier

abbrev pub is_return : Event → Bool
is_return (event.Ret h d c) = true
is_return _ = false

-- no helper has returned in these lines
abbrev pub is_open : History → Bool
is_open lines = list_all (λ line. not (is_return line.event)) lines

-- the lines of one call: those from the line with which caller c calls get_sync of d on, the newest first, up to its return
-- or to a line before it; all are of this caller
pub data OneCall (c : ℕ) (d : DevId) : History → Type 0 where
  from_call : (line : Line) → line.actor ≡ Caller c → calls_get_sync d line.event ≡ true → OneCall c d (line ∷ [])
  one_more : (line : Line) (lines : History) → OneCall c d lines → is_open lines ≡ true → line.actor ≡ Caller c → OneCall c d (line ∷ lines)

-- the resume callback of e begins
abbrev pub begins_resume : DevId → Event → Bool
begins_resume e (event.Begin x cb.Resume) = is_same e x
begins_resume e _ = false

-- how many resume callbacks of e begin in these lines
abbrev pub resumes_begun : DevId → History → ℕ
resumes_begun e lines = count_by (λ line. begins_resume e line.event) lines

-- each resume callback that begins in the lines behind those before is of a device that is reached from d where it begins
abbrev pub AreReached : Plan → DevId → History → History → Type 0
AreReached plan d before [] = Unit {0}
AreReached plan d before (line ∷ lines) =
    ((e : DevId) → begins_resume e line.event ≡ true → Reached plan (world plan (lines ++ before)).views d e) × AreReached plan d before lines

-- one call alone: wherever in the list the lines of one call of get_sync stand, in them at most one resume callback per
-- device begins, and it begins only for what is reached from the device of the call
abbrev pub IsAlone : Plan → History → Type 0
IsAlone plan h =
    (later lines before : History) (c : ℕ) (d : DevId) → h ≡ later ++ (lines ++ before) → OneCall c d lines
    → ((e : DevId) → resumes_begun e lines ≤ 1) × AreReached plan d before lines
