-- The gets of a device that nothing has closed (this project's own). Lists of lines have the newest line first; lines are
-- counted from 1.
use Rattle.std.specs.Prelude.{ℕ, ◌+◌, Bool, true, false, not, List, [], ◌∷◌, ◌++◌, count_by, length, if◌then◌else◌}
use Rattle.std.specs.List.{filter}
use Rattle.pm_base.specs.declared.DevId.{DevId}
use Rattle.pm_base.specs.declared.Why.{Why}
use Rattle.pm_base.specs.declared.Why.TheVariants as why
use Rattle.pm_model.specs.declared.event.Event.{Event}
use Rattle.pm_model.specs.declared.event.Event.TheVariants as event
use Rattle.pm_model.specs.declared.event.Word.TheVariants as word
use Rattle.pm_model.specs.Counted.{is_same}
use Rattle.pm_model.specs.History.{History}
use Rattle.pm_why.specs.declared.gets.Count.{Count}

-- whether two reasons for a count are the same
abbrev pub is_why : Why → Why → Bool
is_why why.Caller why.Caller = true
is_why why.Control why.Control = true
is_why why.Forbid why.Forbid = true
is_why why.Delay why.Delay = true
is_why (why.Child c) (why.Child d) = is_same c d
is_why (why.Link c) (why.Link d) = is_same c d
is_why _ _ = false

-- whether a count was taken for this reason
abbrev pub is_for : Why → Count → Bool
is_for w count = is_why w count.why

-- without the earliest for this reason
abbrev pub without_earliest : Why → List Count → List Count
without_earliest w [] = []
without_earliest w (count ∷ counts) = if is_for w count then counts else count ∷ without_earliest w counts

-- without those for this reason
abbrev pub without : Why → List Count → List Count
without w counts = filter (λ count. not (is_for w count)) counts

-- what a line's event makes of the open gets of d, which are in the order of their lines: a get opens one; a put closes
-- the earliest with the same reason; a forced_suspended closes those of its device's links
abbrev pub open_after : DevId → ℕ → Event → List Count → List Count
open_after d line (event.Get e w) counts = if is_same d e then counts ++ (record { why = w; line = line }) ∷ [] else counts
open_after d line (event.Put e w) counts = if is_same d e then without_earliest w counts else counts
open_after d line (event.State consumer word.ForcedSuspended) counts = without (why.Link consumer) counts
open_after d line _ counts = counts

-- the open gets of d after these lines
abbrev pub open_gets : History → DevId → List Count
open_gets [] d = []
open_gets (line ∷ h) d = open_after d (length h + 1) line.event (open_gets h d)

-- how many of them are for this reason
abbrev pub open_for : Why → History → DevId → ℕ
open_for w h d = count_by (is_for w) (open_gets h d)
