-- Which devices are live, and what excuses a live device from a bond (this project's own). "At a line" means before it.
use Rattle.std.specs.Prelude.{ℕ, Bool, true, false, not, ◌&&◌, ◌||◌, List, [], ◌∷◌, Option, Some, None, ℤ, drop, nat_eq, if◌then◌else◌}
use Rattle.std.specs.Option.{option_map_or}
use Rattle.std.specs.Ordering.{int_eq}
use Rattle.pm_base.specs.declared.Cb.TheVariants as cb
use Rattle.pm_base.specs.declared.DevId.{DevId}
use Rattle.pm_base.specs.declared.codes.TheConstants.{EACCES}
use Rattle.pm_model.specs.declared.event.Event.{Event}
use Rattle.pm_model.specs.declared.event.Event.TheVariants as event
use Rattle.pm_model.specs.declared.event.Line.{Line}
use Rattle.pm_model.specs.declared.event.Word.{Word}
use Rattle.pm_model.specs.declared.event.Word.TheVariants as word
use Rattle.pm_model.specs.declared.plan.Plan.{Plan}
use Rattle.pm_model.specs.declared.stage.Await.TheVariants as await
use Rattle.pm_model.specs.declared.stage.Stage.{Stage}
use Rattle.pm_model.specs.declared.stage.Stage.TheVariants as stage
use Rattle.pm_model.specs.PlanRows.{no_callbacks}
use Rattle.pm_model.specs.Views.{Views, device}
use Rattle.pm_model.specs.Derived.{is_active, is_suspended, is_disabled}
use Rattle.pm_model.specs.Row.{Row, writes}
use Rattle.pm_model.specs.Handing.{arrival}
use Rattle.pm_model.specs.History.{History, last_said, lasts}
use Rattle.pm_model.specs.World.{World, place, row_at, top, world}
use Rattle.pm_model.specs.Counted.{is_forced, is_same, only_if, runs}

-- d is Active, or its suspend or resume callback runs
abbrev pub is_live : Plan → History → DevId → Bool
is_live plan h d = is_active (world plan h).views d || runs cb.Suspend d h || runs cb.Resume d h

abbrev pub is_entry_word : Plan → Views → DevId → Word → Bool
is_entry_word plan v d word.Resuming = true
is_entry_word plan v d word.Active = no_callbacks plan d
is_entry_word plan v d word.ForcedActive = not (is_active v d)
is_entry_word plan v d _ = false

-- the event, on these views, is an entry of d: it begins to resume, or becomes Active at once
abbrev pub is_entry : Plan → Views → DevId → Event → Bool
is_entry plan v d (event.State e w) = is_same d e && is_entry_word plan v d w
is_entry plan v d _ = false

-- p was disabled at the entry line of d, the last line that is an entry of d
abbrev pub was_disabled_at_entry : Plan → History → DevId → DevId → Bool
was_disabled_at_entry plan h d p =
    last_said (λ g line. let v = (world plan g).views in only_if (is_entry plan v d line.event) (is_disabled v p)) false h

-- some line is an entry of d
abbrev pub has_entered : Plan → History → DevId → Bool
has_entered plan [] d = false
has_entered plan (line ∷ h) d = is_entry plan (world plan h).views d line.event || has_entered plan h d

-- p ignored its children at the entry line of d or at a line after it
abbrev pub ignored_since_entry : Plan → History → DevId → DevId → Bool
ignored_since_entry plan [] d p = false
ignored_since_entry plan (line ∷ h) d p =
    let v = (world plan h).views in
    if (device v p).ignores then has_entered plan (line ∷ h) d
    else if is_entry plan v d line.event then false else ignored_since_entry plan h d p

-- some line passes the test, on the world before it, since d was last Suspended
abbrev pub since_suspended : Plan → (World → Line → Bool) → History → DevId → Bool
since_suspended plan test h d = lasts (λ g line. test (world plan g) line) (λ g line. is_suspended (world plan (line ∷ g)).views d) h

abbrev pub forces : DevId → Event → Bool
forces x (event.State e w) = is_forced w && is_same x e
forces x _ = false

-- the status of x was forced after d was last Suspended
abbrev pub was_forced : Plan → History → DevId → DevId → Bool
was_forced plan h d x = since_suspended plan (λ w line. forces x line.event) h d

-- this stage awaits the resume of link l's supplier
abbrev pub awaits_supplier : ℕ → Stage → Bool
awaits_supplier l (stage.Await (await.ResumeSupplier r link)) = nat_eq l link
awaits_supplier l (stage.Await (await.ActiveSupplier d link)) = nat_eq l link
awaits_supplier l _ = false

-- the code that is handed down this stack comes to the resume of link l's supplier as -13
abbrev pub is_denied : ℕ → List Stage → ℤ → Bool
is_denied l stack c = let come = arrival stack c in option_map_or (awaits_supplier l) (top None come.0) false && int_eq come.1 EACCES

abbrev pub row_denies : ℕ → List Stage → Option Row → Bool
row_denies l rest (Some (writes e change next)) = option_map_or (is_denied l rest) next.back false
row_denies l rest _ = false

-- the line ends the resume of link l's supplier with -13: the supplier is disabled
abbrev pub ends_denied : Plan → ℕ → World → Line → Bool
ends_denied plan l w line = row_denies l (drop 1 (place w line.actor)) (row_at plan w line.actor line.time)

-- what excuses d from its parent p
abbrev pub is_excused_from_parent : Plan → History → DevId → DevId → Bool
is_excused_from_parent plan h d p = was_disabled_at_entry plan h d p || ignored_since_entry plan h d p || was_forced plan h d p

-- what excuses d from the supplier s of its link l
abbrev pub is_excused_from_supplier : Plan → History → DevId → ℕ → DevId → Bool
is_excused_from_supplier plan h d l s = since_suspended plan (ends_denied plan l) h d || was_forced plan h d s

abbrev pub becomes_active : DevId → Views → Event → Bool
becomes_active d v (event.State e word.ForcedActive) = is_same d e && not (is_active v d)
becomes_active d v _ = false

-- what excuses d from its domain: it was forced to Active, and hasn't been Suspended since
abbrev pub is_excused_from_domain : Plan → History → DevId → Bool
is_excused_from_domain plan h d = since_suspended plan (λ w line. becomes_active d w.views line.event) h d
