-- Islands run apart: what is lawful on each island is lawful for the plan (this project's own). Lists that are merged are
-- in order; lawful ones have the newest line first.
use Rattle.std.specs.Prelude.{ℕ, ◌≡◌, ◌<◌, ◌≤◌, List, [], ◌∷◌, Some, length, option_map, reverse, slice_get, take}
use Rattle.pm_model.specs.declared.event.Line.{Line}
use Rattle.pm_model.specs.declared.plan.Plan.{Plan}
use Rattle.pm_model.specs.Islands.{IsLabelling, IsPart, Node, merged, own, the_caller, the_device, the_domain}
use Rattle.pm_model.specs.Lawful.{IsFinished, IsLawful, last_time}
use Rattle.pm_model.specs.World.{World, world}

-- the list is lawful for the part of island n
abbrev pub IsLawfulOn : Plan → (Node → ℕ) → ℕ → List Line → Type 0
IsLawfulOn plan island n h = (part : Plan) × IsPart plan island n part × IsLawful part h

-- and finished
abbrev pub IsFinishedOn : Plan → (Node → ℕ) → ℕ → List Line → Type 0
IsFinishedOn plan island n h = (part : Plan) × IsPart plan island n part × IsLawful part h × IsFinished part h

-- times don't fall
abbrev pub IsInTime : List Line → Type 0
IsInTime [] = Unit {0}
IsInTime (line ∷ h) = (last_time h ≤ line.time) × IsInTime h

-- equal at these places
abbrev pub SameAt : {A : Type 0} → (ℕ → Type 0) → List A → List A → Type 0
SameAt IsPlace xs ys = (i : ℕ) → IsPlace i → slice_get xs i ≡ slice_get ys i

-- two runs stand alike on island n: in the views of its devices, domains and links, and the places of its actors
pub record StandAlike (plan : Plan) (island : Node → ℕ) (n : ℕ) (v w : World) : Type 0 where
  pub devices : SameAt (λ d. island (the_device d) ≡ n) v.views.devices w.views.devices
  pub pending : SameAt (λ d. island (the_device d) ≡ n) v.views.pending w.views.pending
  pub timers : SameAt (λ d. island (the_device d) ≡ n) v.views.timers w.views.timers
  pub on : SameAt (λ o. island (the_domain o) ≡ n) v.views.on w.views.on
  pub held : SameAt (λ l. option_map (λ row. island (the_device row.consumer.0)) (slice_get plan.links l) ≡ Some n) v.views.held w.views.held
  pub present : SameAt (λ l. option_map (λ row. island (the_device row.consumer.0)) (slice_get plan.links l) ≡ Some n) v.views.present w.views.present
  pub caller_places : SameAt (λ c. island (the_caller c) ≡ n) v.caller_places w.caller_places
  pub work_places : SameAt (λ d. island (the_device d) ≡ n) v.work_places w.work_places
  pub timer_places : SameAt (λ d. island (the_device d) ≡ n) v.timer_places w.timer_places
  pub called : SameAt (λ c. island (the_caller c) ≡ n) v.called w.called

-- lines whose times don't fall, no more than the plan allows, are lawful where each island's own are lawful for its part;
-- and the run stands on each island as after the island's own lines
abbrev pub OwnAreLawful : Plan → Type 0
OwnAreLawful plan =
    (island : Node → ℕ) (h : List Line) → IsLabelling plan island → IsInTime h → length h ≤ plan.lines
    → ((n : ℕ) → IsLawfulOn plan island n (own island n h))
    → IsLawful plan h × ((n : ℕ) (part : Plan) → IsPart plan island n part → StandAlike plan island n (world plan h) (world part (own island n h)))

-- each list, which is in order, passes the test of the island of its place
abbrev pub EachPasses : (ℕ → List Line → Type 0) → List (List Line) → Type 0
EachPasses Test lists = (n : ℕ) (lines : List Line) → slice_get lists n ≡ Some lines → Test n (reverse lines)

-- lists that are lawful for their islands' parts are merged to a lawful one, which is cut where the plan allows no more
abbrev pub MergeIsLawful : Plan → Type 0
MergeIsLawful plan =
    (island : Node → ℕ) (lists : List (List Line)) → IsLabelling plan island → EachPasses (IsLawfulOn plan island) lists
    → IsLawful plan (reverse (take plan.lines (merged lists)))

-- it is finished where each caller's island has a list, all are finished and nothing was cut
abbrev pub MergeIsFinished : Plan → Type 0
MergeIsFinished plan =
    (island : Node → ℕ) (lists : List (List Line)) → IsLabelling plan island → EachPasses (IsFinishedOn plan island) lists
    → ((c : ℕ) → c < length plan.callers → island (the_caller c) < length lists) → length (merged lists) ≤ plan.lines
    → IsFinished plan (reverse (take plan.lines (merged lists)))
