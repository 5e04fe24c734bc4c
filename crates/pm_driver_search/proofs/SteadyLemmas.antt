-- Who stands at a stage is one of the actors that were looked at.
use Rattle.std.proofs.Common.{◌≡◌, true, List, Option, Some, None, refl, sym, subst, ap}
use Rattle.std.proofs.lemmas.Option.{get_or_from_slice_get, slice_get_within}
use Rattle.std.specs.List.{All}
use Rattle.std.specs.Option.{option_map_or}
use Rattle.pm_base.specs.declared.ActorId.{ActorId}
use Rattle.pm_laws.specs.counts.Sizes.{HasEntries, HasPlaces}
use Rattle.pm_model.specs.declared.plan.Plan.{Plan}
use Rattle.pm_model.specs.declared.stage.Stage.{Stage}
use Rattle.pm_model.specs.World.{World, stage_at}
use Rattle.pm_explore.specs.schedule.Snapshots.{all_actors}
use Rattle.pm_explore.proofs.successors.Places.{IsIn, in_plan}
use Rattle.pm_state.specs.Standing.{AllStandWell, StandsWell, can_go_on}

pub in_all : {A : Type 0} (P : A → Type 0) (xs : List A) (x : A) → All P xs → IsIn xs x → P x
in_all P xs x all there = subst P (get_or_from_slice_get xs there.0 x x there.1) (all there.0 x (slice_get_within xs there.0 x there.1))

pub stand_all : (plan : Plan) (w : World) (actors : List ActorId) → actors ≡ all_actors plan → HasEntries plan w.views → HasPlaces plan w → All (StandsWell plan w) actors → AllStandWell plan w
stand_all plan w actors same entries places all actor = go (stage_at plan w actor) refl
  where
    go : (o : Option Stage) → stage_at plan w actor ≡ o → option_map_or (can_go_on plan w.views) (stage_at plan w actor) true ≡ true
    go None is = ap (λ x. option_map_or (can_go_on plan w.views) x true) is
    go (Some s) is = in_all (StandsWell plan w) actors actor all (subst (λ xs. IsIn xs actor) (sym same) (in_plan plan w actor s (record { entries = entries; places = places }) is))
