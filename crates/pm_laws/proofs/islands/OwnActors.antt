-- In a plan where only an island's callers have scripts, only the island's actors write.
use Rattle.std.proofs.Common.{ℕ, ◌≡◌, Bool, true, false, not, List, [], ◌∷◌, Option, Some, None, refl, sym, subst, ◌∙◌, ap}
use Rattle.std.specs.Prelude.{slice_get, option_map}
use Rattle.std.specs.List.{list_all}
use Rattle.std.specs.Option.{option_and_then}
use Rattle.std.proofs.lemmas.Bool.{and_from}
use Rattle.pm_base.specs.declared.ActorId.{ActorId}
use Rattle.pm_base.specs.declared.Armed.{Armed}
use Rattle.pm_model.specs.declared.event.Command.{Command}
use Rattle.pm_base.specs.declared.ActorId.TheVariants.{Caller, Work, Timer}
use Rattle.pm_model.specs.declared.event.Line.{Line}
use Rattle.pm_model.specs.declared.plan.Plan.{Plan}
use Rattle.pm_model.specs.declared.rows.CallerRow.{CallerRow}
use Rattle.pm_model.specs.declared.stage.HelperStage.TheVariants as at
use Rattle.pm_model.specs.declared.stage.Stage.{Stage}
use Rattle.pm_model.specs.declared.stage.Stage.TheVariants as stage
use Rattle.pm_model.specs.Lawful.{IsLawful}
use Rattle.pm_model.specs.Row.{Row, writes}
use Rattle.pm_model.specs.Views.{fresh_pending}
use Rattle.pm_model.specs.World.{row, due, place, stage_at, called_by, row_at, after_line, start, world}
use Rattle.pm_laws.proofs.islands.Region.{AreBound, Region, Island, AreApart, WorldsAgree, ArePlaced, StagesIn, is_actor_of, is_own_link}
use Rattle.pm_laws.proofs.counts.Runs.{written}
use Rattle.pm_laws.proofs.stacks.Tests.{not_true}
use Rattle.pm_laws.proofs.islands.AlikeLists.{const_at}
use Rattle.pm_laws.proofs.islands.HeldLinks.{bound_holds}
use Rattle.pm_laws.proofs.islands.Whole.{no_stages, world_goes}
use Rattle.pm_laws.proofs.islands.StageSteps.{row_stays}
use Rattle.pm_laws.proofs.islands.IslandSteps.{stage_alike, stage_in, other_line, own_placed, worlds_refl, worlds_trans}

-- all that lies outside a region
abbrev pub rest_of : (plan : Plan) → Region plan → Region plan
rest_of plan k = record {
  inside = λ i. not (k.inside i);
  domains = λ i. not (k.domains i);
  parents = λ i row p at is. ap not (k.parents i row p at is);
  attached = λ i row o at is. ap not (k.attached i row o at is);
  above = λ i row o at is. ap not (k.above i row o at is);
  linked = λ l row at is. ap not (k.linked l row at is);
}

-- outside the island no caller has a script
abbrev pub HasOnly : (plan : Plan) → Island plan → Type 0
HasOnly plan k = (c : ℕ) (row : CallerRow) → k.callers c ≡ false → slice_get plan.callers c ≡ Some row → row.script ≡ []

abbrev no_timer : Option Armed
no_timer = None

pub no_command : (script : List Command) (n : ℕ) (command : Command) → script ≡ [] → slice_get script n ≡ Some command → ⊥
no_command [] n command e is = cc
no_command (x ∷ script) n command e is = cc

no_stage : (s : Stage) → None ≡ Some s → ⊥
no_stage s e = cc

-- all that is not of the island
abbrev pub rest : (plan : Plan) (k : Island plan) → HasOnly plan k → Island plan
rest plan k only = record {
  region = rest_of plan k.region;
  callers = λ c. not (k.callers c);
  scripts = λ c row n command out at is takes. absurd (no_command row.script n command (only c row (not_true (k.callers c) out) at) is);
}

-- no actor of the rest has something to start
start_none : (plan : Plan) (k : Island plan) (only : HasOnly plan k) (a : ActorId) → is_actor_of (rest plan k only) a ≡ true → stage_at plan (start plan) a ≡ None
start_none plan k only (Caller c) i = rw (const_at plan.callers c no_stages) (by_row (slice_get plan.callers c) refl)
  where
    by_row : (x : Option CallerRow) → slice_get plan.callers c ≡ x
        → option_map (λ command. stage.Helper (at.Call command)) (option_and_then (λ caller. slice_get caller.script (called_by (start plan) c)) x) ≡ None
    by_row None found = refl
    by_row (Some row) found = rw (only c row (not_true (k.callers c) i) found) refl
start_none plan k only (Work d) i = rw (const_at plan.devices d no_stages, const_at plan.devices d fresh_pending) refl
start_none plan k only (Timer d) i = rw (const_at plan.devices d no_stages, const_at plan.devices d no_timer) refl

apart_rest : (plan : Plan) (k : Island plan) (only : HasOnly plan k) → AreApart plan k (rest plan k only)
apart_rest plan k only = record {
  regions = record { devices = λ i own. ap not own; domains = λ i own. ap not own };
  callers = λ c own. ap not own;
}

-- only the island's actors wrote, and the rest stands as before any line
pub record Alone (plan : Plan) (k : Island plan) (only : HasOnly plan k) (h : List Line) : Type 0 where
  pub all : list_all (λ line. is_actor_of k line.actor) h ≡ true
  pub placed : ArePlaced plan k (world plan h)
  pub calm : WorldsAgree plan (rest plan k only) (start plan) (world plan h)

is_rest : (plan : Plan) (k : Island plan) (only : HasOnly plan k) (a : ActorId) → is_actor_of k a ≡ false → is_actor_of (rest plan k only) a ≡ true
is_rest plan k only (Caller c) out = ap not out
is_rest plan k only (Work d) out = ap not out
is_rest plan k only (Timer d) out = ap not out

pub only_own : (plan : Plan) (k : Island plan) (only : HasOnly plan k) (h : List Line) → IsLawful plan h → Alone plan k only h
only_own plan k only [] lawful = record { all = refl; placed = placed; calm = worlds_refl plan (rest plan k only) (start plan) }
  where
    placed : (a : ActorId) → is_actor_of k a ≡ true → StagesIn k.region (place (start plan) a)
    placed (Caller c) own = subst (λ x. StagesIn k.region x) (sym (const_at plan.callers c no_stages)) tt
    placed (Work d) own = subst (λ x. StagesIn k.region x) (sym (const_at plan.devices d no_stages)) tt
    placed (Timer d) own = subst (λ x. StagesIn k.region x) (sym (const_at plan.devices d no_stages)) tt
only_own plan k only (line ∷ h) lawful =
    go (is_actor_of k line.actor) refl (only_own plan k only h lawful.2) (bound_holds plan (is_own_link k.region) h lawful.2)
  where
    go : (b : Bool) → is_actor_of k line.actor ≡ b → Alone plan k only h → AreBound (is_own_link k.region) plan.links (world plan h).views.held → Alone plan k only (line ∷ h)
    go false out before bound =
        let x = is_rest plan k only line.actor out in
        let same = stage_alike line.actor before.calm x in
        absurd (no_stage lawful.0.stage (sym (start_none plan k only line.actor x) ∙ same ∙ lawful.0.stands))
    go true own before bound =
        let w = world plan h in
        let s = lawful.0.stage in
        let inside = stage_in plan k w line.actor s before.placed own lawful.0.stands in
        let c = lawful.0.change in
        let next = lawful.0.next in
        let r : Row = writes line.event c next in
        let wrote = written (due plan w.views s) line.time (row plan w.views s line.time) line.event c next lawful.0.gives in
        let stays = row_stays plan k.region w.views line.time s r inside bound wrote in
        let at_row : row_at plan w line.actor line.time ≡ Some r = rw lawful.0.stands wrote in
        let goes : world plan (line ∷ h) ≡ after_line plan w line (Some r) = world_goes plan h line (Some r) at_row in
        let still = other_line plan k (rest plan k only) w line c next (apart_rest plan k only) own stays bound in
        record {
          all = and_from _ _ own before.all;
          placed = subst (λ x. ArePlaced plan k x) (sym goes) (own_placed plan k w line c next before.placed own stays);
          calm = subst (λ x. WorldsAgree plan (rest plan k only) (start plan) x) (sym goes) (worlds_trans before.calm still);
        }
