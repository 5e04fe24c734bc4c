-- A longer script leaves the rows of the call table, the world after a list and its lawfulness as they are.
use Rattle.std.proofs.Common.{ℕ, zero, suc, ◌≡◌, ◌≢◌, ◌+◌, ◌<◌, ◌≤◌, ◌&&◌, ◌∙◌, ◌++◌, Bool, true, List, [], ◌∷◌, Option, Some, None, length, map, option_map, slice_get, nat_le, ap, arith, refl, subst, sym}
use Rattle.std.specs.List.{list_all}
use Rattle.std.specs.Option.{option_and_then}
use Rattle.std.proofs.lemmas.Bool.{and_parts, leb-true}
use Rattle.std.proofs.lemmas.Grind.{common_steps}
use Rattle.pm_base.specs.declared.ActorId.{ActorId}
use Rattle.pm_base.specs.declared.ActorId.TheVariants.{Caller, Work, Timer}
use Rattle.pm_base.specs.declared.limits.TheConstants.{MAX_COMMANDS}
use Rattle.pm_model.specs.declared.event.Command.{Command}
use Rattle.pm_model.specs.declared.event.Event.{Event}
use Rattle.pm_model.specs.declared.event.Line.{Line}
use Rattle.pm_model.specs.declared.plan.Plan.{Plan}
use Rattle.pm_model.specs.declared.rows.CallerRow.{CallerRow}
use Rattle.pm_model.specs.declared.stage.Change.{Change}
use Rattle.pm_model.specs.declared.stage.HelperStage.TheVariants as at
use Rattle.pm_model.specs.declared.stage.Move.TheVariants.{Write}
use Rattle.pm_model.specs.declared.stage.Stage.{Stage}
use Rattle.pm_model.specs.declared.stage.Stage.TheVariants as stage
use Rattle.pm_model.specs.Changes.{has_auto_timer, rcancel, callback_marks, enables, set_held, set_present}
use Rattle.pm_model.specs.ChangeViews.{change_views, suspend_ended}
use Rattle.pm_model.specs.ControlTable.{enabling, disabling, disable_starts, disable_ends, barrier_idles, barrier_resumes, barrier_ends, active_starts, active_unwinds, active_links, suspended_starts, suppliers_idle, forbidding, allowing, sets, schedules, link_adds, link_dels, control_starts}
use Rattle.pm_model.specs.Derived.{has, children, refusal, busy, expiry, minds_parent, callback_code, fields, up, down, first_held, first_free, next_supplier, has_link}
use Rattle.pm_model.specs.Events.{by_event, frees_links}
use Rattle.pm_model.specs.HelperTable.{helper_starts, put_suspends, timer_fires}
use Rattle.pm_model.specs.History.{History}
use Rattle.pm_model.specs.IdleTable.{idle_verdict, idle_ends, after_put}
use Rattle.pm_model.specs.IsPlan.{is_caller, is_caller_name, is_command, is_plan, is_script}
use Rattle.pm_model.specs.Lawful.{IsLawful, Permits}
use Rattle.pm_model.specs.PlanRows.{no_callbacks, has_idle, marks_busy, parent, domain, has_parent, parent_of, has_domain, codes_of, ms_of, domains_of}
use Rattle.pm_model.specs.ResumeTable.{leaves, resume_verdict, resume_links, resume_unwinds, resume_ends, resume_domain}
use Rattle.pm_model.specs.Row.{Row, writes, waits}
use Rattle.pm_model.specs.SuspendTable.{autosuspend_at, suspend_verdict, suspend_ends, suspend_links, suspend_domain, suspend_parent}
use Rattle.pm_model.specs.Views.{Views}
use Rattle.pm_model.specs.World.{World, after_line, called_by, due, move, place, ready, row, row_at, stage_at, start, top, world}
use Rattle.pm_model.specs.Scripts.{longer, with_command}
use Rattle.pm_book.specs.Growing.{IsPlanWith, script_of, with_callers}

-- the rows and the change of events don't read the callers
same_event : (plan : Plan) (callers : List CallerRow) (law : IsPlanWith plan callers) (t : ℕ) (e : Event) (v : Views) → by_event (with_callers plan callers law) t e v ≡ by_event plan t e v
unfolding has_auto_timer rcancel callback_marks enables set_held up down frees_links by_event domain domains_of parent
same_event plan callers law t e v = refl

same_change : (plan : Plan) (callers : List CallerRow) (law : IsPlanWith plan callers) (t : ℕ) (c : Change) (v : Views) → change_views (with_callers plan callers law) t c v ≡ change_views plan t c v
unfolding marks_busy has_auto_timer rcancel callback_marks enables set_present suspend_ended
same_change plan callers law t c v = refl

same_row : (plan : Plan) (callers : List CallerRow) (law : IsPlanWith plan callers) (v : Views) (s : Stage) (t : ℕ) → row (with_callers plan callers law) v s t ≡ row plan v s t
unfolding no_callbacks has_idle marks_busy parent domain has_parent parent_of has_domain codes_of ms_of domains_of has_auto_timer rcancel callback_marks enables set_held set_present has children refusal busy expiry minds_parent callback_code fields up down first_held first_free next_supplier has_link frees_links by_event idle_verdict idle_ends after_put autosuspend_at suspend_verdict suspend_ended suspend_ends suspend_links suspend_domain suspend_parent leaves resume_verdict resume_links resume_unwinds resume_ends resume_domain helper_starts put_suspends timer_fires enabling disabling disable_starts disable_ends barrier_idles barrier_resumes barrier_ends active_starts active_unwinds active_links suspended_starts suppliers_idle forbidding allowing sets schedules link_adds link_dels control_starts
same_row plan callers law v s t = refl

pub same_due : (plan : Plan) (callers : List CallerRow) (law : IsPlanWith plan callers) (v : Views) (s : Stage) → due (with_callers plan callers law) v s ≡ due plan v s
unfolding ms_of
same_due plan callers law v s = refl

same_move : (plan : Plan) (callers : List CallerRow) (law : IsPlanWith plan callers) (v : Views) (s : Stage) (t : ℕ) → move (with_callers plan callers law) v s t ≡ move plan v s t
same_move plan callers law v s t = rw (same_due plan callers law v s, same_row plan callers law v s t) refl

same_after : (plan : Plan) (callers : List CallerRow) (law : IsPlanWith plan callers) (w : World) (line : Line) (r : Option Row) → after_line (with_callers plan callers law) w line r ≡ after_line plan w line r
same_after plan callers law w line (Some (writes e change next)) =
    rw (same_change plan callers law line.time change w.views, same_event plan callers law line.time line.event (change_views plan line.time change w.views)) refl
same_after plan callers law w line (Some (waits d)) = rw (same_event plan callers law line.time line.event w.views) refl
same_after plan callers law w line None = rw (same_event plan callers law line.time line.event w.views) refl

-- a command that a script has stays where it is
kept_command : (script more : List Command) (n : ℕ) (command : Command) → slice_get script n ≡ Some command → slice_get (script ++ more) n ≡ Some command
kept_command [] more n command is = cc is
kept_command (x ∷ script) more zero command is = is
kept_command (x ∷ script) more (suc n) command is = kept_command script more n command is

kept_next : (command : Command) (c : ℕ) (rows : List CallerRow) (k n : ℕ) (next : Command) → option_and_then (λ row. slice_get row.script n) (slice_get rows k) ≡ Some next
    → option_and_then (λ row. slice_get row.script n) (slice_get (with_command command c rows) k) ≡ Some next
kept_next command c [] k n next is = is
kept_next command zero (first ∷ rows) zero n next is = kept_command first.script (command ∷ []) n next is
kept_next command zero (first ∷ rows) (suc k) n next is = is
kept_next command (suc c) (first ∷ rows) zero n next is = is
kept_next command (suc c) (first ∷ rows) (suc k) n next is = kept_next command c rows k n next is

-- other callers have the rows that they had
pub other_row : (command : Command) (c : ℕ) (rows : List CallerRow) (k : ℕ) → k ≢ c → slice_get (with_command command c rows) k ≡ slice_get rows k
other_row command c [] k other = refl
other_row command zero (first ∷ rows) zero other = absurd (other refl)
other_row command zero (first ∷ rows) (suc k) other = refl
other_row command (suc c) (first ∷ rows) zero other = refl
other_row command (suc c) (first ∷ rows) (suc k) other = other_row command c rows k (λ e. other (ap suc e))

pub as_many : (command : Command) (c : ℕ) (rows : List CallerRow) → length (with_command command c rows) ≡ length rows
as_many command c [] = refl
as_many command zero (first ∷ rows) = refl
as_many command (suc c) (first ∷ rows) = ap suc (as_many command c rows)

same_names : (command : Command) (c : ℕ) (rows : List CallerRow) → map (λ row. row.name) (with_command command c rows) ≡ map (λ row. row.name) rows
same_names command c [] = refl
same_names command zero (first ∷ rows) = refl
same_names command (suc c) (first ∷ rows) = ap (λ names. first.name ∷ names) (same_names command c rows)

same_for_each : {A : Type 0} (x : A) (command : Command) (c : ℕ) (rows : List CallerRow) → map (λ row. x) (with_command command c rows) ≡ map (λ row. x) rows
same_for_each x command c [] = refl
same_for_each x command zero (first ∷ rows) = refl
same_for_each x command (suc c) (first ∷ rows) = ap (λ l. x ∷ l) (same_for_each x command c rows)

-- a caller with a longer script is one still, where there is room for a command of the plan
all_longer : {A : Type 0} (test : A → Bool) (xs : List A) (x : A) → list_all test xs ≡ true → test x ≡ true → list_all test (xs ++ x ∷ []) ≡ true
all_longer test [] x all one = rw one refl
all_longer test (y ∷ xs) x all one = let p = and_parts (test y) (list_all test xs) all in rw (p.0, all_longer test xs x p.1 one) refl

one_longer : {A : Type 0} (xs : List A) (x : A) → length (xs ++ x ∷ []) ≡ length xs + 1
one_longer [] x = refl
one_longer (y ∷ xs) x = let longer_by_one = one_longer xs x in omega (arith, longer_by_one)

still_caller : (devices : ℕ) (command : Command) (row : CallerRow) → length row.script < MAX_COMMANDS → is_command devices command ≡ true → is_caller devices row ≡ true
    → is_caller devices (longer command row) ≡ true
still_caller devices command row room of_plan is =
    let p = and_parts (is_caller_name row.name) (is_script devices row.script) is in
    let q = and_parts (nat_le (length row.script) MAX_COMMANDS) (list_all (is_command devices) row.script) p.1 in
    let many = one_longer row.script command in
    let few : nat_le (length (row.script ++ command ∷ [])) MAX_COMMANDS ≡ true = grind (arith, common_steps, many) in
    rw (p.0, few, all_longer (is_command devices) row.script command q.1 of_plan) refl

still_callers : (devices : ℕ) (command : Command) (c : ℕ) (rows : List CallerRow) → length (script_of rows c) < MAX_COMMANDS → is_command devices command ≡ true
    → list_all (is_caller devices) rows ≡ true → list_all (is_caller devices) (with_command command c rows) ≡ true
still_callers devices command c [] room of_plan all = refl
still_callers devices command zero (first ∷ rows) room of_plan all =
    let p = and_parts (is_caller devices first) (list_all (is_caller devices) rows) all in rw (still_caller devices command first room of_plan p.0, p.1) refl
still_callers devices command (suc c) (first ∷ rows) room of_plan all =
    let p = and_parts (is_caller devices first) (list_all (is_caller devices) rows) all in rw (p.0, still_callers devices command c rows room of_plan p.1) refl

front : (a b : Bool) → (a && b) ≡ true → a ≡ true
front a b both = (and_parts a b both).0

rear : (a b : Bool) → (a && b) ≡ true → b ≡ true
rear a b both = (and_parts a b both).1

callers_of : (plan : Plan) → is_plan plan.lines plan.trace plan.domains plan.devices plan.links plan.callers ≡ true → list_all (is_caller (length plan.devices)) plan.callers ≡ true
callers_of plan law = search (front, rear) depth 40

few_of : (devices : ℕ) (c : ℕ) (rows : List CallerRow) → list_all (is_caller devices) rows ≡ true → length (script_of rows c) ≤ MAX_COMMANDS
few_of devices c [] all = omega arith
few_of devices zero (first ∷ rows) all =
    let p = and_parts (is_caller devices first) (list_all (is_caller devices) rows) all in
    let q = and_parts (is_caller_name first.name) (is_script devices first.script) p.0 in
    leb-true _ _ (and_parts (nat_le (length first.script) MAX_COMMANDS) (list_all (is_command devices) first.script) q.1).0
few_of devices (suc c) (first ∷ rows) all = few_of devices c rows (and_parts (is_caller devices first) (list_all (is_caller devices) rows) all).1

pub few_commands : (plan : Plan) (c : ℕ) → length (script_of plan.callers c) ≤ MAX_COMMANDS
few_commands plan c = few_of (length plan.devices) c plan.callers (callers_of plan plan.law)

pub still_plan : (plan : Plan) (command : Command) (c : ℕ) → length (script_of plan.callers c) < MAX_COMMANDS → is_command (length plan.devices) command ≡ true
    → IsPlanWith plan (with_command command c plan.callers)
still_plan plan command c room of_plan =
    let old = callers_of plan plan.law in
    let same : list_all (is_caller (length plan.devices)) (with_command command c plan.callers) ≡ list_all (is_caller (length plan.devices)) plan.callers =
    still_callers (length plan.devices) command c plan.callers room of_plan old ∙ sym old in
    rw (as_many command c plan.callers, same_names command c plan.callers, same) plan.law

-- the plan with the longer script
abbrev pub grown : (plan : Plan) (command : Command) (c : ℕ) → IsPlanWith plan (with_command command c plan.callers) → Plan
grown plan command c law = with_callers plan (with_command command c plan.callers) law

-- an actor that stands at a stage stands there still
top_stays : (o o' : Option Stage) (stages : List Stage) (s : Stage) → (o ≡ Some s → o' ≡ Some s) → top o stages ≡ Some s → top o' stages ≡ Some s
top_stays o o' [] s stays is = stays is
top_stays o o' (x ∷ rest) s stays is = is

start_stays : (o o' : Option Command) (s : Stage) → ((next : Command) → o ≡ Some next → o' ≡ Some next)
    → option_map (λ next. stage.Helper (at.Call next)) o ≡ Some s → option_map (λ next. stage.Helper (at.Call next)) o' ≡ Some s
start_stays None o' s stays is = cc is
start_stays (Some next) o' s stays is = rw (stays next refl) is

stage_stays : (plan : Plan) (command : Command) (c : ℕ) (law : IsPlanWith plan (with_command command c plan.callers)) (w : World) (actor : ActorId) (s : Stage)
    → stage_at plan w actor ≡ Some s → stage_at (grown plan command c law) w actor ≡ Some s
stage_stays plan command c law w (Caller k) s stands =
    top_stays (ready plan w (Caller k)) (ready (grown plan command c law) w (Caller k)) (place w (Caller k)) s
    (start_stays _ _ s (λ next is. kept_next command c plan.callers k (called_by w k) next is)) stands
stage_stays plan command c law w (Work d) s stands = stands
stage_stays plan command c law w (Timer d) s stands = stands

-- so a list leads where it led, and is lawful still
pub record Stays (plan plan' : Plan) (h : History) : Type 0 where
  pub same : world plan' h ≡ world plan h
  pub lawful : IsLawful plan' h

same_start : (plan : Plan) (command : Command) (c : ℕ) (law : IsPlanWith plan (with_command command c plan.callers)) → start (grown plan command c law) ≡ start plan
same_start plan command c law =
    let none : List Stage = [] in
    rw (same_for_each none command c plan.callers, same_for_each {A = ℕ} 0 command c plan.callers) refl

stays_with : (plan : Plan) (command : Command) (c : ℕ) (law : IsPlanWith plan (with_command command c plan.callers)) (h : History) (line : Line) → Stays plan (grown plan command c law) h
    → Permits plan h line → length h < plan.lines → Stays plan (grown plan command c law) (line ∷ h)
stays_with plan command c law h line before p room =
    let plan' = grown plan command c law in
    let w = world plan h in
    let callers = with_command command c plan.callers in
    let stands : stage_at plan' w line.actor ≡ Some p.stage = stage_stays plan command c law w line.actor p.stage p.stands in
    let permits : Permits plan' h line = record {
      stage = p.stage;
      stands = subst (λ (x : World). stage_at plan' x line.actor ≡ Some p.stage) (sym before.same) stands;
      change = p.change;
      next = p.next;
      gives = subst (λ (x : World). move plan' x.views p.stage line.time ≡ Some (Write line.event p.change p.next)) (sym before.same) (same_move plan callers law w.views p.stage line.time ∙ p.gives);
      in_time = p.in_time;
    } in
    let rows : row_at plan' w line.actor line.time ≡ row_at plan w line.actor line.time = rw (stands, p.stands) (same_row plan callers law w.views p.stage line.time) in
    record {
      same =
          ap (λ (x : World). after_line plan' x line (row_at plan' x line.actor line.time)) before.same ∙ ap (after_line plan' w line) rows
          ∙ same_after plan callers law w line (row_at plan w line.actor line.time);
      lawful = (permits, room, before.lawful);
    }

pub stays : (plan : Plan) (command : Command) (c : ℕ) (law : IsPlanWith plan (with_command command c plan.callers)) (h : History) → IsLawful plan h → Stays plan (grown plan command c law) h
stays plan command c law [] lawful = record { same = same_start plan command c law; lawful = tt }
stays plan command c law (line ∷ h) (p, room, lawful) = stays_with plan command c law h line (stays plan command c law h lawful) p room
