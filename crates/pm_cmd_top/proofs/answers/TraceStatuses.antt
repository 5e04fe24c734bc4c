-- Which statuses a command over a trace may answer, by what its files have.
use Rattle.std.proofs.Common.{◌≡◌, ℕ, Bool, List, None, Err, Ok, Some, ap, arith, length, map, refl, lit<, subst}
use Rattle.std.specs.Prelude.{Contains, IsNone, IsOk, IsOkAnd, IsSomeAnd, IsTrue, slice_get}
use Rattle.std.proofs.lemmas.Option.{get_or_from_slice_get, slice_get_within}
use Rattle.std.specs.declared.option.Option.{Option}
use Rattle.std.specs.declared.result.Result.{Result}
use Rattle.pm_base.specs.declared.DevId.{DevId}
use Rattle.pm_model.specs.declared.plan.Plan.{Plan}
use Rattle.pm_model.specs.History.{History}
use Rattle.pm_planread.specs.PlanOf.{Contents, contents_of, plan_of}
use Rattle.pm_planread.specs.declared.refusal.PlanFault.{PlanFault}
use Rattle.pm_cmd_ends.specs.Ending.{Ending, status_of}
use Rattle.pm_cmd_ends.specs.Reading.{OfPlan}
use Rattle.pm_cmd_ends.specs.declared.ending.TheConstants.{DONE, NOT_LAWFUL}
use Rattle.pm_cmd_top.specs.TraceCommands.{AuditEnds, OfAudit, OfConvert, OfDevice, OfTimes, OfWhy, is_finished, is_open, named, unknown}
use Rattle.pm_cmd_top.specs.Traces.{OfTrace, bad, stands, too_many}
use Rattle.pm_cmd_ends.specs.Told.{HasDevice, IsPlan, LacksDevice, Names}
use Rattle.pm_cmd_top.specs.answers.Complete.{IsLong, IsShort, trace_statuses}
use Rattle.pm_cmd_top.proofs.answers.PlanStatuses.{IsEndOver, IsRefusal, over_plan}

-- a trace of no more bytes than it may have: it is the text of no lawful list, or the command is done with its list
over_trace : {all : Bool} (told : Option (List ℕ)) {plan : Plan} {refuse : List ℕ → Ending} {Ends : History → Ending → Type 0} {ending : Ending} → IsShort told → ((line : List ℕ) → status_of (refuse line) ≡ NOT_LAWFUL)
    → ((h : History) (e : Ending) → Ends h e → status_of e ≡ DONE) → OfTrace all told plan refuse Ends ending → Contains trace_statuses (status_of ending)
over_trace None has refuses done ends = absurd has
over_trace (Some trace) has refuses done (too_many long) = absurd (omega (arith, has, long.longer))
over_trace (Some trace) has refuses done (bad bytes holds n why is) = rw (refuses _) (1, lit< tt, refl)
over_trace (Some trace) has refuses done (stands bytes holds h lawful stands_for ending ends) = rw (done h ending ends) (0, lit< tt, refl)

audit_done : (plan : Plan) (h : History) (e : Ending) → AuditEnds plan h e → status_of e ≡ DONE
audit_done plan h e (is_finished kept finished) = refl
audit_done plan h e (is_open kept unfinished) = refl

pub audit_statuses : {all : Bool} (told trace : Option (List ℕ)) → IsPlan told → IsShort trace → (ending : Ending) → OfPlan all told (OfAudit all trace) ending → Contains trace_statuses (status_of ending)
audit_statuses told trace is_one has ending ends = let over = over_plan told is_one ends in over_trace trace has (λ line. refl) (audit_done over.plan) over.ends

pub convert_statuses : {all : Bool} (told trace : Option (List ℕ)) → IsPlan told → IsShort trace → (ending : Ending) → OfPlan all told (OfConvert all trace) ending → Contains trace_statuses (status_of ending)
convert_statuses told trace is_one has ending ends = over_trace trace has (λ line. refl) (λ h e is. ap status_of is) (over_plan told is_one ends).ends

pub times_statuses : {all : Bool} (told trace : Option (List ℕ)) → IsPlan told → IsShort trace → (ending : Ending) → OfPlan all told (OfTimes all trace) ending → Contains trace_statuses (status_of ending)
times_statuses told trace is_one has ending ends = over_trace trace has (λ line. refl) (λ h e times. ap status_of times.is) (over_plan told is_one ends).ends

-- what is found at a place of a list is in it
pub found : {X : Type 0} (xs : List X) (k : ℕ) (x : X) → slice_get xs k ≡ Some x → Contains xs x
found xs k x is = (k, slice_get_within xs k x is, get_or_from_slice_get xs k x x is)

-- bytes of which something is said as of a plan are one
is_read : (P : Contents → Type 0) (read : Result Contents PlanFault) → IsOkAnd read P → IsOk read
is_read P (Ok plan) holds = refl
is_read P (Err fault) holds = absurd holds

is_plan : (told : Option (List ℕ)) (P : Contents → Type 0) → IsSomeAnd told (λ bytes. IsOkAnd (plan_of bytes) P) → IsPlan told
is_plan None P holds = absurd holds
is_plan (Some bytes) P holds = is_read P (plan_of bytes) holds

-- the contents of the plan that is read
of_contents : {Ends : Plan → Ending → Type 0} {ending : Ending} (told : Option (List ℕ)) (P : Contents → Type 0) → IsSomeAnd told (λ bytes. IsOkAnd (plan_of bytes) P) → (over : IsEndOver told Ends ending) → P (contents_of over.plan)
of_contents told P holds over =
    let known = subst (λ (o : Option (List ℕ)). IsSomeAnd o (λ bytes. IsOkAnd (plan_of bytes) P)) over.told_so holds in
    subst (λ (r : Result Contents PlanFault). IsOkAnd r P) over.is known

over_why : {all : Bool} (trace : Option (List ℕ)) {name : List ℕ} {plan : Plan} {ending : Ending} → Contains (map (λ row. row.name) plan.devices) name → IsShort trace → OfWhy all trace name plan ending → Contains trace_statuses (status_of ending)
over_why trace known has (unknown none) = absurd (none known)
over_why trace known has (named d is ending ends) = over_trace trace has (λ line. refl) (λ h e is. ap status_of is) ends

pub why_statuses : {all : Bool} (told trace : Option (List ℕ)) (name : List ℕ) → HasDevice told name → IsShort trace → (ending : Ending) → OfPlan all told (OfWhy all trace name) ending → Contains trace_statuses (status_of ending)
why_statuses told trace name device has ending ends =
    let over = over_plan told (is_plan told (Names name) device) ends in
    over_why trace (of_contents told (Names name) device over) has over.ends

-- a trace of too many bytes, or that isn't there
pub trace_long : {all : Bool} (told : Option (List ℕ)) {plan : Plan} {refuse : List ℕ → Ending} {Ends : History → Ending → Type 0} {ending : Ending} → IsLong told → OfTrace all told plan refuse Ends ending → IsRefusal ending
trace_long None long ends = absurd long
trace_long (Some trace) long (too_many is_long) = record { status = refl; no_text = refl }
trace_long (Some trace) long (bad bytes holds n why is) = absurd (omega (arith, long, holds.within, ap length holds.told_so))
trace_long (Some trace) long (stands bytes holds h lawful stands_for ending ends) = absurd (omega (arith, long, holds.within, ap length holds.told_so))

pub trace_missing : {all : Bool} (told : Option (List ℕ)) {plan : Plan} {refuse : List ℕ → Ending} {Ends : History → Ending → Type 0} {ending : Ending} → IsTrue all → IsNone told → OfTrace all told plan refuse Ends ending → IsRefusal ending
trace_missing (Some trace) all_told none ends = let bad = none in cc
trace_missing None all_told none (too_many is_long) = record { status = refl; no_text = refl }
trace_missing None all_told none (bad bytes holds n why is) = let there = holds.is_there all_told in cc
trace_missing None all_told none (stands bytes holds h lawful stands_for ending ends) = let there = holds.is_there all_told in cc

-- of `why`: the trace alone refuses, or no device has the name
pub why_trace_refused : {all : Bool} {trace : Option (List ℕ)} {name : List ℕ} {plan : Plan} {ending : Ending} → ((d : DevId) → OfDevice all trace plan d ending → IsRefusal ending) → OfWhy all trace name plan ending → IsRefusal ending
why_trace_refused refuses (unknown none) = record { status = refl; no_text = refl }
why_trace_refused refuses (named d is ending ends) = refuses d ends

unknown_refused : {all : Bool} {trace : Option (List ℕ)} {name : List ℕ} {plan : Plan} {ending : Ending} → ¬ Names name (contents_of plan) → OfWhy all trace name plan ending → IsRefusal ending
unknown_refused none (unknown same) = record { status = refl; no_text = refl }
unknown_refused {name = name} {plan = plan} none (named d is ending ends) = absurd (none (found (map (λ row. row.name) plan.devices) d.0 name is))

pub why_unknown : {all : Bool} (told trace : Option (List ℕ)) (name : List ℕ) (ending : Ending) → LacksDevice told name → OfPlan all told (OfWhy all trace name) ending → IsRefusal ending
why_unknown told trace name ending lacks ends =
    let none : Contents → Type 0 = λ plan. ¬ Names name plan in
    let over = over_plan told (is_plan told none lacks) ends in
    unknown_refused (of_contents told none lacks over) over.ends
