-- Which statuses a command over a plan may answer, by what its plan's file has.
use Rattle.std.proofs.Common.{◌≡◌, ℕ, ◌<◌, Bool, List, None, Some, Err, Ok, length, refl, lit<, subst, ◌∙◌, sym}
use Rattle.std.specs.Prelude.{Contains, IsErr, IsNone, IsOk, IsTrue}
use Rattle.std.specs.declared.option.Option.{Option}
use Rattle.std.proofs.lemmas.Bool.{lt-ltb}
use Rattle.pm_base.specs.declared.limits.TheConstants.{PLAN_BYTES}
use Rattle.pm_model.specs.declared.plan.Plan.{Plan}
use Rattle.pm_planread.specs.declared.refusal.PlanFault.TheVariants as plan
use Rattle.pm_planread.specs.declared.refusal.PlanWhy.TheVariants.{TooLong}
use Rattle.pm_planread.specs.PlanOf.{contents_of, plan_of}
use Rattle.pm_planread.specs.declared.tree.place.Section.TheVariants.{Top}
use Rattle.pm_serial.specs.declared.running.End.{End}
use Rattle.pm_serial.specs.declared.running.End.TheVariants as end
use Rattle.pm_cmd_top.specs.Runs.{RunEnds, SerialEnds, cut, run_ending, whole}
use Rattle.pm_cmd_ends.specs.Ending.{Answered, Ending, Failed, Taking, TookTextPart, ended, no_memory, status_of, text_of, unread, unwritten}
use Rattle.pm_cmd_ends.specs.Reading.{OfBytes, OfPlan, held, read, refused, too_long}
use Rattle.pm_cmd_ends.specs.declared.ending.TheConstants.{NO_MEMORY, REFUSED}
use Rattle.pm_cmd_top.specs.Commands.{CheckEnds, MakeEnds}
use Rattle.pm_cmd_ends.specs.Told.{IsNoPlan, IsPlan}
use Rattle.pm_cmd_top.specs.answers.Complete.{count_statuses, refused_statuses, run_statuses}

-- an ending of which nothing is written
pub record IsRefusal (ending : Ending) : Type 0 where
  pub status : status_of ending ≡ REFUSED
  pub no_text : text_of ending ≡ None

-- where each ending of a command is a refusal
pub refusals : (Ends : Ending → Type 0) (status : ℕ) (Unread : Type 0) (out err : Taking) → ((ending : Ending) → Ends ending → IsRefusal ending) → Answered Ends status Unread out err → Contains refused_statuses status
refusals Ends status Unread out err refuses (ended ending ends is took told) = rw (is ∙ (refuses ending ends).status) (0, lit< tt, refl)
refusals Ends status Unread out err refuses (unread is by nothing told) = rw is (1, lit< tt, refl)
refusals Ends status Unread out err refuses (unwritten ending ends is failed part told) = absurd (subst (TookTextPart out) (refuses ending ends).no_text part)
refusals Ends status Unread out err refuses (no_memory is nothing told) = rw is (2, lit< tt, refl)

-- where neither reading nor writing fails, and each ending of a command has one of these statuses
pub own_statuses : (Ends : Ending → Type 0) (statuses : List ℕ) (status : ℕ) (Unread : Type 0) (out err : Taking) → ¬ Unread → ¬ Failed out
    → Contains statuses NO_MEMORY → ((ending : Ending) → Ends ending → Contains statuses (status_of ending))
    → Answered Ends status Unread out err → Contains statuses status
own_statuses Ends statuses status Unread out err no_read no_write memory own (ended ending ends is took told) = rw is (own ending ends)
own_statuses Ends statuses status Unread out err no_read no_write memory own (unread is by nothing told) = absurd (no_read by)
own_statuses Ends statuses status Unread out err no_read no_write memory own (unwritten ending ends is failed part told) = absurd (no_write failed)
own_statuses Ends statuses status Unread out err no_read no_write memory own (no_memory is nothing told) = rw is memory

-- a refusal of the plan, or one of the command
bytes_refusal : {Ends : Plan → Ending → Type 0} {bytes : List ℕ} {ending : Ending} → ((plan : Plan) → Ends plan ending → IsRefusal ending) → OfBytes Ends bytes ending → IsRefusal ending
bytes_refusal own (refused why section item part is) = record { status = refl; no_text = refl }
bytes_refusal own (read plan is ending ends) = own plan ends

pub plan_refusal : {Ends : Plan → Ending → Type 0} {all : Bool} {told : Option (List ℕ)} {ending : Ending} → ((plan : Plan) → Ends plan ending → IsRefusal ending) → OfPlan all told Ends ending → IsRefusal ending
plan_refusal own (too_long long) = record { status = refl; no_text = refl }
plan_refusal own (held known holds ending ends) = bytes_refusal own ends

-- a plan that is refused, or isn't there
bytes_refused : {Ends : Plan → Ending → Type 0} {bytes : List ℕ} {ending : Ending} → IsErr (plan_of bytes) → OfBytes Ends bytes ending → IsRefusal ending
bytes_refused is_no (refused why section item part is) = record { status = refl; no_text = refl }
bytes_refused is_no (read plan is ending ends) = let bad = rw is at is_no in cc

pub plan_refused : {Ends : Plan → Ending → Type 0} {all : Bool} (told : Option (List ℕ)) {ending : Ending} → IsNoPlan told → OfPlan all told Ends ending → IsRefusal ending
plan_refused None is_no ends = absurd is_no
plan_refused (Some bytes) is_no (too_long long) = record { status = refl; no_text = refl }
plan_refused (Some bytes) is_no (held known holds ending ends) = bytes_refused (subst (λ (b : List ℕ). IsErr (plan_of b)) (sym holds.told_so) is_no) ends

pub plan_missing : {Ends : Plan → Ending → Type 0} {all : Bool} (told : Option (List ℕ)) {ending : Ending} → IsTrue all → IsNone told → OfPlan all told Ends ending → IsRefusal ending
plan_missing (Some bytes) all_told none ends = let bad = none in cc
plan_missing None all_told none (too_long long) = record { status = refl; no_text = refl }
plan_missing None all_told none (held known holds ending ends) = let there = holds.is_there all_told in cc

-- what a command over a plan's file comes to, where its bytes are a plan
pub record IsEndOver (told : Option (List ℕ)) (Ends : Plan → Ending → Type 0) (ending : Ending) : Type 0 where
  pub bytes : List ℕ
  pub told_so : told ≡ Some bytes
  pub plan : Plan
  pub is : plan_of bytes ≡ Ok (contents_of plan)
  pub ends : Ends plan ending

too_long_refused : (bytes : List ℕ) → PLAN_BYTES < length bytes → plan_of bytes ≡ Err (plan.Refused TooLong Top 0 0)
unfolding plan_of
too_long_refused bytes long = rw (lt-ltb PLAN_BYTES (length bytes) long)

over_bytes : {Ends : Plan → Ending → Type 0} {bytes : List ℕ} {ending : Ending} → IsOk (plan_of bytes) → OfBytes Ends bytes ending → IsEndOver (Some bytes) Ends ending
over_bytes is_one (refused why section item part is) = let bad = rw is at is_one in cc
over_bytes {bytes = bytes} is_one (read plan is ending ends) = record { bytes = bytes; told_so = refl; plan = plan; is = is; ends = ends }

pub over_plan : {Ends : Plan → Ending → Type 0} {all : Bool} (told : Option (List ℕ)) {ending : Ending} → IsPlan told → OfPlan all told Ends ending → IsEndOver told Ends ending
over_plan None is_one ends = absurd is_one
over_plan (Some bytes) is_one (too_long long) = let bad = rw (too_long_refused bytes long.longer) at is_one in cc
over_plan {Ends} (Some bytes) is_one (held known holds ending ends) =
    subst (λ (b : List ℕ). IsEndOver (Some b) Ends ending) holds.told_so (over_bytes (subst (λ (b : List ℕ). IsOk (plan_of b)) (sym holds.told_so) is_one) ends)

-- the own statuses of the commands over a plan alone
ran : (e : End) (ending : Ending) (text : List ℕ) → ending ≡ run_ending e text → Contains run_statuses (status_of ending)
ran end.Finished ending text is = rw is (0, lit< tt, refl)
ran end.AtLimit ending text is = rw is (1, lit< tt, refl)

ran_by_threads : (plan : Plan) (ending : Ending) → RunEnds plan ending → Contains run_statuses (status_of ending)
ran_by_threads plan ending (whole lines run) = (0, lit< tt, refl)
ran_by_threads plan ending (cut run) = (1, lit< tt, refl)

pub serial_statuses : {all : Bool} (told : Option (List ℕ)) → IsPlan told → (ending : Ending) → OfPlan all told SerialEnds ending → Contains run_statuses (status_of ending)
serial_statuses told is_one ending ends = let over = over_plan told is_one ends in ran over.ends.end_of ending _ over.ends.is

pub thread_statuses : {all : Bool} (told : Option (List ℕ)) → IsPlan told → (ending : Ending) → OfPlan all told RunEnds ending → Contains run_statuses (status_of ending)
thread_statuses told is_one ending ends = let over = over_plan told is_one ends in ran_by_threads over.plan ending over.ends

pub check_statuses : {all : Bool} (told : Option (List ℕ)) → IsPlan told → (ending : Ending) → OfPlan all told CheckEnds ending → Contains count_statuses (status_of ending)
check_statuses told is_one ending ends = let over = over_plan told is_one ends in rw over.ends.is (0, lit< tt, refl)

pub make_statuses : {number devices : ℕ} (ending : Ending) → MakeEnds number devices ending → Contains run_statuses (status_of ending)
make_statuses ending ends = ran ends.end_of ending _ ends.is
