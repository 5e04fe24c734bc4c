-- Which statuses a command may answer, by what its files have.
use Rattle.std.proofs.Common.{ℕ, Bool, List, None, Some, inl, inr, refl, lit<}
use Rattle.std.specs.Prelude.{Contains, IfSome, IsTrue}
use Rattle.std.specs.declared.option.Option.{Option}
use Rattle.pm_cmd_ends.specs.Ending.{Answered, Ending, Failed, Taking, status_of}
use Rattle.pm_cmd_ends.specs.declared.ending.TheConstants.{NO_MEMORY}
use Rattle.pm_cmd_ends.specs.Request.{Asked, Audit, Check, Convert, Desk, Make, Run, Serial, Times, Why}
use Rattle.pm_cmd_top.specs.Commands.{AskedEnds}
use Rattle.pm_cmd_top.specs.answers.Complete.{HasAll, IsMissing, IsRefused, statuses_of}
use Rattle.pm_cmd_top.proofs.answers.PlanStatuses.{IsRefusal, check_statuses, make_statuses, own_statuses, plan_missing, plan_refusal, plan_refused, serial_statuses, thread_statuses}
use Rattle.pm_cmd_top.proofs.answers.TraceStatuses.{audit_statuses, convert_statuses, times_statuses, trace_long, trace_missing, why_statuses, why_trace_refused, why_unknown}

asked_statuses : (all : Bool) (told : List ℕ → Option (List ℕ)) (asked : Asked) (ending : Ending) → HasAll told asked → AskedEnds all told asked ending → Contains (statuses_of asked) (status_of ending)
asked_statuses all told (Serial plan) ending has ends = serial_statuses (told plan) has ending ends
asked_statuses all told (Run plan hands) ending has ends = thread_statuses (told plan) has ending ends
asked_statuses all told (Desk plan) ending has ends = thread_statuses (told plan) has ending ends
asked_statuses all told (Make number devices) ending has ends = make_statuses ending ends
asked_statuses all told (Check plan) ending has ends = check_statuses (told plan) has ending ends
asked_statuses all told (Audit plan trace) ending has ends = audit_statuses (told plan) (told trace) has.0 has.1 ending ends
asked_statuses all told (Convert plan trace) ending has ends = convert_statuses (told plan) (told trace) has.0 has.1 ending ends
asked_statuses all told (Times plan trace) ending has ends = times_statuses (told plan) (told trace) has.0 has.1 ending ends
asked_statuses all told (Why plan trace device) ending has ends = why_statuses (told plan) (told trace) device has.0 has.1 ending ends

-- each may answer that memory ran out
any_memory : (asked : Asked) → Contains (statuses_of asked) NO_MEMORY
any_memory (Serial plan) = (2, lit< tt, refl)
any_memory (Run plan hands) = (2, lit< tt, refl)
any_memory (Desk plan) = (2, lit< tt, refl)
any_memory (Make number devices) = (2, lit< tt, refl)
any_memory (Check plan) = (1, lit< tt, refl)
any_memory (Audit plan trace) = (2, lit< tt, refl)
any_memory (Convert plan trace) = (2, lit< tt, refl)
any_memory (Times plan trace) = (2, lit< tt, refl)
any_memory (Why plan trace device) = (2, lit< tt, refl)

pub asked_exactly : (all : Bool) (told : List ℕ → Option (List ℕ)) (asked : Asked) (status : ℕ) (Unread : Type 0) (out err : Taking) → HasAll told asked → ¬ Unread → ¬ Failed out
    → Answered (AskedEnds all told asked) status Unread out err → Contains (statuses_of asked) status
asked_exactly all told asked status Unread out err has no_read no_write answers =
    own_statuses (AskedEnds all told asked) (statuses_of asked) status Unread out err no_read no_write (any_memory asked) (λ ending ends. asked_statuses all told asked ending has ends) answers

-- of the command that words name
pub named_exactly : (all : Bool) (told : List ℕ → Option (List ℕ)) (named : Option Asked) (status : ℕ) (Unread : Type 0) (out err : Taking) → ¬ Unread → ¬ Failed out
    → IfSome named (λ asked. Answered (AskedEnds all told asked) status Unread out err) → IfSome named (λ asked. HasAll told asked → Contains (statuses_of asked) status)
named_exactly all told None status Unread out err no_read no_write answers = tt
named_exactly all told (Some asked) status Unread out err no_read no_write answers = λ has. asked_exactly all told asked status Unread out err has no_read no_write answers

-- a command that is refused, or whose file isn't there
pub asked_refused : (all : Bool) (told : List ℕ → Option (List ℕ)) (asked : Asked) (ending : Ending) → IsRefused told asked → AskedEnds all told asked ending → IsRefusal ending
asked_refused all told (Serial plan) ending is_no ends = plan_refused (told plan) is_no ends
asked_refused all told (Run plan hands) ending is_no ends = plan_refused (told plan) is_no ends
asked_refused all told (Desk plan) ending is_no ends = plan_refused (told plan) is_no ends
asked_refused all told (Check plan) ending is_no ends = plan_refused (told plan) is_no ends
asked_refused all told (Make number devices) ending is_no ends = absurd is_no
asked_refused all told (Audit plan trace) ending (inl is_no) ends = plan_refused (told plan) is_no ends
asked_refused all told (Audit plan trace) ending (inr long) ends = plan_refusal (λ p. trace_long (told trace) long) ends
asked_refused all told (Convert plan trace) ending (inl is_no) ends = plan_refused (told plan) is_no ends
asked_refused all told (Convert plan trace) ending (inr long) ends = plan_refusal (λ p. trace_long (told trace) long) ends
asked_refused all told (Times plan trace) ending (inl is_no) ends = plan_refused (told plan) is_no ends
asked_refused all told (Times plan trace) ending (inr long) ends = plan_refusal (λ p. trace_long (told trace) long) ends
asked_refused all told (Why plan trace device) ending (inl (inl is_no)) ends = plan_refused (told plan) is_no ends
asked_refused all told (Why plan trace device) ending (inl (inr long)) ends = plan_refusal (λ p. why_trace_refused (λ d. trace_long (told trace) long)) ends
asked_refused all told (Why plan trace device) ending (inr lacks) ends = why_unknown (told plan) (told trace) device ending lacks ends

pub asked_missing : (all : Bool) (told : List ℕ → Option (List ℕ)) (asked : Asked) (ending : Ending) → IsTrue all → IsMissing told asked → AskedEnds all told asked ending → IsRefusal ending
asked_missing all told (Serial plan) ending all_told none ends = plan_missing (told plan) all_told none ends
asked_missing all told (Run plan hands) ending all_told none ends = plan_missing (told plan) all_told none ends
asked_missing all told (Desk plan) ending all_told none ends = plan_missing (told plan) all_told none ends
asked_missing all told (Check plan) ending all_told none ends = plan_missing (told plan) all_told none ends
asked_missing all told (Make number devices) ending all_told none ends = absurd none
asked_missing all told (Audit plan trace) ending all_told (inl none) ends = plan_missing (told plan) all_told none ends
asked_missing all told (Audit plan trace) ending all_told (inr none) ends = plan_refusal (λ p. trace_missing (told trace) all_told none) ends
asked_missing all told (Convert plan trace) ending all_told (inl none) ends = plan_missing (told plan) all_told none ends
asked_missing all told (Convert plan trace) ending all_told (inr none) ends = plan_refusal (λ p. trace_missing (told trace) all_told none) ends
asked_missing all told (Times plan trace) ending all_told (inl none) ends = plan_missing (told plan) all_told none ends
asked_missing all told (Times plan trace) ending all_told (inr none) ends = plan_refusal (λ p. trace_missing (told trace) all_told none) ends
asked_missing all told (Why plan trace device) ending all_told (inl none) ends = plan_missing (told plan) all_told none ends
asked_missing all told (Why plan trace device) ending all_told (inr none) ends = plan_refusal (λ p. why_trace_refused (λ d. trace_missing (told trace) all_told none)) ends
