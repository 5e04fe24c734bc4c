-- What the status of each command says.
use Rattle.std.proofs.Common.{◌≡◌, ◌∙◌, ◌≢◌, ◌<◌, ◌≤◌, ◌⊎◌, ℕ, Bool, List, Option, None, Some, Ok, Err, length, map, reverse, slice_get, inl, inr, ap, arith, refl, subst, sym}
use Rattle.std.specs.Prelude.{Contains, IsErr, IsOk, IsOkAnd, Result}
use Rattle.std.proofs.lemmas.Bool.{false≢true, lt-ltb}
use Rattle.pm_io.specs.Faults.{Rose}
use Rattle.pm_base.specs.declared.DevId.{DevId}
use Rattle.pm_model.specs.declared.event.Line.{Line}
use Rattle.pm_model.specs.declared.plan.Plan.{Plan}
use Rattle.pm_model.specs.FirstBad.{IsFirstBad, IsLawfulText}
use Rattle.pm_model.specs.History.{History}
use Rattle.pm_model.specs.Lawful.{IsFinished}
use Rattle.pm_model.specs.Serial.{serial}
use Rattle.pm_model.specs.Text.{text}
use Rattle.pm_make.specs.Generator.{IsGenerated}
use Rattle.pm_planread.specs.PlanOf.{Contents, contents_of, plan_of}
use Rattle.pm_planread.specs.declared.refusal.PlanFault.{PlanFault}
use Rattle.pm_law_texts.proofs.Walk.{not_both}
use Rattle.pm_report.specs.Report.{summary, summary_text}
use Rattle.pm_serial.specs.declared.running.End.{End}
use Rattle.pm_serial.specs.declared.running.End.TheVariants as end
use Rattle.pm_cmd_ends.specs.Ending.{Answered, Ending, Failed, NotLawful, Taking, Took, TookText, ended, no_memory, status_of, text_of, unread, unwritten}
use Rattle.pm_cmd_ends.specs.Reading.{OfBytes, OfPlan, held, read, refused, too_long}
use Rattle.pm_cmd_top.specs.Commands.{CheckEnds, MakeEnds}
use Rattle.pm_cmd_top.specs.Runs.{IsRun, RunEnds, SerialEnds, cut, run_ending, whole}
use Rattle.pm_cmd_top.specs.TraceCommands.{AuditEnds, ConvertEnds, OfWhy, TimesEnds, WhyEnds, is_finished, is_open, named, unknown}
use Rattle.pm_cmd_top.specs.Traces.{OfTrace, bad, stands, too_many}
use Rattle.pm_cmd_ends.specs.Told.{HasDevice, LacksDevice, Names}
use Rattle.pm_cmd_top.specs.answers.Page.{AreThePlan, Exactly, FinishesAlone, IsBadTrace, IsCutAlone, IsLawfulTrace, IsRefusedTrace, IsRefusedWhy, IsUndisturbed, MadeFinishes, MadeIsCut, TookAlone, TookSomeRun}
use Rattle.pm_cmd_top.proofs.answers.AuditLemmas.{read_alike}
use Rattle.pm_cmd_top.proofs.answers.TraceStatuses.{found}

pub zero_six : ◌≢◌ {A = ℕ} 0 6
zero_six is = omega (arith, is)

pub zero_one : ◌≢◌ {A = ℕ} 0 1
zero_one is = omega (arith, is)

pub zero_three : ◌≢◌ {A = ℕ} 0 3
zero_three is = omega (arith, is)

pub one_three : ◌≢◌ {A = ℕ} 1 3
one_three is = omega (arith, is)

pub six_three : ◌≢◌ {A = ℕ} 6 3
six_three is = omega (arith, is)

-- of three things that exclude one another one comes, each with its own status
pub data OneOf (status a b c : ℕ) (A B C : Type 0) : Type 0 where
  the_first : status ≡ a → A → OneOf status a b c A B C
  the_second : status ≡ b → B → OneOf status a b c A B C
  the_third : status ≡ c → C → OneOf status a b c A B C

pub first_exactly : (status a b c : ℕ) (A B C : Type 0) → a ≢ b → a ≢ c → (A → B → ⊥) → (A → C → ⊥) → OneOf status a b c A B C → Exactly status a A
first_exactly status a b c A B C ab ac no_b no_c (the_first is has) = (λ s. has, λ h. is)
first_exactly status a b c A B C ab ac no_b no_c (the_second is has) = (λ s. absurd (ab (sym s ∙ is)), λ h. absurd (no_b h has))
first_exactly status a b c A B C ab ac no_b no_c (the_third is has) = (λ s. absurd (ac (sym s ∙ is)), λ h. absurd (no_c h has))

pub second_exactly : (status a b c : ℕ) (A B C : Type 0) → a ≢ b → b ≢ c → (A → B → ⊥) → (B → C → ⊥) → OneOf status a b c A B C → Exactly status b B
second_exactly status a b c A B C ab bc no_b no_c (the_first is has) = (λ s. absurd (ab (sym is ∙ s)), λ h. absurd (no_b has h))
second_exactly status a b c A B C ab bc no_b no_c (the_second is has) = (λ s. has, λ h. is)
second_exactly status a b c A B C ab bc no_b no_c (the_third is has) = (λ s. absurd (bc (sym s ∙ is)), λ h. absurd (no_c h has))

pub third_exactly : (status a b c : ℕ) (A B C : Type 0) → a ≢ c → b ≢ c → (A → C → ⊥) → (B → C → ⊥) → OneOf status a b c A B C → Exactly status c C
third_exactly status a b c A B C ac bc no_a no_b (the_first is has) = (λ s. absurd (ac (sym is ∙ s)), λ h. absurd (no_a has h))
third_exactly status a b c A B C ac bc no_a no_b (the_second is has) = (λ s. absurd (bc (sym is ∙ s)), λ h. absurd (no_b has h))
third_exactly status a b c A B C ac bc no_a no_b (the_third is has) = (λ s. has, λ h. is)

-- what the first two come with
pub first_has : (status a b c : ℕ) (A B C : Type 0) → a ≢ b → a ≢ c → OneOf status a b c A B C → status ≡ a → A
first_has status a b c A B C ab ac (the_first is has) s = has
first_has status a b c A B C ab ac (the_second is has) s = absurd (ab (sym s ∙ is))
first_has status a b c A B C ab ac (the_third is has) s = absurd (ac (sym s ∙ is))

pub second_has : (status a b c : ℕ) (A B C : Type 0) → a ≢ b → b ≢ c → OneOf status a b c A B C → status ≡ b → B
second_has status a b c A B C ab bc (the_first is has) s = absurd (ab (sym is ∙ s))
second_has status a b c A B C ab bc (the_second is has) s = has
second_has status a b c A B C ab bc (the_third is has) s = absurd (bc (sym s ∙ is))

-- the ending of a call that nothing disturbed
pub record IsEnded (Ends : Ending → Type 0) (status : ℕ) (out : Taking) : Type 0 where
  pub ending : Ending
  pub ends : Ends ending
  pub is : status ≡ status_of ending
  pub took : TookText out (text_of ending)

pub ended_well : (Ends : Ending → Type 0) (status : ℕ) (Unread : Type 0) (out err : Taking) → ¬ Unread → ¬ Failed out → status ≢ 7 → Answered Ends status Unread out err → IsEnded Ends status out
ended_well Ends status Unread out err no_read no_write memory (ended ending ends is took told) = record { ending = ending; ends = ends; is = is; took = took }
ended_well Ends status Unread out err no_read no_write memory (unread is by nothing told) = absurd (no_read by)
ended_well Ends status Unread out err no_read no_write memory (unwritten ending ends is failed part told) = absurd (no_write failed)
ended_well Ends status Unread out err no_read no_write memory (no_memory is nothing told) = absurd (memory is)

-- the bytes are a plan, over which the command has an ending of its own; or they are none
pub data Reads (bytes : List ℕ) (Ends : Plan → Ending → Type 0) (ending : Ending) : Type 0 where
  a_plan : (plan : Plan) → AreThePlan bytes plan → Ends plan ending → Reads bytes Ends ending
  no_plan : IsErr (plan_of bytes) → status_of ending ≡ 3 → Reads bytes Ends ending

reads_bytes : {Ends : Plan → Ending → Type 0} {bytes : List ℕ} {ending : Ending} → OfBytes Ends bytes ending → Reads bytes Ends ending
reads_bytes (refused why section item part is) = no_plan (rw is refl) refl
reads_bytes (read plan is ending ends) = a_plan plan is ends

too_long_none : (bytes : List ℕ) → 1048576 < length bytes → IsErr (plan_of bytes)
unfolding plan_of
too_long_none bytes long = rw (lt-ltb 1048576 (length bytes) long) refl

pub reads : {Ends : Plan → Ending → Type 0} {all : Bool} (bytes : List ℕ) {ending : Ending} → OfPlan all (Some bytes) Ends ending → Reads bytes Ends ending
reads bytes (too_long long) = no_plan (too_long_none bytes long.longer) refl
reads {Ends} bytes (held known holds ending ends) = subst (λ (b : List ℕ). Reads b Ends ending) holds.told_so (reads_bytes ends)

-- bytes that are a plan are not none
pub not_none : (bytes : List ℕ) (plan : Plan) → AreThePlan bytes plan → IsErr (plan_of bytes) → ⊥
not_none bytes plan is none = let clash = rw is at none in cc

pub is_one : (bytes : List ℕ) (plan : Plan) → AreThePlan bytes plan → IsOk (plan_of bytes)
is_one bytes plan is = rw is refl

clash : (r : Result Contents PlanFault) → IsOk r → IsErr r → ⊥
clash (Ok c) one none = let bad = none in cc
clash (Err f) one none = let bad = one in cc

pub ok_not_none : (bytes : List ℕ) → IsOk (plan_of bytes) → IsErr (plan_of bytes) → ⊥
ok_not_none bytes one none = clash (plan_of bytes) one none

-- `serial`
serial_one : (bytes : List ℕ) (plan : Plan) (ending : Ending) (status : ℕ) → AreThePlan bytes plan → status ≡ status_of ending → (e : End) → IsRun plan e → ending ≡ run_ending e (text plan (serial plan))
    → OneOf status 0 6 3 (FinishesAlone bytes) (IsCutAlone bytes) (IsErr (plan_of bytes))
serial_one bytes plan ending status is_plan is end.Finished run ends = the_first (is ∙ ap status_of ends) (plan, is_plan, run.ends)
serial_one bytes plan ending status is_plan is end.AtLimit run ends = the_second (is ∙ ap status_of ends) (plan, is_plan, λ finished. false≢true (sym run.ends.1 ∙ finished))

serial_reads : (bytes : List ℕ) (ending : Ending) (status : ℕ) → status ≡ status_of ending → Reads bytes SerialEnds ending → OneOf status 0 6 3 (FinishesAlone bytes) (IsCutAlone bytes) (IsErr (plan_of bytes))
serial_reads bytes ending status is (a_plan plan is_plan ends) = serial_one bytes plan ending status is_plan is ends.end_of ends.run ends.is
serial_reads bytes ending status is (no_plan none three) = the_third (is ∙ three) none

pub serial_is : (all : Bool) (bytes : List ℕ) (status old new : ℕ) (out err : Taking) → IsUndisturbed status old new out → Answered (OfPlan all (Some bytes) SerialEnds) status (Rose old new) out err
    → OneOf status 0 6 3 (FinishesAlone bytes) (IsCutAlone bytes) (IsErr (plan_of bytes))
serial_is all bytes status old new out err quiet answers =
    let it = ended_well (OfPlan all (Some bytes) SerialEnds) status (Rose old new) out err quiet.reads quiet.writes quiet.memory answers in
    serial_reads bytes it.ending status it.is (reads bytes it.ends)

pub alone_not_cut : (bytes : List ℕ) → FinishesAlone bytes → IsCutAlone bytes → ⊥
alone_not_cut bytes one other = other.2 (subst (λ (p : Plan). IsFinished p (reverse (serial p))) (read_alike bytes one.0 other.0 one.1 other.1) one.2)

serial_text : (bytes : List ℕ) (ending : Ending) (out : Taking) → IsOk (plan_of bytes) → Reads bytes SerialEnds ending → TookText out (text_of ending) → TookAlone bytes out
serial_text bytes ending out one (a_plan plan is_plan ends) took = (plan, is_plan, run_took ends.end_of ending (text plan (serial plan)) out ends.is took)
  where
    run_took : (e : End) (ending : Ending) (line : List ℕ) (out : Taking) → ending ≡ run_ending e line → TookText out (text_of ending) → Took out line
    run_took end.Finished ending line out is took = subst (λ (e : Ending). TookText out (text_of e)) is took
    run_took end.AtLimit ending line out is took = subst (λ (e : Ending). TookText out (text_of e)) is took
serial_text bytes ending out one (no_plan none three) took = absurd (ok_not_none bytes one none)

pub serial_wrote : (all : Bool) (bytes : List ℕ) (status old new : ℕ) (out err : Taking) → IsUndisturbed status old new out → Answered (OfPlan all (Some bytes) SerialEnds) status (Rose old new) out err → IsOk (plan_of bytes) → TookAlone bytes out
serial_wrote all bytes status old new out err quiet answers one =
    let it = ended_well (OfPlan all (Some bytes) SerialEnds) status (Rose old new) out err quiet.reads quiet.writes quiet.memory answers in
    serial_text bytes it.ending out one (reads bytes it.ends) it.took

-- `run` and `desk`
run_one : (bytes : List ℕ) (plan : Plan) (ending : Ending) (status : ℕ) (out : Taking) → AreThePlan bytes plan → status ≡ status_of ending → RunEnds plan ending → TookText out (text_of ending)
    → OneOf status 0 6 3 (IsOk (plan_of bytes) × TookSomeRun bytes out) (IsOk (plan_of bytes) × (IsCutAlone bytes × TookAlone bytes out)) (IsErr (plan_of bytes))
run_one bytes plan _ status out is_plan is (whole lines run) took =
    the_first is (is_one bytes plan is_plan, (plan, is_plan, (lines, record { lawful = run.lawful; of_plan = run.of_plan; finished = run.finished }, took)))
run_one bytes plan _ status out is_plan is (cut run) took =
    the_second is (is_one bytes plan is_plan, ((plan, is_plan, λ finished. false≢true (sym run.ends.1 ∙ finished)), (plan, is_plan, took)))

run_reads : (bytes : List ℕ) (ending : Ending) (status : ℕ) (out : Taking) → status ≡ status_of ending → Reads bytes RunEnds ending → TookText out (text_of ending)
    → OneOf status 0 6 3 (IsOk (plan_of bytes) × TookSomeRun bytes out) (IsOk (plan_of bytes) × (IsCutAlone bytes × TookAlone bytes out)) (IsErr (plan_of bytes))
run_reads bytes ending status out is (a_plan plan is_plan ends) took = run_one bytes plan ending status out is_plan is ends took
run_reads bytes ending status out is (no_plan none three) took = the_third (is ∙ three) none

pub run_is : (all : Bool) (bytes : List ℕ) (status old new : ℕ) (out err : Taking) → IsUndisturbed status old new out → Answered (OfPlan all (Some bytes) RunEnds) status (Rose old new) out err
    → OneOf status 0 6 3 (IsOk (plan_of bytes) × TookSomeRun bytes out) (IsOk (plan_of bytes) × (IsCutAlone bytes × TookAlone bytes out)) (IsErr (plan_of bytes))
run_is all bytes status old new out err quiet answers =
    let it = ended_well (OfPlan all (Some bytes) RunEnds) status (Rose old new) out err quiet.reads quiet.writes quiet.memory answers in
    run_reads bytes it.ending status out it.is (reads bytes it.ends) it.took

-- `check`
check_reads : (bytes : List ℕ) (ending : Ending) (status : ℕ) → status ≡ status_of ending → Reads bytes CheckEnds ending → OneOf status 0 6 3 (IsOk (plan_of bytes)) ⊥ (IsErr (plan_of bytes))
check_reads bytes ending status is (a_plan plan is_plan ends) = the_first (is ∙ ap status_of ends.is) (is_one bytes plan is_plan)
check_reads bytes ending status is (no_plan none three) = the_third (is ∙ three) none

pub check_is : (all : Bool) (bytes : List ℕ) (status old new : ℕ) (out err : Taking) → IsUndisturbed status old new out → Answered (OfPlan all (Some bytes) CheckEnds) status (Rose old new) out err
    → OneOf status 0 6 3 (IsOk (plan_of bytes)) ⊥ (IsErr (plan_of bytes))
check_is all bytes status old new out err quiet answers =
    let it = ended_well (OfPlan all (Some bytes) CheckEnds) status (Rose old new) out err quiet.reads quiet.writes quiet.memory answers in
    check_reads bytes it.ending status it.is (reads bytes it.ends)

-- `make`
make_one : (number devices : ℕ) (plan : Plan) (ending : Ending) (status : ℕ) (line : List ℕ) → IsGenerated number devices plan → status ≡ status_of ending → (e : End) → IsRun plan e → ending ≡ run_ending e line
    → OneOf status 0 6 3 (MadeFinishes number devices) (MadeIsCut number devices) ⊥
make_one number devices plan ending status line made is end.Finished run ends = the_first (is ∙ ap status_of ends) (plan, made, run.ends)
make_one number devices plan ending status line made is end.AtLimit run ends = the_second (is ∙ ap status_of ends) (plan, made, λ finished. false≢true (sym run.ends.1 ∙ finished))

pub make_is : (number devices status : ℕ) (out err : Taking) → IsUndisturbed status 0 0 out → Answered (MakeEnds number devices) status ⊥ out err
    → OneOf status 0 6 3 (MadeFinishes number devices) (MadeIsCut number devices) ⊥
make_is number devices status out err quiet answers =
    let it = ended_well (MakeEnds number devices) status ⊥ out err (λ none. none) quiet.writes quiet.memory answers in
    make_one number devices it.ends.plan it.ending status _ it.ends.generated it.is it.ends.end_of it.ends.run it.ends.is

-- one of the first two, where the third is excluded
pub one_of_two : (status a b c : ℕ) (A B C : Type 0) → ¬ C → OneOf status a b c A B C → (status ≡ a) ⊎ (status ≡ b)
one_of_two status a b c A B C none (the_first is has) = inl is
one_of_two status a b c A B C none (the_second is has) = inr is
one_of_two status a b c A B C none (the_third is has) = absurd (none has)

-- the commands over a trace
trace_one : (plan_bytes trace : List ℕ) (plan : Plan) (all : Bool) (refuse : List ℕ → Ending) (Ends : History → Ending → Type 0) (ending : Ending) (status : ℕ) → AreThePlan plan_bytes plan → status ≡ status_of ending
    → ((line : List ℕ) → status_of (refuse line) ≡ 1) → ((h : History) (e : Ending) → Ends h e → status_of e ≡ 0) → OfTrace all (Some trace) plan refuse Ends ending
    → OneOf status 0 1 3 (IsLawfulTrace plan_bytes trace) (IsBadTrace plan_bytes trace) (IsOk (plan_of plan_bytes) × (67108864 < length trace))
trace_one plan_bytes trace plan all refuse Ends _ status is_plan is refuses done (too_many long) = the_third is (is_one plan_bytes plan is_plan, long.longer)
trace_one plan_bytes trace plan all refuse Ends _ status is_plan is refuses done (bad known holds n why says) =
    the_second (is ∙ refuses _) (plan, is_plan, subst (λ (b : List ℕ). length b ≤ 67108864) holds.told_so holds.within, (n, subst (λ (b : List ℕ). IsFirstBad plan b n) holds.told_so says.0))
trace_one plan_bytes trace plan all refuse Ends _ status is_plan is refuses done (stands known holds h lawful stands_for ending ends) =
    the_first (is ∙ done h ending ends) (plan, is_plan, subst (λ (b : List ℕ). length b ≤ 67108864) holds.told_so holds.within, subst (λ (b : List ℕ). IsLawfulText plan b) holds.told_so (h, lawful, stands_for))

refused_more : (plan_bytes trace : List ℕ) (status : ℕ) → OneOf status 0 1 3 (IsLawfulTrace plan_bytes trace) (IsBadTrace plan_bytes trace) (IsOk (plan_of plan_bytes) × (67108864 < length trace))
    → OneOf status 0 1 3 (IsLawfulTrace plan_bytes trace) (IsBadTrace plan_bytes trace) (IsRefusedTrace plan_bytes trace)
refused_more plan_bytes trace status (the_first is has) = the_first is has
refused_more plan_bytes trace status (the_second is has) = the_second is has
refused_more plan_bytes trace status (the_third is has) = the_third is (inr has)

trace_reads : (plan_bytes trace : List ℕ) (all : Bool) (refuse : List ℕ → Ending) (Ends : Plan → History → Ending → Type 0) (ending : Ending) (status : ℕ) → status ≡ status_of ending
    → ((line : List ℕ) → status_of (refuse line) ≡ 1) → ((plan : Plan) (h : History) (e : Ending) → Ends plan h e → status_of e ≡ 0)
    → Reads plan_bytes (λ plan. OfTrace all (Some trace) plan refuse (Ends plan)) ending
    → OneOf status 0 1 3 (IsLawfulTrace plan_bytes trace) (IsBadTrace plan_bytes trace) (IsRefusedTrace plan_bytes trace)
trace_reads plan_bytes trace all refuse Ends ending status is refuses done (a_plan plan is_plan ends) =
    refused_more plan_bytes trace status (trace_one plan_bytes trace plan all refuse (Ends plan) ending status is_plan is refuses (done plan) ends)
trace_reads plan_bytes trace all refuse Ends ending status is refuses done (no_plan none three) = the_third (is ∙ three) (inl none)

pub trace_is : (all : Bool) (plan_bytes trace : List ℕ) (refuse : List ℕ → Ending) (Ends : Plan → History → Ending → Type 0) (status old new : ℕ) (out err : Taking) → IsUndisturbed status old new out
    → ((line : List ℕ) → status_of (refuse line) ≡ 1) → ((plan : Plan) (h : History) (e : Ending) → Ends plan h e → status_of e ≡ 0)
    → Answered (OfPlan all (Some plan_bytes) (λ plan. OfTrace all (Some trace) plan refuse (Ends plan))) status (Rose old new) out err
    → OneOf status 0 1 3 (IsLawfulTrace plan_bytes trace) (IsBadTrace plan_bytes trace) (IsRefusedTrace plan_bytes trace)
trace_is all plan_bytes trace refuse Ends status old new out err quiet refuses done answers =
    let it = ended_well (OfPlan all (Some plan_bytes) (λ plan. OfTrace all (Some trace) plan refuse (Ends plan))) status (Rose old new) out err quiet.reads quiet.writes quiet.memory answers in
    trace_reads plan_bytes trace all refuse Ends it.ending status it.is refuses done (reads plan_bytes it.ends)

-- they exclude one another
pub lawful_not_bad : (plan_bytes trace : List ℕ) → IsLawfulTrace plan_bytes trace → IsBadTrace plan_bytes trace → ⊥
lawful_not_bad plan_bytes trace one other =
    let same = read_alike plan_bytes one.0 other.0 one.1 other.1 in
    not_both other.0 trace other.3.0 (subst (λ (p : Plan). IsLawfulText p trace) same one.3) other.3.1

pub lawful_not_refused : (plan_bytes trace : List ℕ) → IsLawfulTrace plan_bytes trace → IsRefusedTrace plan_bytes trace → ⊥
lawful_not_refused plan_bytes trace one (inl none) = not_none plan_bytes one.0 one.1 none
lawful_not_refused plan_bytes trace one (inr long) = omega (arith, one.2, long.1)

pub bad_not_refused : (plan_bytes trace : List ℕ) → IsBadTrace plan_bytes trace → IsRefusedTrace plan_bytes trace → ⊥
bad_not_refused plan_bytes trace one (inl none) = not_none plan_bytes one.0 one.1 none
bad_not_refused plan_bytes trace one (inr long) = omega (arith, one.2, long.1)

pub audit_done : (plan : Plan) (h : History) (e : Ending) → AuditEnds plan h e → status_of e ≡ 0
audit_done plan h e (is_finished kept finished) = refl
audit_done plan h e (is_open kept unfinished) = refl

pub convert_done : (plan : Plan) (h : History) (e : Ending) → ConvertEnds plan h e → status_of e ≡ 0
convert_done plan h e is = ap status_of is

pub times_done : (plan : Plan) (h : History) (e : Ending) → TimesEnds plan h e → status_of e ≡ 0
times_done plan h e times = ap status_of times.is

-- `why`: the device is looked for before the trace
has_device : (plan_bytes name : List ℕ) (plan : Plan) (d : DevId) → AreThePlan plan_bytes plan → slice_get (map (λ row. row.name) plan.devices) d.0 ≡ Some name → HasDevice (Some plan_bytes) name
has_device plan_bytes name plan d is_plan has = rw is_plan (found (map (λ row. row.name) plan.devices) d.0 name has)

lacks_device : (plan_bytes name : List ℕ) (plan : Plan) → AreThePlan plan_bytes plan → (Contains (map (λ row. row.name) plan.devices) name → ⊥) → LacksDevice (Some plan_bytes) name
lacks_device plan_bytes name plan is_plan none = rw is_plan none

why_trace : (plan_bytes trace name : List ℕ) (status : ℕ) → HasDevice (Some plan_bytes) name → OneOf status 0 1 3 (IsLawfulTrace plan_bytes trace) (IsBadTrace plan_bytes trace) (IsOk (plan_of plan_bytes) × (67108864 < length trace))
    → OneOf status 0 1 3 (HasDevice (Some plan_bytes) name × IsLawfulTrace plan_bytes trace) (HasDevice (Some plan_bytes) name × IsBadTrace plan_bytes trace) (IsRefusedWhy plan_bytes trace name)
why_trace plan_bytes trace name status device (the_first is has) = the_first is (device, has)
why_trace plan_bytes trace name status device (the_second is has) = the_second is (device, has)
why_trace plan_bytes trace name status device (the_third is has) = the_third is (inr (inr (device, has.1)))

why_one : (plan_bytes trace name : List ℕ) (plan : Plan) (all : Bool) (ending : Ending) (status : ℕ) → AreThePlan plan_bytes plan → status ≡ status_of ending → OfWhy all (Some trace) name plan ending
    → OneOf status 0 1 3 (HasDevice (Some plan_bytes) name × IsLawfulTrace plan_bytes trace) (HasDevice (Some plan_bytes) name × IsBadTrace plan_bytes trace) (IsRefusedWhy plan_bytes trace name)
why_one plan_bytes trace name plan all _ status is_plan is (unknown none) = the_third is (inr (inl (lacks_device plan_bytes name plan is_plan none)))
why_one plan_bytes trace name plan all _ status is_plan is (named d has ending ends) =
    why_trace plan_bytes trace name status (has_device plan_bytes name plan d is_plan has)
    (trace_one plan_bytes trace plan all NotLawful (WhyEnds plan d) ending status is_plan is (λ line. refl) (λ h e ends. ap status_of ends) ends)

why_reads : (plan_bytes trace name : List ℕ) (all : Bool) (ending : Ending) (status : ℕ) → status ≡ status_of ending → Reads plan_bytes (OfWhy all (Some trace) name) ending
    → OneOf status 0 1 3 (HasDevice (Some plan_bytes) name × IsLawfulTrace plan_bytes trace) (HasDevice (Some plan_bytes) name × IsBadTrace plan_bytes trace) (IsRefusedWhy plan_bytes trace name)
why_reads plan_bytes trace name all ending status is (a_plan plan is_plan ends) = why_one plan_bytes trace name plan all ending status is_plan is ends
why_reads plan_bytes trace name all ending status is (no_plan none three) = the_third (is ∙ three) (inl none)

pub why_is : (all : Bool) (plan_bytes trace name : List ℕ) (status old new : ℕ) (out err : Taking) → IsUndisturbed status old new out
    → Answered (OfPlan all (Some plan_bytes) (OfWhy all (Some trace) name)) status (Rose old new) out err
    → OneOf status 0 1 3 (HasDevice (Some plan_bytes) name × IsLawfulTrace plan_bytes trace) (HasDevice (Some plan_bytes) name × IsBadTrace plan_bytes trace) (IsRefusedWhy plan_bytes trace name)
why_is all plan_bytes trace name status old new out err quiet answers =
    let it = ended_well (OfPlan all (Some plan_bytes) (OfWhy all (Some trace) name)) status (Rose old new) out err quiet.reads quiet.writes quiet.memory answers in
    why_reads plan_bytes trace name all it.ending status it.is (reads plan_bytes it.ends)

device_or_none : (plan_bytes name : List ℕ) → HasDevice (Some plan_bytes) name → LacksDevice (Some plan_bytes) name → ⊥
device_or_none plan_bytes name has lacks = either (plan_of plan_bytes) has lacks
  where
    either : (r : Result Contents PlanFault) → IsOkAnd r (Names name) → IsOkAnd r (λ plan. ¬ Names name plan) → ⊥
    either (Ok c) has lacks = lacks has
    either (Err f) has lacks = has

device_is_plan : (plan_bytes name : List ℕ) → HasDevice (Some plan_bytes) name → IsErr (plan_of plan_bytes) → ⊥
device_is_plan plan_bytes name has none = either (plan_of plan_bytes) has none
  where
    either : (r : Result Contents PlanFault) → IsOkAnd r (Names name) → IsErr r → ⊥
    either (Ok c) has none = let bad = none in cc
    either (Err f) has none = has

pub why_lawful_not_refused : (plan_bytes trace name : List ℕ) → HasDevice (Some plan_bytes) name × IsLawfulTrace plan_bytes trace → IsRefusedWhy plan_bytes trace name → ⊥
why_lawful_not_refused plan_bytes trace name one (inl none) = device_is_plan plan_bytes name one.0 none
why_lawful_not_refused plan_bytes trace name one (inr (inl lacks)) = device_or_none plan_bytes name one.0 lacks
why_lawful_not_refused plan_bytes trace name one (inr (inr long)) = lawful_not_refused plan_bytes trace one.1 (inr (is_one plan_bytes one.1.0 one.1.1, long.1))

pub why_bad_not_refused : (plan_bytes trace name : List ℕ) → HasDevice (Some plan_bytes) name × IsBadTrace plan_bytes trace → IsRefusedWhy plan_bytes trace name → ⊥
why_bad_not_refused plan_bytes trace name one (inl none) = device_is_plan plan_bytes name one.0 none
why_bad_not_refused plan_bytes trace name one (inr (inl lacks)) = device_or_none plan_bytes name one.0 lacks
why_bad_not_refused plan_bytes trace name one (inr (inr long)) = bad_not_refused plan_bytes trace one.1 (inr (is_one plan_bytes one.1.0 one.1.1, long.1))
