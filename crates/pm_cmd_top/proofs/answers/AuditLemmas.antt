-- What is written is what `audit` says yes to.
use Rattle.std.proofs.Common.{◌≡◌, ◌∙◌, ◌≢◌, ◌≤◌, ℕ, Bool, true, false, List, [], Option, None, Some, Ok, Err, length, reverse, inl, inr, ap, arith, refl, subst, sym}
use Rattle.std.specs.Prelude.{IsOk, Result}
use Rattle.std.specs.Io.KnownBytes.{append_known}
use Rattle.std.proofs.Math.Bool.{Bool-set}
use Rattle.std.proofs.lemmas.Bool.{false≢true}
use Rattle.std.proofs.lemmas.List.{reverse-reverse}
use Rattle.std.proofs.lemmas.Option.{same_Some}
use Rattle.pm_model.specs.declared.event.Line.{Line}
use Rattle.pm_model.specs.declared.plan.Plan.{Plan}
use Rattle.pm_model.specs.declared.rows.CallerRow.{CallerRow}
use Rattle.pm_model.specs.declared.rows.DeviceRow.{DeviceRow}
use Rattle.pm_model.specs.declared.rows.DomainRow.{DomainRow}
use Rattle.pm_model.specs.declared.rows.LinkRow.{LinkRow}
use Rattle.pm_model.specs.FirstBad.{AreLinesOf, StandsFor}
use Rattle.pm_model.specs.History.{History}
use Rattle.pm_model.specs.IsPlan.{is_plan}
use Rattle.pm_model.specs.Lawful.{IsFinished, IsLawful}
use Rattle.pm_model.specs.Serial.{serial}
use Rattle.pm_model.specs.Text.{text, text2}
use Rattle.pm_model.specs.Verdict.{IsVerdict, No, Verdict, YesFinished, YesOpen}
use Rattle.pm_planread.specs.declared.refusal.PlanFault.{PlanFault}
use Rattle.pm_planread.specs.PlanOf.{Contents, contents_of, plan_of}
use Rattle.pm_law_texts.proofs.Formats.{only_list}
use Rattle.pm_law_texts.proofs.OneVerdict.{only_verdict}
use Rattle.pm_law_texts.proofs.Walk.{not_both}
use Rattle.pm_law_texts.proofs.OwnText.{format2_short, format2_stands, own_short, own_stands}
use Rattle.pm_serial.specs.declared.running.End.{End}
use Rattle.pm_serial.specs.declared.running.End.TheVariants as end
use Rattle.pm_cmd_ends.specs.Ending.{Answered, AtLimit, Done, Ending, Failed, NotLawful, Refused, SaidNo, Taking, Took, TookText, ended, no_memory, status_of, text_of, unread, unwritten}
use Rattle.pm_cmd_ends.specs.Reading.{Holds, OfBytes, OfPlan, held, read, refused, too_long}
use Rattle.pm_cmd_ends.specs.Said.{finished_line, no_line, open_line, verdict_line}
use Rattle.pm_cmd_top.specs.Runs.{IsRun, RunEnds, SerialEnds, cut, run_ending, whole}
use Rattle.pm_cmd_top.specs.TraceCommands.{AuditEnds, ConvertEnds, OfAudit, OfConvert, is_finished, is_open}
use Rattle.pm_cmd_top.specs.Traces.{OfTrace, bad, stands, too_many}
use Rattle.pm_cmd_top.specs.answers.Audited.{HasVerdict, TookAll, verdict_status}
use Rattle.pm_cmd_top.proofs.answers.PlanStatuses.{IsEndOver, over_plan}

-- a plan is what stands in it
abbrev make : (c : Contents) → is_plan c.lines c.trace c.domains c.devices c.links c.callers ≡ true → Plan
make c law = record { lines = c.lines; trace = c.trace; domains = c.domains; devices = c.devices; links = c.links; callers = c.callers; law = law }

same_make : (c d : Contents) → c ≡ d → (p : is_plan c.lines c.trace c.domains c.devices c.links c.callers ≡ true) (q : is_plan d.lines d.trace d.domains d.devices d.links d.callers ≡ true)
    → make c p ≡ make d q
same_make c d same p q =
    let P : Contents → Type 0 = λ e. (law : is_plan e.lines e.trace e.domains e.devices e.links e.callers ≡ true) → make c p ≡ make e law in
    subst P same (λ law. ap (make c) (Bool-set _ _ p law)) q

pub one_plan : (a b : Plan) → contents_of a ≡ contents_of b → a ≡ b
one_plan a b same = same_make (contents_of a) (contents_of b) same a.law b.law

abbrev got : Contents → Result Contents PlanFault → Contents
got other (Ok c) = c
got other (Err f) = other

same_ok : (c d : Contents) → ◌≡◌ {A = Result Contents PlanFault} (Ok c) (Ok d) → c ≡ d
same_ok c d is = ap (got c) is

pub read_alike : (bytes : List ℕ) (a b : Plan) → plan_of bytes ≡ Ok (contents_of a) → plan_of bytes ≡ Ok (contents_of b) → a ≡ b
read_alike bytes a b one other = one_plan a b (same_ok (contents_of a) (contents_of b) (sym one ∙ other))

-- the endings of a trace of a plan, by its verdict
pub says_so : (plan : Plan) (all : Bool) (bytes : List ℕ) (verdict : Verdict) (ending : Ending) → length bytes ≤ 67108864 → IsVerdict plan bytes verdict
    → OfAudit all (Some bytes) plan ending → (status_of ending ≡ verdict_status verdict) × (text_of ending ≡ Some (verdict_line verdict))
says_so plan all bytes verdict _ few says (too_many long) = absurd (omega (arith, few, long.longer))
says_so plan all bytes verdict _ few says (bad known holds n why is) =
    subst (λ (v : Verdict). (1 ≡ verdict_status v) × (Some (no_line n why) ≡ Some (verdict_line v)))
    (only_verdict plan bytes (No n why) verdict (subst (λ (b : List ℕ). IsVerdict plan b (No n why)) holds.told_so is) says) (refl, refl)
says_so plan all bytes verdict _ few says (stands known holds h lawful stands_for ending (is_finished kept finished)) =
    subst (λ (v : Verdict). (0 ≡ verdict_status v) × (Some finished_line ≡ Some (verdict_line v)))
    (only_verdict plan bytes YesFinished verdict (subst (λ (b : List ℕ). IsVerdict plan b YesFinished) holds.told_so (h, lawful, stands_for, finished)) says) (refl, refl)
says_so plan all bytes verdict _ few says (stands known holds h lawful stands_for ending (is_open kept unfinished)) =
    subst (λ (v : Verdict). (0 ≡ verdict_status v) × (Some open_line ≡ Some (verdict_line v)))
    (only_verdict plan bytes YesOpen verdict (subst (λ (b : List ℕ). IsVerdict plan b YesOpen) holds.told_so (h, lawful, stands_for, unfinished)) says) (refl, refl)

-- bytes that are a plan
is_ok : (plan_bytes : List ℕ) (c : Contents) → plan_of plan_bytes ≡ Ok c → IsOk (plan_of plan_bytes)
is_ok plan_bytes c is = rw is refl

took_line : (out : Taking) (line : List ℕ) (ending : Ending) → text_of ending ≡ Some line → TookText out (text_of ending) → Took out line
took_line out line ending is took = subst (TookText out) is took

pub audited : (plan_bytes bytes : List ℕ) (verdict : Verdict) → HasVerdict plan_bytes bytes verdict → (all : Bool) (status : ℕ) (Unread : Type 0) (out err : Taking) → ¬ Unread → ¬ Failed out → status ≢ 7
    → Answered (OfPlan all (Some plan_bytes) (OfAudit all (Some bytes))) status Unread out err → (status ≡ verdict_status verdict) × Took out (verdict_line verdict)
audited plan_bytes bytes verdict has all status Unread out err no_read no_write memory (ended ending ends is took told) =
    let over = over_plan (Some plan_bytes) (is_ok plan_bytes (contents_of has.plan) has.is_plan) ends in
    let same : over.plan ≡ has.plan = read_alike plan_bytes over.plan has.plan (subst (λ (b : List ℕ). plan_of b ≡ Ok (contents_of over.plan)) (same_Some over.bytes plan_bytes (sym over.told_so)) over.is) has.is_plan in
    let so = says_so has.plan all bytes verdict ending has.short has.says (subst (λ (p : Plan). OfAudit all (Some bytes) p ending) same over.ends) in
    (is ∙ so.0, took_line out (verdict_line verdict) ending so.1 took)
audited plan_bytes bytes verdict has all status Unread out err no_read no_write memory (unread is by nothing told) = absurd (no_read by)
audited plan_bytes bytes verdict has all status Unread out err no_read no_write memory (unwritten ending ends is failed part told) = absurd (no_write failed)
audited plan_bytes bytes verdict has all status Unread out err no_read no_write memory (no_memory is nothing told) = absurd (memory is)

-- the ending of a command that answered with one of these statuses
pub record EndedBy (Ends : Ending → Type 0) (status : ℕ) (out : Taking) : Type 0 where
  pub ending : Ending
  pub ends : Ends ending
  pub is : status_of ending ≡ status
  pub took : TookText out (text_of ending)

pub ended_by : (Ends : Ending → Type 0) (status : ℕ) (Unread : Type 0) (out err : Taking) → status ≢ 4 → status ≢ 5 → status ≢ 7 → Answered Ends status Unread out err → EndedBy Ends status out
ended_by Ends status Unread out err no_read no_write memory (ended ending ends is took told) = record { ending = ending; ends = ends; is = sym is; took = took }
ended_by Ends status Unread out err no_read no_write memory (unread is by nothing told) = absurd (no_read is)
ended_by Ends status Unread out err no_read no_write memory (unwritten ending ends is failed part told) = absurd (no_write is)
ended_by Ends status Unread out err no_read no_write memory (no_memory is nothing told) = absurd (memory is)

-- of an ending that is no refusal the plan's bytes are one
ended_bytes : {Ends : Plan → Ending → Type 0} {bytes : List ℕ} {ending : Ending} → status_of ending ≢ 3 → OfBytes Ends bytes ending → IsOk (plan_of bytes)
ended_bytes own (refused why section item part is) = absurd (own refl)
ended_bytes own (read plan is ending ends) = rw is refl

pub over_ended : {Ends : Plan → Ending → Type 0} {all : Bool} (plan_bytes : List ℕ) {ending : Ending} → status_of ending ≢ 3 → OfPlan all (Some plan_bytes) Ends ending → IsOk (plan_of plan_bytes)
over_ended plan_bytes own (too_long long) = absurd (own refl)
over_ended plan_bytes own (held known holds ending ends) = subst (λ (b : List ℕ). IsOk (plan_of b)) holds.told_so (ended_bytes own ends)

-- what was taken is the text
all_taken : (out : Taking) (bytes line : List ℕ) → TookAll out bytes → Took out line → line ≡ bytes
all_taken out bytes line all took =
    let is : Some bytes ≡ Some line = sym all.full ∙ took ∙ ap (λ (o : Option (List ℕ)). append_known o line) all.empty in
    same_Some line bytes (sym is)

pub is_taken : (out : Taking) (bytes line : List ℕ) (ending : Ending) → TookAll out bytes → text_of ending ≡ Some line → TookText out (text_of ending) → line ≡ bytes
is_taken out bytes line ending all is took = all_taken out bytes line all (took_line out line ending is took)

-- the verdict on the text of a run
abbrev end_verdict : End → Verdict
end_verdict end.Finished = YesFinished
end_verdict end.AtLimit = YesOpen

finished_has : (plan_bytes : List ℕ) (plan : Plan) (lines : List Line) → plan_of plan_bytes ≡ Ok (contents_of plan) → IsLawful plan (reverse lines) → AreLinesOf plan (reverse lines) → IsFinished plan (reverse lines)
    → HasVerdict plan_bytes (text plan lines) YesFinished
finished_has plan_bytes plan lines is lawful of_plan finished =
    record { plan = plan; is_plan = is; short = own_short plan lines lawful of_plan; says = (reverse lines, lawful, own_stands plan lines lawful of_plan, finished) }

open_has : (plan_bytes : List ℕ) (plan : Plan) (lines : List Line) → plan_of plan_bytes ≡ Ok (contents_of plan) → IsLawful plan (reverse lines) → AreLinesOf plan (reverse lines) → (IsFinished plan (reverse lines) → ⊥)
    → HasVerdict plan_bytes (text plan lines) YesOpen
open_has plan_bytes plan lines is lawful of_plan unfinished =
    record { plan = plan; is_plan = is; short = own_short plan lines lawful of_plan; says = (reverse lines, lawful, own_stands plan lines lawful of_plan, unfinished) }

run_has : (plan_bytes : List ℕ) (plan : Plan) (e : End) → plan_of plan_bytes ≡ Ok (contents_of plan) → IsRun plan e → HasVerdict plan_bytes (text plan (serial plan)) (end_verdict e)
run_has plan_bytes plan end.Finished is run = finished_has plan_bytes plan (serial plan) is run.lawful run.of_plan run.ends
run_has plan_bytes plan end.AtLimit is run = open_has plan_bytes plan (serial plan) is run.lawful run.of_plan (λ finished. false≢true (sym run.ends.1 ∙ finished))

run_text : (e : End) (ending : Ending) (bytes : List ℕ) → ending ≡ run_ending e bytes → text_of ending ≡ Some bytes
run_text end.Finished ending bytes is = ap text_of is
run_text end.AtLimit ending bytes is = ap text_of is

is_done : (e : End) (ending : Ending) (bytes : List ℕ) → ending ≡ run_ending e bytes → status_of ending ≡ 0 → end_verdict e ≡ YesFinished
is_done end.Finished ending bytes is zero = refl
is_done end.AtLimit ending bytes is zero = absurd (omega (arith, ap status_of is, zero))

is_cut : (e : End) (ending : Ending) (bytes : List ℕ) → ending ≡ run_ending e bytes → status_of ending ≡ 6 → end_verdict e ≡ YesOpen
is_cut end.Finished ending bytes is six = absurd (omega (arith, ap status_of is, six))
is_cut end.AtLimit ending bytes is six = refl

-- what `serial` wrote
serial_has : (plan_bytes bytes : List ℕ) (plan : Plan) (ending : Ending) (out : Taking) → plan_of plan_bytes ≡ Ok (contents_of plan) → (ends : SerialEnds plan ending) → TookAll out bytes → TookText out (text_of ending)
    → HasVerdict plan_bytes bytes (end_verdict ends.end_of)
serial_has plan_bytes bytes plan ending out is ends all took =
    let line = text plan (serial plan) in
    subst (λ (b : List ℕ). HasVerdict plan_bytes b (end_verdict ends.end_of)) (is_taken out bytes line ending all (run_text ends.end_of ending line ends.is) took)
    (run_has plan_bytes plan ends.end_of is ends.run)

-- the plan whose bytes they are
of_bytes : {Ends : Plan → Ending → Type 0} (plan_bytes : List ℕ) {ending : Ending} → (over : IsEndOver (Some plan_bytes) Ends ending) → plan_of plan_bytes ≡ Ok (contents_of over.plan)
of_bytes plan_bytes over = subst (λ (b : List ℕ). plan_of b ≡ Ok (contents_of over.plan)) (same_Some over.bytes plan_bytes (sym over.told_so)) over.is

pub serial_finished : (all : Bool) (plan_bytes bytes : List ℕ) (Unread : Type 0) (out err : Taking) → TookAll out bytes → Answered (OfPlan all (Some plan_bytes) SerialEnds) 0 Unread out err → HasVerdict plan_bytes bytes YesFinished
serial_finished all plan_bytes bytes Unread out err took answers =
    let it = ended_by (OfPlan all (Some plan_bytes) SerialEnds) 0 Unread out err (λ is. omega (arith, is)) (λ is. omega (arith, is)) (λ is. omega (arith, is)) answers in
    let over = over_plan (Some plan_bytes) (over_ended plan_bytes (λ is. omega (arith, is, it.is)) it.ends) it.ends in
    subst (HasVerdict plan_bytes bytes) (is_done over.ends.end_of it.ending _ over.ends.is it.is) (serial_has plan_bytes bytes over.plan it.ending out (of_bytes plan_bytes over) over.ends took it.took)

pub serial_cut : (all : Bool) (plan_bytes bytes : List ℕ) (Unread : Type 0) (out err : Taking) → TookAll out bytes → Answered (OfPlan all (Some plan_bytes) SerialEnds) 6 Unread out err → HasVerdict plan_bytes bytes YesOpen
serial_cut all plan_bytes bytes Unread out err took answers =
    let it = ended_by (OfPlan all (Some plan_bytes) SerialEnds) 6 Unread out err (λ is. omega (arith, is)) (λ is. omega (arith, is)) (λ is. omega (arith, is)) answers in
    let over = over_plan (Some plan_bytes) (over_ended plan_bytes (λ is. omega (arith, is, it.is)) it.ends) it.ends in
    subst (HasVerdict plan_bytes bytes) (is_cut over.ends.end_of it.ending _ over.ends.is it.is) (serial_has plan_bytes bytes over.plan it.ending out (of_bytes plan_bytes over) over.ends took it.took)

-- what `run` and `desk` wrote
run_finished : (plan_bytes bytes : List ℕ) (plan : Plan) (ending : Ending) (out : Taking) → plan_of plan_bytes ≡ Ok (contents_of plan) → RunEnds plan ending → status_of ending ≡ 0 → TookAll out bytes → TookText out (text_of ending)
    → HasVerdict plan_bytes bytes YesFinished
run_finished plan_bytes bytes plan _ out is (whole lines run) zero all took =
    subst (λ (b : List ℕ). HasVerdict plan_bytes b YesFinished) (all_taken out bytes (text plan lines) all took) (finished_has plan_bytes plan lines is run.lawful run.of_plan run.finished)
run_finished plan_bytes bytes plan _ out is (cut run) zero all took = absurd (omega (arith, zero))

run_cut : (plan_bytes bytes : List ℕ) (plan : Plan) (ending : Ending) (out : Taking) → plan_of plan_bytes ≡ Ok (contents_of plan) → RunEnds plan ending → status_of ending ≡ 6 → TookAll out bytes → TookText out (text_of ending)
    → HasVerdict plan_bytes bytes YesOpen
run_cut plan_bytes bytes plan _ out is (whole lines run) six all took = absurd (omega (arith, six))
run_cut plan_bytes bytes plan _ out is (cut run) six all took =
    subst (λ (b : List ℕ). HasVerdict plan_bytes b YesOpen) (all_taken out bytes (text plan (serial plan)) all took) (run_has plan_bytes plan end.AtLimit is run)

pub threads_finished : (all : Bool) (plan_bytes bytes : List ℕ) (Unread : Type 0) (out err : Taking) → TookAll out bytes → Answered (OfPlan all (Some plan_bytes) RunEnds) 0 Unread out err → HasVerdict plan_bytes bytes YesFinished
threads_finished all plan_bytes bytes Unread out err took answers =
    let it = ended_by (OfPlan all (Some plan_bytes) RunEnds) 0 Unread out err (λ is. omega (arith, is)) (λ is. omega (arith, is)) (λ is. omega (arith, is)) answers in
    let over = over_plan (Some plan_bytes) (over_ended plan_bytes (λ is. omega (arith, is, it.is)) it.ends) it.ends in
    run_finished plan_bytes bytes over.plan it.ending out (of_bytes plan_bytes over) over.ends it.is took it.took

pub threads_cut : (all : Bool) (plan_bytes bytes : List ℕ) (Unread : Type 0) (out err : Taking) → TookAll out bytes → Answered (OfPlan all (Some plan_bytes) RunEnds) 6 Unread out err → HasVerdict plan_bytes bytes YesOpen
threads_cut all plan_bytes bytes Unread out err took answers =
    let it = ended_by (OfPlan all (Some plan_bytes) RunEnds) 6 Unread out err (λ is. omega (arith, is)) (λ is. omega (arith, is)) (λ is. omega (arith, is)) answers in
    let over = over_plan (Some plan_bytes) (over_ended plan_bytes (λ is. omega (arith, is, it.is)) it.ends) it.ends in
    run_cut plan_bytes bytes over.plan it.ending out (of_bytes plan_bytes over) over.ends it.is took it.took

-- what is said of the list that two texts stand for is said of both
said_of_both : (plan : Plan) (trace bytes : List ℕ) (h : History) (verdict : Verdict) → IsLawful plan h → StandsFor plan trace h → StandsFor plan bytes h → IsVerdict plan trace verdict → IsVerdict plan bytes verdict
said_of_both plan trace bytes h YesFinished lawful one other says = (h, lawful, other, subst (IsFinished plan) (only_list plan trace says.0 h says.2 one) says.3)
said_of_both plan trace bytes h YesOpen lawful one other says = (h, lawful, other, λ finished. says.3 (subst (IsFinished plan) (sym (only_list plan trace says.0 h says.2 one)) finished))
said_of_both plan trace bytes h (No n why) lawful one other says = absurd (not_both plan trace n (h, lawful, one) says.0)

are_lines : (plan : Plan) (bytes : List ℕ) (h : History) → StandsFor plan bytes h → AreLinesOf plan h
are_lines plan bytes h (inl one) = one.0
are_lines plan bytes h (inr two) = two.0

-- what `convert` wrote
converted_has : (plan_bytes trace bytes : List ℕ) (verdict : Verdict) (all : Bool) (ending : Ending) (out : Taking) → (has : HasVerdict plan_bytes trace verdict) → OfConvert all (Some trace) has.plan ending → status_of ending ≡ 0 → TookAll out bytes → TookText out (text_of ending)
    → HasVerdict plan_bytes bytes verdict
converted_has plan_bytes trace bytes verdict all _ out has (too_many long) zero took_all took = absurd (omega (arith, zero))
converted_has plan_bytes trace bytes verdict all _ out has (bad known holds n why is) zero took_all took = absurd (omega (arith, zero))
converted_has plan_bytes trace bytes verdict all _ out has (stands known holds h lawful stands_for ending is) zero took_all took =
    let plan = has.plan in
    let back = sym (reverse-reverse h) in
    let lawful_back = subst (IsLawful plan) back lawful in
    let of_plan = subst (AreLinesOf plan) back (are_lines plan known h stands_for) in
    let new : StandsFor plan (text2 plan (reverse h)) h = subst (StandsFor plan (text2 plan (reverse h))) (sym back) (format2_stands plan (reverse h) lawful_back of_plan) in
    let read : StandsFor plan trace h = subst (λ (b : List ℕ). StandsFor plan b h) holds.told_so stands_for in
    subst (λ (b : List ℕ). HasVerdict plan_bytes b verdict) (is_taken out bytes (text2 plan (reverse h)) ending took_all (ap text_of is) took)
    (record { plan = plan; is_plan = has.is_plan; short = format2_short plan (reverse h) lawful_back of_plan; says = said_of_both plan trace (text2 plan (reverse h)) h verdict lawful read new has.says })

pub converted : (all : Bool) (plan_bytes trace bytes : List ℕ) (Unread : Type 0) (out err : Taking) (verdict : Verdict) → TookAll out bytes → Answered (OfPlan all (Some plan_bytes) (OfConvert all (Some trace))) 0 Unread out err
    → HasVerdict plan_bytes trace verdict → HasVerdict plan_bytes bytes verdict
converted all plan_bytes trace bytes Unread out err verdict took answers has =
    let it = ended_by (OfPlan all (Some plan_bytes) (OfConvert all (Some trace))) 0 Unread out err (λ is. omega (arith, is)) (λ is. omega (arith, is)) (λ is. omega (arith, is)) answers in
    let over = over_plan (Some plan_bytes) (over_ended plan_bytes (λ is. omega (arith, is, it.is)) it.ends) it.ends in
    let same : over.plan ≡ has.plan = read_alike plan_bytes over.plan has.plan (of_bytes plan_bytes over) has.is_plan in
    converted_has plan_bytes trace bytes verdict all it.ending out has (subst (λ (p : Plan). OfConvert all (Some trace) p it.ending) same over.ends) it.is took it.took
