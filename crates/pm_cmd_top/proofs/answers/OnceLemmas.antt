-- Each command has one ending, where the bytes of its files are told.
use Rattle.std.proofs.Common.{◌≡◌, ◌∙◌, ◌≢◌, ◌<◌, ◌≤◌, ℕ, zero, suc, Bool, true, false, List, [], ◌∷◌, Option, None, Some, Ok, Err, Contains, Result, length, map, reverse, slice_get, slice_index_or, ap, arith, refl, subst, sym}
use Rattle.std.proofs.lemmas.Bool.{false≢true}
use Rattle.std.proofs.lemmas.Option.{same_Some}
use Rattle.pm_io.specs.Faults.{Rose}
use Rattle.pm_account.specs.Account.{IsAccount, no_times}
use Rattle.pm_account.specs.Texts.{account_text}
use Rattle.pm_account.specs.declared.Times.{Times}
use Rattle.pm_base.specs.declared.DevId.{DevId}
use Rattle.pm_laws.proofs.islands.OneNumbering.{one_count}
use Rattle.pm_law_texts.proofs.Formats.{only_list}
use Rattle.pm_law_texts.proofs.OneVerdict.{only_verdict}
use Rattle.pm_law_texts.proofs.Walk.{not_both}
use Rattle.pm_make.specs.Generator.{IsGenerated}
use Rattle.pm_model.specs.declared.plan.Plan.{Plan}
use Rattle.pm_model.specs.FirstBad.{IsLawfulText, StandsFor}
use Rattle.pm_model.specs.History.{History}
use Rattle.pm_model.specs.Islands.{Numbering}
use Rattle.pm_model.specs.Lawful.{IsFinished, IsLawful}
use Rattle.pm_model.specs.NoWhy.{NoWhy}
use Rattle.pm_model.specs.Serial.{serial}
use Rattle.pm_model.specs.Text.{names_of, text}
use Rattle.pm_model.specs.Verdict.{IsVerdict, No, Verdict}
use Rattle.pm_names.proofs.PlanNames.{devices_distinct}
use Rattle.pm_names.proofs.TableLemmas.{place_of_only}
use Rattle.pm_planread.specs.declared.refusal.PlanFault.{PlanFault}
use Rattle.pm_planread.specs.declared.refusal.PlanFault.TheVariants as plan
use Rattle.pm_planread.specs.declared.refusal.PlanWhy.{PlanWhy}
use Rattle.pm_planread.specs.declared.tree.place.Section.{Section}
use Rattle.pm_planread.specs.Messages.{refusal_text}
use Rattle.pm_planread.specs.PlanOf.{Contents, contents_of, plan_of}
use Rattle.pm_report.specs.Report.{summary, summary_text}
use Rattle.pm_serial.specs.declared.running.End.{End}
use Rattle.pm_serial.specs.declared.running.End.TheVariants as end
use Rattle.pm_cmd_ends.specs.Ending.{Answered, Done, Ending, NotLawful, Refused, SaidNo, Taking, TookText, status_of, text_of}
use Rattle.pm_cmd_ends.specs.Reading.{Holds, OfBytes, OfPlan, held, read, refused, too_long}
use Rattle.pm_cmd_ends.specs.Request.{Asked}
use Rattle.pm_cmd_ends.specs.Said.{no_line, verdict_line}
use Rattle.pm_cmd_top.specs.Commands.{AskedEnds, CheckEnds, MakeEnds}
use Rattle.pm_cmd_top.specs.Counts.{counts_text}
use Rattle.pm_cmd_top.specs.Runs.{IsRun, SerialEnds, is_whole, run_ending}
use Rattle.pm_cmd_top.specs.TraceCommands.{AuditEnds, ConvertEnds, OfAudit, OfConvert, OfTimes, OfWhy, TimesEnds, WhyEnds, is_finished, is_open, named, unknown}
use Rattle.pm_cmd_top.specs.Traces.{OfTrace, bad, stands, too_many}
use Rattle.pm_cmd_top.specs.answers.Once.{AnsweredAlike, AnswersOnce, IsSettled, audit, check, convert, make, serial as a_serial, times, why}
use Rattle.pm_cmd_top.specs.answers.Page.{IsUndisturbed}
use Rattle.pm_cmd_top.proofs.answers.AuditLemmas.{one_plan, read_alike}
use Rattle.pm_cmd_top.proofs.answers.PageLemmas.{ended_well}
use Rattle.pm_cmd_top.proofs.answers.TraceStatuses.{found}

-- two endings are one
abbrev pub EndsOnce : (Ending → Type 0) → Type 0
EndsOnce Ends = (a b : Ending) → Ends a → Ends b → a ≡ b

-- what is told of a plan that is refused
abbrev shown : Result Contents PlanFault → Ending
shown (Err (plan.Refused word section item part)) = Refused (refusal_text word section item part)
shown _ = Done []

abbrev is_err : Result Contents PlanFault → Bool
is_err (Ok c) = false
is_err (Err f) = true

ok_err : (r : Result Contents PlanFault) (c : Contents) (f : PlanFault) → r ≡ Ok c → r ≡ Err f → ⊥
ok_err r c f one other = false≢true (ap is_err (sym one ∙ other))

-- of bytes
bytes_once : {Ends : Plan → Ending → Type 0} (bytes : List ℕ) → ((plan : Plan) → EndsOnce (Ends plan)) → EndsOnce (OfBytes Ends bytes)
bytes_once bytes once _ _ (refused word section item part is) (refused word' section' item' part' is') = ap shown (sym is ∙ is')
bytes_once bytes once _ b (refused word section item part is) (read plan is_plan ending ends) = absurd (ok_err (plan_of bytes) _ _ is_plan is)
bytes_once bytes once a _ (read plan is_plan ending ends) (refused word section item part is) = absurd (ok_err (plan_of bytes) _ _ is_plan is)
bytes_once {Ends} bytes once a b (read plan is_plan ending ends) (read plan' is_plan' ending' ends') =
    once plan' a b (subst (λ (p : Plan). Ends p a) (read_alike bytes plan plan' is_plan is_plan') ends) ends'

-- of a plan's file
plan_once : {Ends : Plan → Ending → Type 0} (all : Bool) (bytes : List ℕ) → ((plan : Plan) → EndsOnce (Ends plan)) → EndsOnce (OfPlan all (Some bytes) Ends)
plan_once all bytes once _ _ (too_long long) (too_long long') = refl
plan_once all bytes once _ b (too_long long) (held known holds ending ends) = absurd (omega (arith, long.longer, holds.within, ap length holds.told_so))
plan_once all bytes once a _ (held known holds ending ends) (too_long long) = absurd (omega (arith, long.longer, holds.within, ap length holds.told_so))
plan_once {Ends} all bytes once a b (held known holds ending ends) (held known' holds' ending' ends') =
    bytes_once bytes once a b (subst (λ (k : List ℕ). OfBytes Ends k a) holds.told_so ends) (subst (λ (k : List ℕ). OfBytes Ends k b) holds'.told_so ends')

-- of a trace's file
trace_once : {Ends : History → Ending → Type 0} (all : Bool) (bytes : List ℕ) (plan : Plan) (refuse : List ℕ → Ending) → ((h : History) → EndsOnce (Ends h)) → EndsOnce (OfTrace all (Some bytes) plan refuse Ends)
trace_once all bytes plan refuse once _ _ (too_many long) (too_many long') = refl
trace_once all bytes plan refuse once _ b (too_many long) (bad known holds n word is) = absurd (omega (arith, long.longer, holds.within, ap length holds.told_so))
trace_once all bytes plan refuse once _ b (too_many long) (stands known holds h lawful reading ending ends) = absurd (omega (arith, long.longer, holds.within, ap length holds.told_so))
trace_once all bytes plan refuse once a _ (bad known holds n word is) (too_many long) = absurd (omega (arith, long.longer, holds.within, ap length holds.told_so))
trace_once all bytes plan refuse once a _ (stands known holds h lawful reading ending ends) (too_many long) = absurd (omega (arith, long.longer, holds.within, ap length holds.told_so))
trace_once all bytes plan refuse once _ _ (bad known holds n word is) (bad known' holds' m word' is') =
    let P : List ℕ → Type 0 = λ k. IsVerdict plan k (No n word) in
    let Q : List ℕ → Type 0 = λ k. IsVerdict plan k (No m word') in
    ap (λ (v : Verdict). refuse (verdict_line v)) (only_verdict plan bytes (No n word) (No m word') (subst P holds.told_so is) (subst Q holds'.told_so is'))
trace_once all bytes plan refuse once _ b (bad known holds n word is) (stands known' holds' h lawful reading ending ends) =
    absurd (not_both plan known n (subst (λ (k : List ℕ). IsLawfulText plan k) (holds'.told_so ∙ sym holds.told_so) (h, lawful, reading)) is.0)
trace_once all bytes plan refuse once a _ (stands known' holds' h lawful reading ending ends) (bad known holds n word is) =
    absurd (not_both plan known n (subst (λ (k : List ℕ). IsLawfulText plan k) (holds'.told_so ∙ sym holds.told_so) (h, lawful, reading)) is.0)
trace_once {Ends} all bytes plan refuse once a b (stands known holds h lawful reading ending ends) (stands known' holds' k lawful' reading' ending' ends') =
    let same : h ≡ k = only_list plan bytes h k (subst (λ (t : List ℕ). StandsFor plan t h) holds.told_so reading) (subst (λ (t : List ℕ). StandsFor plan t k) holds'.told_so reading') in
    once k a b (subst (λ (l : History). Ends l a) same ends) ends'

-- `serial`: one thread's run ends in one way
end_once : (plan : Plan) (e f : End) → IsRun plan e → IsRun plan f → e ≡ f
end_once plan end.Finished end.Finished one other = refl
end_once plan end.AtLimit end.AtLimit one other = refl
end_once plan end.Finished end.AtLimit one other = absurd (false≢true (sym other.ends.1 ∙ one.ends))
end_once plan end.AtLimit end.Finished one other = absurd (false≢true (sym one.ends.1 ∙ other.ends))

serial_once : (plan : Plan) → EndsOnce (SerialEnds plan)
serial_once plan a b one other =
    one.is ∙ ap (λ (e : End). run_ending e (text plan (serial plan))) (end_once plan one.end_of other.end_of one.run other.run) ∙ sym other.is

-- `check`
check_once : (plan : Plan) → EndsOnce (CheckEnds plan)
check_once plan a b one other =
    one.is ∙ ap (λ n. Done (counts_text plan n)) (one_count plan one.islands other.islands one.numbering other.numbering) ∙ sym other.is

-- `make`
same_contents : (a b : Plan) → a.lines ≡ b.lines → a.trace ≡ b.trace → a.domains ≡ b.domains → a.devices ≡ b.devices → a.links ≡ b.links → a.callers ≡ b.callers → contents_of a ≡ contents_of b
same_contents a b lines trace domains devices links callers = rw (lines, trace, domains, devices, links, callers) refl

made_once : (number devices : ℕ) (p q : Plan) → IsGenerated number devices p → IsGenerated number devices q → p ≡ q
made_once number devices p q one other =
    one_plan p q (same_contents p q (one.lines ∙ sym other.lines) (one.trace ∙ sym other.trace) (one.domains ∙ sym other.domains) (one.devices ∙ sym other.devices) (one.links ∙ sym other.links) (one.callers ∙ sym other.callers))

abbrev summary_ending : Plan → End → Ending
summary_ending plan e = run_ending e (summary_text (summary plan (serial plan) (is_whole e)))

make_once : (number devices : ℕ) → EndsOnce (MakeEnds number devices)
make_once number devices a b one other =
    let same : one.plan ≡ other.plan = made_once number devices one.plan other.plan one.generated other.generated in
    let run : IsRun other.plan one.end_of = subst (λ (p : Plan). IsRun p one.end_of) same one.run in
    one.is ∙ ap (λ (p : Plan). summary_ending p one.end_of) same ∙ ap (summary_ending other.plan) (end_once other.plan one.end_of other.end_of run other.run) ∙ sym other.is

-- `audit`
audit_once : (plan : Plan) (h : History) → EndsOnce (AuditEnds plan h)
audit_once plan h _ _ (is_finished kept finished) (is_finished kept' finished') = refl
audit_once plan h _ _ (is_open kept open_yet) (is_open kept' open_yet') = refl
audit_once plan h _ _ (is_finished kept finished) (is_open kept' open_yet) = absurd (open_yet finished)
audit_once plan h _ _ (is_open kept open_yet) (is_finished kept' finished) = absurd (open_yet finished)

-- `convert`
convert_once : (plan : Plan) (h : History) → EndsOnce (ConvertEnds plan h)
convert_once plan h a b one other = one ∙ sym other

-- `times`
alike : {X : Type 0} (xs ys : List X) (d : X) → length xs ≡ length ys → ((i : ℕ) → i < length xs → slice_index_or xs i d ≡ slice_index_or ys i d) → xs ≡ ys
alike [] [] d same each = refl
alike [] (y ∷ ys) d same each = absurd (omega (arith, same))
alike (x ∷ xs) [] d same each = absurd (omega (arith, same))
alike (x ∷ xs) (y ∷ ys) d same each =
    let head : x ≡ y = each 0 (omega arith) in
    let tail : xs ≡ ys = alike xs ys d (omega (arith, same)) (λ i less. each (suc i) (omega (arith, less))) in
    rw (head, tail) refl

account_once : (plan : Plan) (h : History) (one other : List Times) → IsAccount plan h one → IsAccount plan h other → one ≡ other
account_once plan h one other is is' =
    alike one other no_times (is.entries ∙ sym is'.entries)
    (λ i less. let d : DevId = record { 0 = i } in is.each d (omega (arith, less, is.entries)) ∙ sym (is'.each d (omega (arith, less, is.entries))))

times_once : (plan : Plan) (h : History) → EndsOnce (TimesEnds plan h)
times_once plan h a b one other =
    one.is ∙ ap (λ (l : List Times). Done (account_text (names_of plan) l)) (account_once plan h one.account other.account one.is_account other.is_account) ∙ sym other.is

-- `why`: one device has a name
device_once : (plan : Plan) (name : List ℕ) (d e : DevId) → slice_get (map (λ row. row.name) plan.devices) d.0 ≡ Some name → slice_get (map (λ row. row.name) plan.devices) e.0 ≡ Some name → d ≡ e
device_once plan name d e one other =
    let names : List (List ℕ) = map (λ row. row.name) plan.devices in
    let same : d.0 ≡ e.0 = same_Some d.0 e.0 (sym (place_of_only names name d.0 (devices_distinct plan) one) ∙ place_of_only names name e.0 (devices_distinct plan) other) in
    ap (λ n. let x : DevId = record { 0 = n } in x) same

why_once : (all : Bool) (bytes name : List ℕ) (plan : Plan) → EndsOnce (OfWhy all (Some bytes) name plan)
why_once all bytes name plan _ _ (unknown none) (unknown none') = refl
why_once all bytes name plan _ b (unknown none) (named d is ending ends) = absurd (none (found (map (λ row. row.name) plan.devices) d.0 name is))
why_once all bytes name plan a _ (named d is ending ends) (unknown none) = absurd (none (found (map (λ row. row.name) plan.devices) d.0 name is))
why_once all bytes name plan a b (named d is ending ends) (named e is' ending' ends') =
    let same : d ≡ e = device_once plan name d e is is' in
    trace_once all bytes plan NotLawful (λ h x y one other. one ∙ sym other) a b (subst (λ (x : DevId). OfTrace all (Some bytes) plan NotLawful (WhyEnds plan x) a) same ends) ends'

-- two calls, of one ending
answered_alike : (Ends : Ending → Type 0) → EndsOnce Ends → (status old new : ℕ) (out err : Taking) → IsUndisturbed status old new out → Answered Ends status (Rose old new) out err
    → (other old' new' : ℕ) (out' err' : Taking) → IsUndisturbed other old' new' out' → Answered Ends other (Rose old' new') out' err' → AnsweredAlike status other out out'
answered_alike Ends once status old new out err quiet answers other old' new' out' err' quiet' answers' =
    let it = ended_well Ends status (Rose old new) out err quiet.reads quiet.writes quiet.memory answers in
    let its = ended_well Ends other (Rose old' new') out' err' quiet'.reads quiet'.writes quiet'.memory answers' in
    let same : it.ending ≡ its.ending = once it.ending its.ending it.ends its.ends in
    record {
      same = it.is ∙ ap status_of same ∙ sym its.is;
      text = text_of its.ending;
      first = subst (λ (e : Ending). TookText out (text_of e)) same it.took;
      second = its.took;
    }

pub answers_once : (told : List ℕ → Option (List ℕ)) (asked : Asked) → IsSettled told asked → AnswersOnce told asked
answers_once told _ (a_serial file bytes is) all =
    let once : EndsOnce (OfPlan all (told file) SerialEnds) = subst (λ (k : Option (List ℕ)). EndsOnce (OfPlan all k SerialEnds)) (sym is) (plan_once all bytes serial_once) in
    answered_alike (OfPlan all (told file) SerialEnds) once
answers_once told _ (check file bytes is) all =
    let once : EndsOnce (OfPlan all (told file) CheckEnds) = subst (λ (k : Option (List ℕ)). EndsOnce (OfPlan all k CheckEnds)) (sym is) (plan_once all bytes check_once) in
    answered_alike (OfPlan all (told file) CheckEnds) once
answers_once told _ (audit file trace plan_bytes bytes is is') all =
    let P : Option (List ℕ) → Type 0 = λ k. EndsOnce (OfPlan all k (OfAudit all (told trace))) in
    let Q : Option (List ℕ) → Type 0 = λ k. EndsOnce (OfPlan all (Some plan_bytes) (OfAudit all k)) in
    answered_alike (OfPlan all (told file) (OfAudit all (told trace))) (subst P (sym is) (subst Q (sym is') (plan_once all plan_bytes (λ p. trace_once all bytes p SaidNo (audit_once p)))))
answers_once told _ (convert file trace plan_bytes bytes is is') all =
    let P : Option (List ℕ) → Type 0 = λ k. EndsOnce (OfPlan all k (OfConvert all (told trace))) in
    let Q : Option (List ℕ) → Type 0 = λ k. EndsOnce (OfPlan all (Some plan_bytes) (OfConvert all k)) in
    answered_alike (OfPlan all (told file) (OfConvert all (told trace))) (subst P (sym is) (subst Q (sym is') (plan_once all plan_bytes (λ p. trace_once all bytes p NotLawful (convert_once p)))))
answers_once told _ (times file trace plan_bytes bytes is is') all =
    let P : Option (List ℕ) → Type 0 = λ k. EndsOnce (OfPlan all k (OfTimes all (told trace))) in
    let Q : Option (List ℕ) → Type 0 = λ k. EndsOnce (OfPlan all (Some plan_bytes) (OfTimes all k)) in
    answered_alike (OfPlan all (told file) (OfTimes all (told trace))) (subst P (sym is) (subst Q (sym is') (plan_once all plan_bytes (λ p. trace_once all bytes p NotLawful (times_once p)))))
answers_once told _ (why file trace name plan_bytes bytes is is') all =
    let P : Option (List ℕ) → Type 0 = λ k. EndsOnce (OfPlan all k (OfWhy all (told trace) name)) in
    let Q : Option (List ℕ) → Type 0 = λ k. EndsOnce (OfPlan all (Some plan_bytes) (OfWhy all k name)) in
    answered_alike (OfPlan all (told file) (OfWhy all (told trace) name)) (subst P (sym is) (subst Q (sym is') (plan_once all plan_bytes (why_once all bytes name))))
answers_once told _ (make number devices) all = answered_alike (MakeEnds number devices) (make_once number devices)
