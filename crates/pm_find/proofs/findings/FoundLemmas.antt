-- What is told of the counts in a table is what stands out.
use Rattle.std.proofs.Common.{ℕ, suc, zero, ◌≡◌, ◌+◌, ◌<◌, Bool, true, false, not, ◌&&◌, ◌||◌, ◌++◌, List, [], ◌∷◌, Option, Some, None, length, nat_lt, reverse, slice_index_or, if◌then◌else◌, ap, append_assoc, refl, subst, sym, ◌∙◌, arith}
use Rattle.std.specs.List.{flat_map, list_all, range_with_len}
use Rattle.std.specs.Option.{option_map_or}
use Rattle.std.proofs.lemmas.List.{append-nil, length-reverse}
use Rattle.pm_base.specs.declared.ActorId.{ActorId}
use Rattle.pm_base.specs.declared.DevId.{DevId}
use Rattle.pm_model.specs.declared.event.Event.{Event}
use Rattle.pm_model.specs.declared.event.Event.TheVariants as event
use Rattle.pm_model.specs.declared.event.Helper.{Helper}
use Rattle.pm_model.specs.declared.event.Line.{Line}
use Rattle.pm_model.specs.declared.plan.Plan.{Plan}
use Rattle.pm_model.specs.Counted.{only_if, status_of}
use Rattle.pm_model.specs.History.{History}
use Rattle.pm_model.specs.LineOf.{is_line_of}
use Rattle.pm_model.specs.Views.{Views}
use Rattle.pm_model.specs.World.{world}
use Rattle.pm_find.specs.declared.findings.Finding.{Finding}
use Rattle.pm_find.specs.declared.findings.Kind.TheVariants as kind
use Rattle.pm_find.specs.declared.findings.watched.Called.{Called}
use Rattle.pm_find.specs.declared.findings.watched.Count.{Count}
use Rattle.pm_find.specs.findings.AllFound.{Later, all_found, at_line, domains_after, found_after, found_at, found_in, later_of, left_counts, placed_at}
use Rattle.pm_find.specs.findings.Codes.{is_error}
use Rattle.pm_find.specs.findings.Ending.{AreDropped, dropped, left_on}
use Rattle.pm_find.specs.findings.Kept.{Known, known, row_at}
use Rattle.pm_find.specs.findings.OpenCounts.{device_of, is_given, open_counts}
use Rattle.pm_find.specs.findings.Said.{call_by, error_line, failed_line, left_line}
use Rattle.pm_find.specs.findings.StandsOut.{answer, failed, is_poisoned, is_put, is_refused_put, keeps_count, kept, leak, never_on, no_count, poisoned, refused, refused_put, refused_status, stolen}
use Rattle.pm_find.specs.findings.WatchTable.{AreGiven, IsTable, Table, counts_in, given_at, later_in, on_in}
use Rattle.pm_find.proofs.findings.StepLemmas.{front, line_inside, rear}

given_same : (f g : ℕ → Bool) → ((m : ℕ) → f m ≡ g m) → (o : Option Count) → option_map_or (λ count. f count.line) o true ≡ option_map_or (λ count. g count.line) o true
given_same f g same (Some count) = same count.line
given_same f g same None = refl

-- an answer is told by whether each count is given back
answer_same : (f g : ℕ → Bool) → ((m : ℕ) → f m ≡ g m) → (error fails : ℕ) (counts : List Count) (called : Option Called) (actor : ActorId) (e : Event)
    → answer error fails counts f called actor e ≡ answer error fails counts g called actor e
answer_same f g same error fails counts called actor (event.Ret h d code) =
    ap (λ b. only_if (is_error code && not (is_poisoned error called h code) && not (is_refused_put called h))
    (kind.Answer actor h d code (keeps_count counts called actor) (is_put h || (option_map_or (λ call. nat_lt call.line fails) called false && b))))
    (given_same f g same (kept counts called actor))
answer_same f g same error fails counts called actor e = refl

-- what stands out at a line, by what is left of its device and by an answer
at_is : (later : Later) (h : History) (line : Line) (left : List Count) (given : ℕ → Bool) → later.left (device_of line.event) ≡ left → ((m : ℕ) → later.given m ≡ given m)
    → found_at later h line ≡ found_at (record { left = λ d. left; given = given }) h line
at_is later h line left given is same =
    let n = length h + 1 in
    let d = device_of line.event in
    let called = call_by h line.actor in
    ap (λ l. (at_line n (leak l n called line.actor line.event)
    ++ at_line n (stolen (open_counts h d) line.actor line.event)
    ++ at_line n (never_on (open_counts h d) (status_of h d) (left_line h d) line.actor line.event))
    ++ (at_line n (answer (error_line h d) (failed_line h d) (open_counts h d) later.given called line.actor line.event)
    ++ at_line n (refused line.actor line.event)
    ++ at_line n (refused_status line.actor line.event)
    ++ at_line n (refused_put called line.actor line.event)
    ++ at_line n (no_count line.actor line.event)
    ++ at_line n (poisoned (error_line h d) (open_counts h d) called line.actor line.event))
    ++ at_line n (failed line.event)) is
    ∙ ap (λ a. (at_line n (leak left n called line.actor line.event)
    ++ at_line n (stolen (open_counts h d) line.actor line.event)
    ++ at_line n (never_on (open_counts h d) (status_of h d) (left_line h d) line.actor line.event))
    ++ (at_line n a
    ++ at_line n (refused line.actor line.event)
    ++ at_line n (refused_status line.actor line.event)
    ++ at_line n (refused_put called line.actor line.event)
    ++ at_line n (no_count line.actor line.event)
    ++ at_line n (poisoned (error_line h d) (open_counts h d) called line.actor line.event))
    ++ at_line n (failed line.event)) (answer_same later.given given same (error_line h d) (failed_line h d) (open_counts h d) called line.actor line.event)

-- what is known later matters only for the plan's devices
found_same : (plan : Plan) (f g : Later) (h : History) → ((d : DevId) → d.0 < length plan.devices + 1 → f.left d ≡ g.left d) → ((m : ℕ) → f.given m ≡ g.given m)
    → list_all (is_line_of plan) h ≡ true → found_in plan f h ≡ found_in plan g h
found_same plan f g [] left given of_plan = refl
found_same plan f g (line ∷ h) left given of_plan =
    let inside = line_inside plan line (front (is_line_of plan line) (list_all (is_line_of plan) h) of_plan) in
    ap (λ l. l ++ (found_at f h line ++ placed_at plan h line)) (found_same plan f g h left given (rear (is_line_of plan line) (list_all (is_line_of plan) h) of_plan))
    ∙ ap (λ l. found_in plan g h ++ (l ++ placed_at plan h line))
    (at_is f h line (g.left (device_of line.event)) g.given (left (device_of line.event) inside) given
    ∙ sym (at_is g h line (g.left (device_of line.event)) g.given refl (λ m. refl)))

left_is : (b : Bool) (devices callers : ℕ) (run : History) (left : Table) → IsTable devices callers (if b then run else []) left → (d : DevId) → d.0 < devices
    → counts_in left d ≡ left_counts b run d
left_is true devices callers run left table d within = ap (λ (x : Known). x.counts) (table.known.each d within)
left_is false devices callers run left table d within = ap (λ (x : Known). x.counts) (table.known.each d within)

flat_same : {X : Type 0} (f g : ℕ → List X) (a n : ℕ) → ((k : ℕ) → k < a + n → f k ≡ g k) → flat_map f (range_with_len a n) ≡ flat_map g (range_with_len a n)
flat_same f g a zero same = refl
flat_same f g a (suc n) same = ap (λ l. l ++ flat_map f (range_with_len (a + 1) n)) (same a (omega arith)) ∙ ap (λ l. g a ++ l) (flat_same f g (a + 1) n (λ k below. same k (omega arith)))

-- what is told of each device at the end is what stands out there
pub on_is : (plan : Plan) (run : History) (v : Views) (ends : Table) (drops : List Bool) (number : ℕ) → number ≡ length run → v ≡ (world plan run).views
    → IsTable (length plan.devices + 1) (length plan.callers) run ends → AreDropped plan run drops
    → flat_map (λ d. at_line number (on_in plan v ends drops (record { 0 = d }))) (range_with_len 0 (length plan.devices)) ≡ found_after plan run
on_is plan run v ends drops number is viewed table dropped_is =
    flat_same _ (λ d. at_line number (left_on plan v (open_counts run (record { 0 = d })) (dropped plan run (record { 0 = d })) (record { 0 = d }))) 0 (length plan.devices)
    (λ k below.
    ap (λ (x : Known). at_line number (left_on plan v x.counts (slice_index_or drops k false) (record { 0 = k }))) (table.known.each (record { 0 = k }) (omega arith))
    ∙ ap (λ b. at_line number (left_on plan v (open_counts run (record { 0 = k })) b (record { 0 = k }))) (dropped_is.each (record { 0 = k }) (omega arith)))
    ∙ ap (λ (x : Views). flat_map (λ d. at_line number (left_on plan x (open_counts run (record { 0 = d })) (dropped plan run (record { 0 = d })) (record { 0 = d }))) (range_with_len 0 (length plan.devices))) viewed
    ∙ ap (λ m. flat_map (λ d. at_line m (left_on plan (world plan run).views (open_counts run (record { 0 = d })) (dropped plan run (record { 0 = d })) (record { 0 = d }))) (range_with_len 0 (length plan.devices))) is

all_is : (plan : Plan) (b : Bool) (run : History) (left ends : Table) → list_all (is_line_of plan) run ≡ true
    → IsTable (length plan.devices + 1) (length plan.callers) (if b then run else []) left → AreGiven run ends.given
    → found_in plan (later_in left ends) run ≡ found_in plan (later_of b run) run
all_is plan b run left ends of_plan table given =
    found_same plan (later_in left ends) (later_of b run) run (left_is b (length plan.devices + 1) (length plan.callers) run left table) given.each of_plan

-- of a run that isn't finished
pub unfinished_is : (plan : Plan) (b : Bool) (run : History) (none ends : Table) (all : List Finding) → b ≡ false → list_all (is_line_of plan) run ≡ true
    → IsTable (length plan.devices + 1) (length plan.callers) [] none → IsTable (length plan.devices + 1) (length plan.callers) run ends
    → all ≡ found_in plan (later_in none ends) run → all ≡ all_found plan b run
unfinished_is plan b run none ends all off of_plan empty table is =
    is ∙ all_is plan false run none ends of_plan empty table.given
    ∙ sym (append-nil (found_in plan (later_of false run) run))
    ∙ ap (λ c. found_in plan (later_of c run) run ++ (if c then found_after plan run ++ domains_after plan run else [])) (sym off)

-- of a finished run
pub finished_is : (plan : Plan) (b : Bool) (lines : List Line) (ends : Table) (v : Views) (drops : List Bool) (number : ℕ) (all after told : List Finding) → b ≡ true
    → list_all (is_line_of plan) (reverse lines) ≡ true → IsTable (length plan.devices + 1) (length plan.callers) (reverse lines) ends
    → number ≡ length lines → v ≡ (world plan (reverse lines)).views → AreDropped plan (reverse lines) drops
    → all ≡ found_in plan (later_in ends ends) (reverse lines)
    → after ≡ all ++ flat_map (λ d. at_line number (on_in plan v ends drops (record { 0 = d }))) (range_with_len 0 (length plan.devices))
    → (number ≡ length (reverse lines) → told ≡ after ++ domains_after plan (reverse lines))
    → told ≡ all_found plan b (reverse lines)
finished_is plan b lines ends v drops number all after told on of_plan table counted viewed dropped_is is more last =
    let run = reverse lines in
    let devices_on = found_after plan run in
    let domains_on = domains_after plan run in
    let numbered = counted ∙ sym (length-reverse lines) in
    last numbered
    ∙ ap (λ l. l ++ domains_on) (more
    ∙ ap (λ l. all ++ l) (on_is plan run v ends drops number numbered viewed table dropped_is)
    ∙ ap (λ l. l ++ devices_on) (is ∙ all_is plan true run ends ends of_plan table table.given))
    ∙ append_assoc (found_in plan (later_of true run) run) devices_on domains_on
    ∙ ap (λ c. found_in plan (later_of c run) run ++ (if c then devices_on ++ domains_on else [])) (sym on)
