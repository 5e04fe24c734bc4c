-- The counts of a plan's run on one thread, line by line.
use Rattle.std.proofs.Common.{◌≡◌, ◌∙◌, ℕ, ◌+◌, ◌<◌, ◌≤◌, ◌^◌, Bool, false, true, ◌&&◌, ◌++◌, List, [], ◌∷◌, Some, length, reverse, slice_get, take, ap, arith, sym}
use Rattle.std.proofs.lemmas.Bool.{and_parts, leb-true}
use Rattle.std.proofs.lemmas.List.{length-reverse, length-take, take_all, take_more}
use Rattle.std.proofs.lemmas.Option.{get_or_from_slice_get, slice_get_within}
use Rattle.pm_base.specs.declared.limits.TheConstants.{MAX_LINES}
use Rattle.pm_model.specs.declared.event.Line.{Line}
use Rattle.pm_model.specs.declared.plan.Plan.{Plan}
use Rattle.pm_model.specs.IsPlan.{is_plan}
use Rattle.pm_model.specs.Lawful.{IsLawful}
use Rattle.pm_model.specs.Serial.{serial}
use Rattle.pm_report.specs.declared.counts.Summary.{Summary}
use Rattle.pm_report.specs.Report.{summary, summary_text}

-- the counts of one line more
pub counts_more : (plan : Plan) (lines : List Line) (came : ℕ) (line : Line) (sum next : Summary) → slice_get lines came ≡ Some line → sum ≡ summary plan (take came lines) false
    → ((p : Plan) (l : List Line) (finished : Bool) → sum ≡ summary p l finished → next ≡ summary p (l ++ line ∷ []) finished) → next ≡ summary plan (take (came + 1) lines) false
counts_more plan lines came line sum next here counts goes =
    goes plan (take came lines) false counts
    ∙ ap (λ (l : List Line). summary plan l false) (ap (λ (x : Line). take came lines ++ x ∷ []) (sym (get_or_from_slice_get lines came line line here)) ∙ sym (take_more lines came line (slice_get_within lines came line here)))

pub counts_all : (plan : Plan) (lines : List Line) (came : ℕ) (sum : Summary) → came ≡ length lines → sum ≡ summary plan (take came lines) false → sum ≡ summary plan lines false
counts_all plan lines came sum all counts = counts ∙ ap (λ n. summary plan (take n lines) false) all ∙ ap (λ (l : List Line). summary plan l false) (take_all (length lines) lines (omega arith))

-- and how the run ended
pub counts_ended : (plan : Plan) (lines : List Line) (sum : Summary) (f g : Bool) → sum ≡ summary plan lines false → f ≡ g → summary_text (record sum { finished = f }) ≡ summary_text (summary plan lines g)
counts_ended plan lines sum f g counts ended = ap (λ (s : Summary). summary_text (record s { finished = f })) counts ∙ ap (λ b. summary_text (summary plan lines b)) ended

-- one line more can be counted
pub few_more : (plan : Plan) (lines : List Line) (came : ℕ) (line : Line) (sum : Summary) → slice_get lines came ≡ Some line → sum ≡ summary plan (take came lines) false → length lines < 2 ^ 32 → sum.lines + 1 < 2 ^ 32
few_more plan lines came line sum here counts few =
    let within = slice_get_within lines came line here in
    let many : sum.lines ≡ length (take came lines) = ap (λ (s : Summary). s.lines) counts in
    omega (arith, within, many, length-take came lines, few)

-- a lawful list has no more lines than its plan allows, of which there are few
lawful_len : (plan : Plan) (h : List Line) → IsLawful plan h → length h ≤ plan.lines
lawful_len plan [] lawful = omega arith
lawful_len plan (line ∷ h) lawful = let more : length h < plan.lines = lawful.1 in omega arith

front : (a b : Bool) → (a && b) ≡ true → a ≡ true
front a b both = (and_parts a b both).0

few_lines : (plan : Plan) → plan.lines ≤ MAX_LINES
few_lines plan =
    let law : is_plan plan.lines plan.trace plan.domains plan.devices plan.links plan.callers ≡ true = plan.law in
    let limits = front _ _ (front _ _ (front _ _ (front _ _ (front _ _ (front _ _ (front _ _ (front _ _ (front _ _ (front _ _ (front _ _ (front _ _ (front _ _ (front _ _ law))))))))))))) in
    leb-true _ _ (and_parts _ _ limits).1

pub few_serial : (plan : Plan) → IsLawful plan (reverse (serial plan)) → length (serial plan) < 2 ^ 32
few_serial plan lawful =
    let most : length (reverse (serial plan)) ≤ plan.lines = lawful_len plan (reverse (serial plan)) lawful in
    let few : plan.lines ≤ MAX_LINES = few_lines plan in
    omega (arith, most, few, length-reverse (serial plan))
