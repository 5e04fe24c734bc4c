-- What is told, put together.
use Rattle.std.proofs.Common.{ℕ, ◌≡◌, ◌++◌, Bool, true, false, List, Result, Ok, Err, IfOk, Vec, Global, length, map, reverse, ap, sym, subst, ◌∙◌}
use Rattle.std.specs.Prelude.{◌||◌}
use Rattle.std.proofs.lemmas.List.{length-reverse}
use Rattle.pm_expect.specs.declared.expectation.End.{End}
use Rattle.pm_expect.specs.declared.expectation.Expectations.{Expectations}
use Rattle.pm_expect.specs.verdicts.Verdicts.{end_by, end_verdict, judged}
use Rattle.pm_expect.specs.declared.verdicts.verdict.Judged.{Judged}
use Rattle.pm_expect.specs.declared.verdicts.verdict.Leaves.{Leaves}
use Rattle.pm_expect.specs.text.Items.{end_item, has_failed}
use Rattle.pm_expect.specs.declared.text.items.Item.{Item}
use Rattle.pm_find.specs.trace.Telling.{IsFound}
use Rattle.pm_find.specs.trace.Texts.{Files, has_fault, run_found}
use Rattle.pm_find.specs.declared.trace.telling.Found.{Found}
use Rattle.pm_model.specs.FirstBad.{StandsFor}
use Rattle.pm_model.specs.History.{History}
use Rattle.pm_model.specs.Lawful.{IsLawful, is_finished}
use Rattle.pm_model.specs.NoWhy.{NoWhy}
use Rattle.pm_model.specs.Text.{names_of}
use Rattle.pm_model.specs.Verdict.{IsVerdict, No}
use Rattle.pm_model.specs.Views.{Views}
use Rattle.pm_model.specs.World.{world}
use Rattle.pm_model.specs.declared.event.Line.{Line}
use Rattle.pm_model.specs.declared.plan.Plan.{Plan}
use Rattle.pm_expect_report.specs.trace.Checks.{IsBadTold, IsKtapRun, IsPlainRun, IsRunTold, IsToldOf, bad, stands}
use Rattle.pm_expect_report.specs.trace.Items.{items_in}
use Rattle.pm_expect_report.specs.trace.Plain.{IsPlain}

-- the ends of a run
pub ends_told : {E : Type 0} (r : Result (Vec Item Global) E) (plan of : Plan) (h : History) (lines : List Line) (finished : Bool) (views : Views) (ends asked : List End) (js told : List (Judged End Leaves))
    → of ≡ plan → reverse lines ≡ h → finished ≡ is_finished plan (world plan h) → views ≡ (world plan h).views → asked ≡ ends
    → js ≡ map (judged (end_by (length lines) finished views)) asked → told ≡ js
    → IfOk r (λ (v : Vec Item Global). v.items ≡ map (end_item (names_of of)) told)
    → IfOk r (λ (v : Vec Item Global). v.items ≡ map (end_item (names_of plan)) (map (judged (end_verdict plan h)) ends))
ends_told (Err e) plan of h lines finished views ends asked js told same these over stand named judging same_js is = tt
ends_told (Ok v) plan of h lines finished views ends asked js told same these over stand named judging same_js is =
    is ∙ ap (λ (p : Plan). map (end_item (names_of p)) told) same
    ∙ ap (map (end_item (names_of plan)))
    (same_js ∙ judging
    ∙ ap (λ (n : ℕ). map (judged (end_by n finished views)) asked) (sym (length-reverse lines) ∙ ap length these)
    ∙ ap (λ (f : Bool). map (judged (end_by (length h) f views)) asked) over
    ∙ ap (λ (v : Views). map (judged (end_by (length h) (is_finished plan (world plan h)) v)) asked) stand
    ∙ ap (map (judged (end_verdict plan h))) named)

-- a run in plain words
pub plain_told : {E : Type 0} (r : Result Found E) (plan : Plan) (h : History) (file text : List ℕ) (all : Expectations) (files : Files) (notes : Bool) (found : Found) (given shown : List Item) (failed written : List ℕ)
    → IsFound plan h files notes found → given ≡ items_in plan h all → shown ≡ items_in plan h all → written ≡ failed → IsPlain file text files.trace given failed
    → IfOk r (λ (t : Found). t.text.items ≡ found.text.items ++ written) → IfOk r (λ (t : Found). t.stands_out ≡ (found.stands_out || has_failed shown))
    → IfOk r (IsPlainRun plan h file text all files notes)
plain_told (Err e) plan h file text all files notes found given shown failed written is_found given_is shown_is written_is plain text_is stands_is = tt
plain_told (Ok t) plan h file text all files notes found given shown failed written is_found given_is shown_is written_is plain text_is stands_is = record {
  run = found.text.items;
  tells = is_found.tells;
  failed = failed;
  is_plain = subst (λ (l : List Item). IsPlain file text files.trace l failed) given_is plain;
  text_is = text_is ∙ ap (λ (x : List ℕ). found.text.items ++ x) written_is;
  stands_out_is =
      stands_is ∙ ap (λ (b : Bool). b || has_failed shown) is_found.stands_out_is ∙ ap (λ (l : List Item). has_fault (run_found plan h) || has_failed l) shown_is;
}

-- in the one way or the other
pub told_ktap : {E : Type 0} (r : Result Found E) (plan : Plan) (h : History) (file text : List ℕ) (all : Expectations) (files : Files) (ktap notes : Bool) → ktap ≡ true
    → IfOk r (λ found. IsKtapRun plan h all files.trace found) → IfOk r (λ found. IsRunTold plan h file text all files ktap notes found)
told_ktap r plan h file text all files true notes so is = is
told_ktap r plan h file text all files false notes so is = cc

pub told_plain : {E : Type 0} (r : Result Found E) (plan : Plan) (h : History) (file text : List ℕ) (all : Expectations) (files : Files) (ktap notes : Bool) → ktap ≡ false
    → IfOk r (λ found. IsPlainRun plan h file text all files notes found) → IfOk r (λ found. IsRunTold plan h file text all files ktap notes found)
told_plain r plan h file text all files false notes so is = is
told_plain r plan h file text all files true notes so is = cc

-- the bytes of a trace stand for a lawful list
pub told_lawful : {E : Type 0} (r : Result Found E) (plan of : Plan) (h : History) (file text : List ℕ) (all : Expectations) (files : Files) (bytes : List ℕ) (ktap notes : Bool) → of ≡ plan → IsLawful plan h → StandsFor plan bytes h
    → IfOk r (λ found. IsRunTold of h file text all files ktap notes found) → IfOk r (λ found. IsToldOf plan file text all files bytes ktap notes found)
told_lawful (Ok found) plan of h file text all files bytes ktap notes same lawful stands_for is =
    stands h lawful stands_for (subst (λ (p : Plan). IsRunTold p h file text all files ktap notes found) same is)
told_lawful (Err e) plan of h file text all files bytes ktap notes same lawful stands_for is = tt

-- or they have a first bad line
pub told_bad : {E : Type 0} (r : Result Found E) (plan : Plan) (file text : List ℕ) (all : Expectations) (files : Files) (bytes : List ℕ) (ktap notes : Bool) (n : ℕ) (why : NoWhy) → IsVerdict plan bytes (No n why)
    → IfOk r (λ found. IsBadTold files.trace ktap n why found) → IfOk r (λ found. IsToldOf plan file text all files bytes ktap notes found)
told_bad (Ok found) plan file text all files bytes ktap notes n why verdict is = bad n why verdict is
told_bad (Err e) plan file text all files bytes ktap notes n why verdict is = tt
