-- What is told, put together.
use Rattle.std.proofs.Common.{◌≡◌, ◌∙◌, ◌≤◌, ℕ, List, [], ◌++◌, ap, codes, flat_map, length, map, Ok, refl}
use Rattle.std.specs.List.{All}
use Rattle.std.proofs.lemmas.List.{length-map}
use Rattle.std.proofs.lemmas.List.Elements.{All-map, All-weaker}
use Rattle.std.proofs.lemmas.List.Folds.{flat_map-map}
use Rattle.pm_planread.specs.Messages.{refusal_text}
use Rattle.pm_planread.specs.PlanOf.{IsFaultOf, plan_of}
use Rattle.pm_planread.specs.declared.refusal.PlanFault.{PlanFault}
use Rattle.pm_planread.specs.declared.refusal.PlanFault.TheVariants as fault
use Rattle.pm_planread.specs.declared.refusal.PlanWhy.{PlanWhy}
use Rattle.pm_planread.specs.declared.tree.place.Section.{Section}
use Rattle.pm_messages.specs.located.Told.{token_of, told_of}
use Rattle.pm_messages.specs.declared.located.located.Located.{Located}
use Rattle.pm_say.specs.Faults.{IsIn, Tells}
use Rattle.pm_say.specs.Says.{IsNoPlan, Says, TellsOf, of_fault}
use Rattle.pm_say.specs.declared.told.NoPlan.{NoPlan}
use Rattle.pm_say.specs.declared.told.NoPlan.TheVariants as no_plan
use Rattle.pm_say.specs.declared.told.Said.{Said}
use Rattle.pm_say.specs.declared.told.Kind.TheVariants.{Refused}

-- a token that is within the text stands in it
token_in : (text : List ℕ) (located : Located) → located.span.end ≤ length text → IsIn text (token_of located)
token_in text located within = record { ordered = located.span.ordered; within = within }

tokens_in : (text : List ℕ) (all : List Located) → All (λ located. located.span.end ≤ length text) all → All (IsIn text) (map token_of all)
tokens_in text all within =
    All-map (IsIn text) token_of all
    (All-weaker (λ located. located.span.end ≤ length text) (λ located. IsIn text (token_of located)) (token_in text) all within)

-- three pieces, one behind the other
pub three_pieces : (none first second third one two three : List ℕ) → none ≡ [] → one ≡ none ++ first → two ≡ one ++ second → three ≡ two ++ third
    → three ≡ (first ++ second) ++ third
three_pieces none first second third one two three empty with_first with_second with_third =
    with_third ∙ ap (λ (x : List ℕ). x ++ third) (with_second ∙ ap (λ (x : List ℕ). x ++ second) (with_first ∙ ap (λ (x : List ℕ). x ++ first) empty))

pub tells_at : (file text : List ℕ) (why : PlanWhy) (section : Section) (item part : ℕ) (first : Located) (others : List Located) (told : List ℕ)
    → first.span.end ≤ length text → All (λ located. located.span.end ≤ length text) others → length others ≤ 19
    → told ≡ told_of file text (codes "error") (token_of first) ++ flat_map (λ located. told_of file text (codes "error") (token_of located)) others
    ++ refusal_text why section item part
    → Tells file text (fault.Refused why section item part) told
tells_at file text why section item part first others told within all_within few is = record {
  first = token_of first;
  first_in = token_in text first within;
  others = map token_of others;
  others_in = tokens_in text others all_within;
  few = rw (length-map others token_of) few;
  is = rw (flat_map-map (told_of file text (codes "error")) token_of others) is;
}

pub no_plan_told : (file text : List ℕ) (told_fault : PlanFault) (no : NoPlan) → IsFaultOf (plan_of text) told_fault → TellsOf file text told_fault no → IsNoPlan file text no
no_plan_told file text told_fault no_plan.NoMemory is tells = tt
no_plan_told file text fault.NoMemory (no_plan.Refused told) is tells = absurd tells
no_plan_told file text (fault.Refused why section item part) (no_plan.Refused told) is tells = (fault.Refused why section item part, is, tells)

pub says_fault : (file text : List ℕ) (said : Said) → IsNoPlan file text (no_plan.Refused said.text) → said.kind ≡ Refused → Says file text said
says_fault file text said refusal kind = of_fault refusal.0 refusal.1 kind refusal.2
