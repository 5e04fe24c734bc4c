-- What `orders` comes to.
use Rattle.std.proofs.Common.{◌≡◌, ◌∙◌, ℕ, Bool, List, ap, length, subst, sym}
use Rattle.std.proofs.lemmas.List.{length-map}
use Rattle.pm_cmd_ends.specs.Ending.{Taking}
use Rattle.pm_cmd_lab.specs.ends.Coming.{Came, Work, Writes, ending_of}
use Rattle.pm_cmd_lab.specs.ends.Ending.{Ending}
use Rattle.pm_cmd_lab.specs.declared.ends.ending.Outcome.{Outcome}
use Rattle.pm_cmd_lab.proofs.ends.EndLemmas.{came_weaker}
use Rattle.pm_cmd_lab.specs.orders.Found.{IsFound}
use Rattle.pm_cmd_lab.specs.orders.Orders.{reach}
use Rattle.pm_lab_words.specs.declared.request.Bounds.{Bounds}
use Rattle.pm_model.specs.declared.plan.Plan.{Plan}
use Rattle.pm_outcomes.specs.text.Reached.{reach_of}
use Rattle.pm_outcomes.specs.text.Texts.{told}
use Rattle.pm_outcomes.specs.declared.text.reach.Reach.{Reach}
use Rattle.pm_outcomes.specs.declared.find.finding.Outcomes.{Outcomes}

-- a text that was written is an ending, where the ending of this outcome and this text is one
pub text_written : (Ends : Ending → Type 0) (told outcome : Outcome) (piece text : List ℕ) (out : Taking) (work : Work)
    → Ends (ending_of outcome text) → told ≡ outcome → piece ≡ text → Came (Writes told piece) work ⊥ out → Came Ends work ⊥ out
text_written Ends told outcome piece text out work ends same_told same came =
    came_weaker (Writes told piece) Ends ⊥ ⊥
    (λ ending is. subst Ends (sym (is ∙ (ap (λ (o : Outcome). ending_of o piece) same_told ∙ ap (λ (t : List ℕ). ending_of outcome t) same))) ends)
    (λ none. none) out work came

-- how far the search is exact is how far the observations are, and so many snapshots are those that were found
pub reach_is : (bounds : Bounds) (plan : Plan) (all : Outcomes) (f : IsFound bounds plan all) → reach_of all.found.ended (length all.found.rounds.items) ≡ reach f.found
reach_is bounds plan all f =
    ap (λ e. reach_of e (length all.found.rounds.items)) (sym f.ended) ∙ ap (λ (r : List ℕ). reach_of f.found.ended (length r)) (sym f.rounds)

pub snapshots_are : (bounds : Bounds) (plan : Plan) (all : Outcomes) (f : IsFound bounds plan all) → length all.found.tree.nodes.keys ≡ length f.found.snapshots
snapshots_are bounds plan all f = sym (ap length f.snapshots ∙ length-map all.found.tree.nodes.keys _)

-- the text of what was found
pub told_is : (bounds : Bounds) (plan : Plan) (differ : Bool) (all : Outcomes) (f : IsFound bounds plan all)
    → told plan differ (reach_of all.found.ended (length all.found.rounds.items)) (length all.found.tree.nodes.keys) all.observations.items ≡ told plan differ (reach f.found) (length f.found.snapshots) f.found.observations
told_is bounds plan differ all f =
    ap (λ (r : Reach). told plan differ r (length all.found.tree.nodes.keys) all.observations.items) (reach_is bounds plan all f)
    ∙ (ap (λ (n : ℕ). told plan differ (reach f.found) n all.observations.items) (snapshots_are bounds plan all f)
    ∙ ap (told plan differ (reach f.found) (length f.found.snapshots)) (sym f.observations))
