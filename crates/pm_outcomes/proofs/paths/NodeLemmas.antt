-- The lawful list of a node of a search.
use Rattle.std.proofs.Common.{ℕ, zero, suc, ◌≡◌, ◌<◌, ◌≤◌, ◌+◌, ◌*◌, Bool, [], ◌∷◌, List, length, map, Some, slice_get, refl, sym, subst, ◌∙◌, ap, arith}
use Rattle.pm_model.specs.declared.event.Line.{Line}
use Rattle.pm_model.specs.declared.plan.Plan.{Plan}
use Rattle.pm_model.specs.History.{History}
use Rattle.pm_model.specs.Lawful.{IsLawful, Permits, last_time}
use Rattle.pm_explore.specs.declared.schedule.Pace.{Pace}
use Rattle.pm_explore.specs.schedule.Schedules.{snapshot}
use Rattle.pm_explore.specs.schedule.Snapshots.{Follows, IsTimely, MayFollow, Snapshot, after, start_snapshot}
use Rattle.pm_explore.specs.search.Trees.{HasPath, IsTree, IsPath}
use Rattle.pm_explore.specs.search.Trees.IsPath.{begins, leads_on}
use Rattle.pm_outcomes.specs.paths.Found.{IsTooFar}
use Rattle.pm_outcomes.specs.paths.Runs.{IsListTo}
use Rattle.pm_outcomes.proofs.paths.ListLemmas.{some_is}
use Rattle.pm_outcomes.proofs.paths.RunLemmas.{AreNear}
use Rattle.pm_outcomes.proofs.paths.PathLemmas.{path_some}

permits : (plan : Plan) (h : History) (line : Line) → MayFollow plan (snapshot plan h) line → Permits plan h line
permits plan h line p = record { stage = p.stage; stands = p.stands; change = p.change; next = p.next; gives = p.gives; in_time = p.in_time }

-- one more line
list_more : (pace : Pace) (plan : Plan) (b : Bool) (from to : Snapshot) (n : ℕ) → AreNear pace plan → n < plan.lines → IsListTo plan from n → Follows pace plan b from to → IsListTo plan to (suc n)
list_more pace plan b from to n near room l f = record {
  list = f.line ∷ l.list;
  lawful = (permits plan l.list f.line (subst (λ (s : Snapshot). MayFollow plan s f.line) (sym l.stands) f.may), (let many = l.many in omega (arith, many, room)), l.lawful);
  stands = ap (λ (s : Snapshot). after plan s f.line) l.stands ∙ sym f.leads;
  many = ap suc l.many;
  early =
      let soon = near l.list f.line l.lawful (subst (λ (s : Snapshot). IsTimely pace plan s f.line) (sym l.stands) f.timely) in
      let was : last_time l.list ≡ from.time = ap (λ (s : Snapshot). s.time) l.stands in
      let now : to.time ≡ f.line.time = ap (λ (s : Snapshot). s.time) f.leads in
      let before = l.early in
      omega (arith, soon, was, now, before);
}

no_lines : (plan : Plan) (s : Snapshot) → s ≡ start_snapshot plan → IsListTo plan s 0
no_lines plan s is = subst (λ (x : Snapshot). IsListTo plan x 0) (sym is) (record { list = []; lawful = tt; stands = refl; many = refl; early = omega arith })

-- a node has a lawful list, of one line less than its path has places
path_list : (pace : Pace) (plan : Plan) (points : List Snapshot) (parents : List ℕ) → IsTree (Follows pace plan) (start_snapshot plan) points parents → AreNear pace plan → (at : ℕ) (path : List ℕ) → IsPath parents at path
    → (n : ℕ) → length path ≡ suc n → n ≤ plan.lines → (s : Snapshot) → slice_get points at ≡ Some s → IsListTo plan s n
path_list pace plan points parents tree near _ _ begins zero long room s there = no_lines plan s (tree.first s there)
path_list pace plan points parents tree near _ _ begins (suc n) long room s there = absurd (omega (arith, long))
path_list pace plan points parents tree near _ _ (leads_on {parent = parent} {path = path} i pos is rest) zero long room s there =
    absurd (let some = path_some parents parent path rest in omega (arith, some, long))
path_list pace plan points parents tree near _ _ (leads_on {parent = parent} {path = path} i pos is rest) (suc n) long room s there =
    let step = tree.leads i parent pos is in
    let before = path_list pace plan points parents tree near parent path rest n (omega (arith, long)) (omega (arith, room)) step.1.point step.1.at in
    let to : step.1.next ≡ s = some_is step.1.next s (sym step.1.next_at ∙ there) in
    list_more pace plan step.0 step.1.point s n near (omega (arith, room)) before (subst (Follows pace plan step.0 step.1.point) to step.1.follows)

pub node_list : (pace : Pace) (plan : Plan) (points : List Snapshot) (parents : List ℕ) (at count : ℕ) (s : Snapshot) → IsTree (Follows pace plan) (start_snapshot plan) points parents → AreNear pace plan → HasPath parents at count → count < plan.lines
    → slice_get points at ≡ Some s → IsListTo plan s count
node_list pace plan points parents at count s tree near path room there =
    path_list pace plan points parents tree near at path.path path.leads count (let many = path.many in omega (arith, many)) (omega (arith, room)) s there

-- so many steps are too many
pub too_far : (plan : Plan) (parents : List ℕ) (at steps : ℕ) → HasPath parents at steps → plan.lines ≤ steps → IsTooFar plan parents at
too_far plan parents at steps path far = record { path = path.path; leads = path.leads; far = let many = path.many in omega (arith, many, far) }
