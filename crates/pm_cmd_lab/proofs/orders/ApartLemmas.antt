-- What was found of islands, one by one.
use Rattle.std.proofs.Common.{◌≡◌, ◌∙◌, ℕ, ◌+◌, Bool, true, false, List, [], ◌∷◌, ◌++◌, ap, length, refl, subst, sym, arith, flat_map, if◌then◌else◌}
use Rattle.std.specs.List.{range_with_len}
use Rattle.std.proofs.lemmas.List.{append-nil, map-append, map-id}
use Rattle.std.proofs.lemmas.List.Concat.{flat_map-append}
use Rattle.std.proofs.lemmas.List.FromFn.{map-range_with_len_more}
use Rattle.std.proofs.lemmas.List.Sums.{fold-append, sum_by_push}
use Rattle.pm_outcomes.proofs.islands.Numbering.{loose_within, numbers_are}
use Rattle.pm_outcomes.specs.islands.Homes.{at_home, has_rest}
use Rattle.pm_islands.specs.Numbers.{AreIslands, NodeNumbers, island_in}
use Rattle.pm_cmd_lab.specs.orders.Apart.{IsAdded, IsApart, IsSoFar}
use Rattle.pm_cmd_lab.specs.orders.Found.{IsFound}
use Rattle.pm_cmd_lab.specs.orders.Orders.{IslandFound, both, outcomes_in, own_outcomes, own_snapshots, reach, reach_in, snapshots_in}
use Rattle.pm_cmd_lab.specs.declared.orders.apart.Apart.{Apart}
use Rattle.pm_cmd_lab.proofs.orders.SchedulesLemmas.{reach_is, snapshots_are}
use Rattle.pm_lab_words.specs.declared.request.Bounds.{Bounds}
use Rattle.pm_outcomes.specs.declared.list.observations.Outcome.{Outcome}
use Rattle.pm_model.specs.declared.plan.Plan.{Plan}
use Rattle.pm_model.specs.Islands.{IsPart, Node}
use Rattle.pm_outcomes.specs.text.Reached.{reach_of}
use Rattle.pm_outcomes.specs.text.Texts.{told}
use Rattle.pm_outcomes.specs.declared.text.reach.Reach.{Reach}
use Rattle.pm_outcomes.specs.declared.text.reach.Reach.TheVariants.{All}
use Rattle.pm_outcomes.specs.declared.find.finding.Outcomes.{Outcomes}

-- one island more
pub added : (bounds : Bounds) (plan part : Plan) (island : Node → ℕ) (n : ℕ) (all : Outcomes) (old new : Apart) → IsFound bounds part all → IsPart plan island n part
    → new.observations.items ≡ old.observations.items ++ at_home island n all.observations.items → new.reach ≡ both old.reach (reach_of all.found.ended (length all.found.rounds.items))
    → new.snapshots ≡ old.snapshots + length all.found.tree.nodes.keys → IsAdded bounds plan island n old new
added bounds plan part island n all old new f is observations reached snapshots = record {
  one = record { number = n; part = part; is_part = is; found = f.found };
  number = refl;
  observations = observations ∙ ap (λ l. old.observations.items ++ at_home island n l) (sym f.observations);
  reach_is = reached ∙ ap (both old.reach) (reach_is bounds part all f);
  snapshots = snapshots ∙ ap (λ m. old.snapshots + m) (snapshots_are bounds part all f);
}

range_more : (i : ℕ) → range_with_len 0 (i + 1) ≡ range_with_len 0 i ++ i ∷ []
range_more i = sym (map-id (range_with_len 0 (i + 1))) ∙ map-range_with_len_more (λ x. x) 0 i i (omega arith) ∙ ap (λ l. l ++ i ∷ []) (map-id (range_with_len 0 i))

-- behind those before it
pub none_yet : (bounds : Bounds) (plan : Plan) (island : Node → ℕ) (all : Apart) → all.observations.items ≡ [] → all.reach ≡ All → all.snapshots ≡ 0 → IsSoFar bounds plan island 0 all
none_yet bounds plan island all observations reached snapshots = record { islands = []; numbers = refl; observations = observations; reach_is = reached; snapshots = snapshots }

pub one_more : (bounds : Bounds) (plan : Plan) (island : Node → ℕ) (n : ℕ) (old new : Apart) → IsSoFar bounds plan island n old → IsAdded bounds plan island n old new → IsSoFar bounds plan island (n + 1) new
one_more bounds plan island n old new s a =
    let outcomes : IslandFound bounds plan island → List Outcome = λ one. own_outcomes one in
    let further : Reach → IslandFound bounds plan island → Reach = λ r one. both r (reach one.found) in
    let snapshots : IslandFound bounds plan island → ℕ = λ one. own_snapshots one in
    record {
      islands = s.islands ++ a.one ∷ [];
      numbers = map-append (λ one. one.number) s.islands (a.one ∷ []) ∙ ap (λ l. l ++ a.one.number ∷ []) s.numbers ∙ ap (λ m. range_with_len 0 n ++ m ∷ []) a.number ∙ sym (range_more n);
      observations = a.observations ∙ ap (λ l. l ++ own_outcomes a.one) s.observations ∙ ap (λ l. flat_map outcomes s.islands ++ l) (sym (append-nil (own_outcomes a.one))) ∙ sym (flat_map-append outcomes s.islands (a.one ∷ []));
      reach_is = a.reach_is ∙ ap (λ r. both r (reach a.one.found)) s.reach_is ∙ sym (fold-append further All s.islands (a.one ∷ []));
      snapshots = a.snapshots ∙ ap (λ m. m + own_snapshots a.one) s.snapshots ∙ sym (sum_by_push snapshots s.islands a.one);
    }

-- all of them
pub all_there : (bounds : Bounds) (plan : Plan) (numbers : NodeNumbers) (n : ℕ) (all : Apart) → AreIslands plan numbers
    → n ≡ (if has_rest plan (island_in numbers) numbers.count then numbers.count + 1 else numbers.count) → IsSoFar bounds plan (island_in numbers) n all → IsApart bounds plan all
all_there bounds plan numbers n all are many s =
    let Are : (Node → ℕ) → Type 0 = λ f. (n ≡ (if has_rest plan f numbers.count then numbers.count + 1 else numbers.count)) × IsSoFar bounds plan f n all in
    let e : Are are.numbering.island = subst Are (sym (numbers_are plan numbers are)) (many, s) in
    record {
      found = record { count = numbers.count; numbering = are.numbering; loose = λ d. loose_within plan numbers are d; islands = e.1.islands; numbers = e.1.numbers ∙ ap (range_with_len 0) e.0 };
      observations = e.1.observations;
      reach_is = e.1.reach_is;
      snapshots = e.1.snapshots;
    }

pub rest_there : (bounds : Bounds) (plan : Plan) (numbers : NodeNumbers) (old new : Apart) → AreIslands plan numbers → has_rest plan (island_in numbers) numbers.count ≡ true
    → IsSoFar bounds plan (island_in numbers) numbers.count old → IsAdded bounds plan (island_in numbers) numbers.count old new → IsApart bounds plan new
rest_there bounds plan numbers old new are is s a =
    all_there bounds plan numbers (numbers.count + 1) new are (rw is refl) (one_more bounds plan (island_in numbers) numbers.count old new s a)

pub no_rest : (bounds : Bounds) (plan : Plan) (numbers : NodeNumbers) (all : Apart) → AreIslands plan numbers → has_rest plan (island_in numbers) numbers.count ≡ false
    → IsSoFar bounds plan (island_in numbers) numbers.count all → IsApart bounds plan all
no_rest bounds plan numbers all are is s = all_there bounds plan numbers numbers.count all are (rw is refl) s

-- the text of what was found
pub told_apart : (bounds : Bounds) (plan : Plan) (differ : Bool) (all : Apart) (f : IsApart bounds plan all) (observations : List Outcome) → observations ≡ all.observations.items
    → told plan differ all.reach all.snapshots observations ≡ told plan differ (reach_in f.found.islands) (snapshots_in f.found.islands) (outcomes_in f.found.islands)
told_apart bounds plan differ all f observations is =
    ap (λ (r : Reach). told plan differ r all.snapshots observations) f.reach_is
    ∙ (ap (λ (n : ℕ). told plan differ (reach_in f.found.islands) n observations) f.snapshots
    ∙ ap (told plan differ (reach_in f.found.islands) (snapshots_in f.found.islands)) (is ∙ f.observations))
