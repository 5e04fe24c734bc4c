-- What is pending for a link in all places, where an actor's stage gives way.
use Rattle.std.proofs.Common.{ℕ, ◌≡◌, ◌+◌, ◌≤◌, Bool, false, not, ◌&&◌, List, Option, Some, None, ℤ, drop, refl, arith}
use Rattle.std.specs.List.{sum_by}
use Rattle.std.specs.Option.{option_map_or}
use Rattle.std.proofs.lemmas.List.Sums.{sum_by-append}
use Rattle.pm_base.specs.declared.ActorId.{ActorId}
use Rattle.pm_base.specs.declared.DevId.{DevId}
use Rattle.pm_model.specs.declared.plan.Plan.{Plan}
use Rattle.pm_model.specs.declared.stage.HelperStage.TheVariants as at
use Rattle.pm_model.specs.declared.stage.Stage.{Stage}
use Rattle.pm_model.specs.declared.stage.Stage.TheVariants as stage
use Rattle.pm_model.specs.declared.stage.Then.{Then}
use Rattle.pm_model.specs.Excuse.{is_denied}
use Rattle.pm_model.specs.Handing.{after_back, after_then}
use Rattle.pm_model.specs.World.{World, place, with_place, stage_at}
use Rattle.pm_laws.specs.counts.Sums.{one, tally, weigh}
use Rattle.pm_laws.proofs.counts.Tally.{weigh_is}
use Rattle.pm_laws.specs.counts.Owners.{places}
use Rattle.pm_laws.proofs.counts.Places.{IsPlaced, tally_placed}
use Rattle.pm_laws.specs.safe.Pends.{asks, is_up, is_for, pends, is_bad_answer, falls_back, consumer}
use Rattle.pm_laws.proofs.safe.Pending.{Asked, Each, IsOfConsumer, falls, ends}
use Rattle.pm_laws.proofs.stacks.Standing.{IsStart, stands, stands_sum}

-- what a stage that gives way leaves pending beside what stood below
abbrev left_by : ℕ → Option ℕ → Option ℤ → List Stage → ℕ
left_by l q None push = weigh (pends l) push
left_by l q (Some c) push = one (not (is_up c) && is_for l q)

abbrev pub left : ℕ → Option ℕ → Then → ℕ
left l q next = left_by l q next.back next.push

-- the code of a stage that ends is such an answer
abbrev pub ends_bad : ℕ → Then → List Stage → Bool
ends_bad l next rest = option_map_or (is_bad_answer l rest) next.back false

pub then_falls : (l : ℕ) (q : Option ℕ) (next : Then) (rest : List Stage) → Asked q rest
    → sum_by (pends l) (after_then next rest) + one (ends_bad l next rest) ≡ left l q next + sum_by (pends l) rest
then_falls l q next rest asked = go next.back next.push
  where
    go : (back : Option ℤ) (push : List Stage)
        → sum_by (pends l) (after_back back push rest) + one (option_map_or (is_bad_answer l rest) back false) ≡ left_by l q back push + sum_by (pends l) rest
    go None push = omega (arith, sum_by-append (pends l) push rest, weigh_is (pends l) push)
    go (Some c) push = omega (arith, falls l q rest c asked)

pub start_pends : (l : ℕ) (s : Stage) → IsStart s → pends l s ≡ 0
start_pends l (stage.Helper (at.Call c)) is = refl
start_pends l (stage.Helper (at.Work d)) is = refl
start_pends l (stage.Helper (at.Timer d)) is = refl
start_pends l _ is = elim is [ ]

-- the sum falls by what is done, and by an answer that isn't that the supplier is up
pub pends_goes : (plan : Plan) (w : World) (a : ActorId) (s : Stage) (next : Then) (l : ℕ) → IsPlaced w a → stage_at plan w a ≡ Some s
    → Asked (asks s) (drop 1 (place w a))
    → tally (pends l) (places (with_place w a (after_then next (drop 1 (place w a))))) + pends l s + one (ends_bad l next (drop 1 (place w a)))
    ≡ tally (pends l) (places w) + left l (asks s) next
pends_goes plan w a s next l placed e asked =
    let rest = drop 1 (place w a) in
    omega (arith, tally_placed (pends l) w a (after_then next rest) placed, then_falls l (asks s) next rest asked, stands_sum (pends l) s (place w a) (start_pends l s) (stands plan w a s e))

-- and such an answer is a denial, as the excuse has it, or the consumer gives back what it took
pub bad_answers : (plan : Plan) (l : ℕ) (d : DevId) (next : Then) (rest : List Stage) → Each (IsOfConsumer plan) rest → consumer plan l ≡ Some d
    → one (ends_bad l next rest) ≤ one (option_map_or (is_denied l rest) next.back false) + sum_by (falls_back d) (after_then next rest)
bad_answers plan l d next rest each of_l = go next.back next.push
  where
    go : (back : Option ℤ) (push : List Stage)
        → one (option_map_or (is_bad_answer l rest) back false) ≤ one (option_map_or (is_denied l rest) back false) + sum_by (falls_back d) (after_back back push rest)
    go None push = omega arith
    go (Some c) push = ends plan l d rest c each of_l
