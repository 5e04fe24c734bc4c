-- The list is sorted by ranks, so in the order of the text.
use Rattle.std.proofs.Common.{◌≡◌, ◌+◌, ℕ, List, get_or, refl, subst, false}
use denote.Param.Members.{Mut}
use denote.Ref.{Bor}
use Rattle.std.specs.Fn.{Called}
use Rattle.std.proofs.lemmas.Fn.{always_returns_same}
use Rattle.std.specs.List.Sorted.{IsSorted, IsSortedByKey, IsSortedByKeyClosure}
use Rattle.std.specs.Ordering.{is_lt}
use Rattle.pm_outcomes.specs.declared.list.observations.Observation.{Observation}
use Rattle.pm_outcomes.specs.declared.list.observations.Observation.TheVariants.{End, Return}
use Rattle.pm_outcomes.specs.declared.list.observations.Outcome.{Outcome}
use Rattle.pm_outcomes.specs.declared.list.ranks.Rank.{Rank}
use Rattle.pm_outcomes.specs.contracts.list.ranks.RankOrd.TheImpl.{cmp-value}
use Rattle.pm_outcomes.specs.list.Order.{by_observation, by_text}
use Rattle.pm_outcomes.specs.list.Ranks.{rank_at, rank_of}

by_observations : (a : Observation) (k : ℕ) (b : Observation) (l : ℕ) → cmp-value.it (rank_at a k) (rank_at b l) ≡ by_observation a k b l
by_observations (Return a) k (Return b) l = refl
by_observations (Return a) k (End b) l = refl
by_observations (End a) k (Return b) l = refl
by_observations (End a) k (End b) l = refl

same_order : (a b : Outcome) → cmp-value.it (rank_of a) (rank_of b) ≡ by_text a b
same_order a b = by_observations a.observation a.round b.observation b.round

pub sorted_by_text : {F : Type 0} {g : Mut F (Bor Outcome × Unit {0}) Rank} {f : F} (out : List Outcome) → IsSortedByKeyClosure g cmp-value.it f out
    → ((a : Bor Outcome × Unit {0}) (r : Rank) (f' : F) → Called g f a r f' → (r ≡ rank_of a.0.now) × (f' ≡ f)) → IsSorted by_text out
sorted_by_text {F} {g} {f} out sorted computes =
    let by_rank : IsSortedByKey rank_of cmp-value.it out = sorted rank_of (always_returns_same g _ f computes) in
    λ k d low high. subst (λ o. is_lt o ≡ false) (same_order (get_or out (k + 1) d) (get_or out k d)) (by_rank k d low high)
