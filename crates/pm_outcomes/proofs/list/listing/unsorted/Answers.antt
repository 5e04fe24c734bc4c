use Rattle.std.proofs.Common.{ℕ, sym, ◌∙◌}
use Rattle.pm_outcomes.specs.declared.list.observations.Observation.{Observation}
use Rattle.pm_outcomes.specs.list.Listing.{outcome_of}
use Rattle.pm_outcomes.proofs.list.ListingLemmas.{none_more, told_more}
use Rattle.pm_outcomes.proofs.list.listing.unsorted.Goals.{in-Some-outcome_of+in_ok-push, in_default-outcome_of}
use Rattle.pm_outcomes.proofs.list.listing.unsorted.Goals as goal

pub loop-i-preserved : goal.loop-i-preserved
loop-i-preserved c =
    let told = outcome_of c.args.rounds.now c.args.whole in
    let firsts = c.args.firsts.now.entries.entries in
    let first : Observation × ℕ = (c.in-Some.observation.now, c.in-Some.place.now) in
    let there = sym c.in-Some.ensures.entry in
    elim c.match-outcome_of.branch [
      | in-Some-outcome_of+in_ok-push w ↦
          let more = told_more told firsts c.loop-i.out.items c.loop-i.i first w.in-Some-outcome_of.outcome there c.loop-i.invariant (sym c.outcome_of.ensures ∙ w.in-Some-outcome_of.is) in
          rw w.out-is (w.in_ok-push.ensures.items ∙ more)
      | in_default-outcome_of w ↦
          let more = none_more told firsts c.loop-i.out.items c.loop-i.i first there c.loop-i.invariant (sym w.in_default-outcome_of.ensures) in
          rw w.out-is more
    ]
