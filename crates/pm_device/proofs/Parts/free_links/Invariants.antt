use Rattle.std.proofs.Common.{◌≡◌, true}
use Rattle.pm_model.specs.CanTake.{can_free}
use Rattle.pm_model.specs.Events.{frees_links}
use Rattle.pm_device.proofs.FreeLemmas.{held_count}
use Rattle.pm_device.proofs.Parts.free_links.Given as goal

abbrev pub invariant-loop-link : goal.invariant-loop-link
invariant-loop-link l = record {
  shape : l.self.shape ≡ l.initial.self.shape;
  can_free : can_free l.plan l.self.views l.consumer ≡ true;
  as_before : frees_links l.plan l.consumer l.self.views ≡ frees_links l.plan l.consumer l.initial.self.views;
}

abbrev pub decreases-loop-link : goal.decreases-loop-link
decreases-loop-link l = held_count l.self.views.held
