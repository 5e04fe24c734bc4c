use Rattle.std.proofs.Common.{ℕ, ◌<◌, ◌^◌, IfSome}
use Rattle.pm_model.specs.Derived.{expiry}
use Rattle.pm_driver_search.proofs.moments.expire_early.Given as goal

abbrev pub invariant-loop-dev : goal.invariant-loop-dev
invariant-loop-dev l = (d : ℕ) → d < l.dev → IfSome (expiry l.state.world.views (record { 0 = d })) (λ t. t < 2 ^ 63)
