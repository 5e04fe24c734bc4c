-- Each by computing what the call table gives at that place.
use Rattle.std.proofs.Common.{refl}
use Rattle.pm_show_runs.proofs.CallTable.{call_table}
use Rattle.pm_show_runs.proofs.RefusalLemmas.{refused}
use Rattle.pm_show_runs.proofs.refusals.cancelled_timers.Goals as goal

pub returns-clause-begun : goal.returns-clause-begun
unfolding call_table
returns-clause-begun c = refused _ _ _ _ refl refl

pub returns-clause-asked : goal.returns-clause-asked
unfolding call_table
returns-clause-asked c = refused _ _ _ _ refl refl

pub returns-clause-too_early : goal.returns-clause-too_early
unfolding call_table
returns-clause-too_early c = refused _ _ _ _ refl refl

pub returns-clause-suspend_waits : goal.returns-clause-suspend_waits
unfolding call_table
returns-clause-suspend_waits c = refused _ _ _ _ refl refl

pub returns-clause-resume_waits : goal.returns-clause-resume_waits
unfolding call_table
returns-clause-resume_waits c = refused _ _ _ _ refl refl

pub returns-clause-failed : goal.returns-clause-failed
unfolding call_table
returns-clause-failed c = refused _ _ _ _ refl refl

pub returns-clause-deferred : goal.returns-clause-deferred
unfolding call_table
returns-clause-deferred c = refused _ _ _ _ refl refl

pub returns-clause-asked_again : goal.returns-clause-asked_again
unfolding call_table
returns-clause-asked_again c = refused _ _ _ _ refl refl

pub returns-clause-waited_for : goal.returns-clause-waited_for
unfolding call_table
returns-clause-waited_for c = refused _ _ _ _ refl refl

pub returns-clause-queued : goal.returns-clause-queued
unfolding call_table
returns-clause-queued c = refused _ _ _ _ refl refl

pub returns-clause-queued_over_auto : goal.returns-clause-queued_over_auto
unfolding call_table
returns-clause-queued_over_auto c = refused _ _ _ _ refl refl

pub returns-clause-resume_failed : goal.returns-clause-resume_failed
unfolding call_table
returns-clause-resume_failed c = refused _ _ _ _ refl refl

pub returns-clause-no_callbacks : goal.returns-clause-no_callbacks
unfolding call_table
returns-clause-no_callbacks c = refused _ _ _ _ refl refl

pub returns-clause-barrier : goal.returns-clause-barrier
unfolding call_table
returns-clause-barrier c = refused _ _ _ _ refl refl

pub returns-clause-disable : goal.returns-clause-disable
unfolding call_table
returns-clause-disable c = refused _ _ _ _ refl refl

pub returns-clause-barrier_waits : goal.returns-clause-barrier_waits
unfolding call_table
returns-clause-barrier_waits c = refused _ _ _ _ refl refl

pub returns-clause-disable_waits : goal.returns-clause-disable_waits
unfolding call_table
returns-clause-disable_waits c = refused _ _ _ _ refl refl

pub returns-clause-begun_over_auto : goal.returns-clause-begun_over_auto
unfolding call_table
returns-clause-begun_over_auto c = refused _ _ _ _ refl refl

pub returns-clause-too_early_after_force : goal.returns-clause-too_early_after_force
unfolding call_table
returns-clause-too_early_after_force c = refused _ _ _ _ refl refl
