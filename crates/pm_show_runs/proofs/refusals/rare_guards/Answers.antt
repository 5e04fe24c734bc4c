-- Each by computing what the call table gives at that place.
use Rattle.std.proofs.Common.{refl}
use Rattle.pm_show_runs.proofs.CallTable.{call_table}
use Rattle.pm_show_runs.proofs.RefusalLemmas.{refused}
use Rattle.pm_show_runs.proofs.refusals.rare_guards.Goals as goal

pub returns-clause-idle_callback : goal.returns-clause-idle_callback
unfolding call_table
returns-clause-idle_callback c = refused _ _ _ _ refl refl

pub returns-clause-not_awaited : goal.returns-clause-not_awaited
unfolding call_table
returns-clause-not_awaited c = refused _ _ _ _ refl refl

pub returns-clause-taken_away : goal.returns-clause-taken_away
unfolding call_table
returns-clause-taken_away c = refused _ _ _ _ refl refl

pub returns-clause-found_active : goal.returns-clause-found_active
unfolding call_table
returns-clause-found_active c = refused _ _ _ _ refl refl

pub returns-clause-found_suspended : goal.returns-clause-found_suspended
unfolding call_table
returns-clause-found_suspended c = refused _ _ _ _ refl refl

pub returns-clause-absent : goal.returns-clause-absent
unfolding call_table
returns-clause-absent c = refused _ _ _ _ refl refl

pub returns-clause-disabled : goal.returns-clause-disabled
unfolding call_table
returns-clause-disabled c = refused _ _ _ _ refl refl

pub returns-clause-counted_twice : goal.returns-clause-counted_twice
unfolding call_table
returns-clause-counted_twice c = refused _ _ _ _ refl refl

pub returns-clause-code_of_call : goal.returns-clause-code_of_call
unfolding call_table
returns-clause-code_of_call c = refused _ _ _ _ refl refl

pub returns-clause-put_left_out : goal.returns-clause-put_left_out
unfolding call_table
returns-clause-put_left_out c = refused _ _ _ _ refl refl

pub returns-clause-given_in_link_order : goal.returns-clause-given_in_link_order
unfolding call_table
returns-clause-given_in_link_order c = refused _ _ _ _ refl refl

pub returns-clause-taken_by_barrier : goal.returns-clause-taken_by_barrier
unfolding call_table
returns-clause-taken_by_barrier c = refused _ _ _ _ refl refl

pub returns-clause-taken_by_resume : goal.returns-clause-taken_by_resume
unfolding call_table
returns-clause-taken_by_resume c = refused _ _ _ _ refl refl
