use Rattle.pm_cmd_lab.proofs.orders.Exactly as proof
use Rattle.pm_cmd_lab.proofs.orders.laws.islands_are_exact.Goals as goal

pub returns-clause-homes : goal.returns-clause-homes
returns-clause-homes c = λ bounds plan found m of_plan. proof.homes bounds plan found m of_plan

pub returns-clause-within : goal.returns-clause-within
returns-clause-within c = λ bounds plan found one m k has at seen. proof.within bounds plan found one m k has at seen

pub returns-clause-of_all : goal.returns-clause-of_all
returns-clause-of_all c = λ bounds plan found one m has at whole. proof.of_all bounds plan found one m has at whole

pub returns-clause-rounds : goal.returns-clause-rounds
returns-clause-rounds c = λ bounds plan found one k has is. proof.rounds bounds plan found one k has is
